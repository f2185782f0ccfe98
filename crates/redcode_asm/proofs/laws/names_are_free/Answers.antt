use Rattle.redcode_asm.proofs.ForLaws.FreeNames.{warrior-same}
use Rattle.redcode_asm.proofs.laws.names_are_free.Goals as goal

pub returns : goal.returns
returns c ps p source names same = warrior-same ps source names same p
