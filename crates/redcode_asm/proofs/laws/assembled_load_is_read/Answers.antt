use Rattle.redcode_asm.proofs.ForLaws.ReadBack.{read-back}
use Rattle.redcode_asm.proofs.laws.assembled_load_is_read.Goals as goal

pub returns : goal.returns
returns c = read-back
