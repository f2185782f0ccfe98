use Rattle.redcode_asm.proofs.ForLaws.InFront.{nothing-moved}
use Rattle.redcode_asm.proofs.laws.prepended_instructions_keep_cells.Goals as goal

pub returns : goal.returns
returns c ps m source line is unlabelled free = nothing-moved ps source line unlabelled is free m
