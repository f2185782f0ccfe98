use Rattle.redcode_asm.proofs.Commas.{parts-whole}
use Rattle.redcode_asm.proofs.operands.split_comma.Goals as goal

pub loop-at-init : goal.loop-at-init
loop-at-init c = parts-whole c.args.tokens.now
