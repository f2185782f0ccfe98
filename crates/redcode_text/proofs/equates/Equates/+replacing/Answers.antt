use Rattle.redcode_text.proofs.Replacing.{replaced-deeper}
use Rattle.redcode_text.proofs.equates.Equates.+replacing.Goals as goal

pub replace-returns : goal.replace-returns
replace-returns t c = rw (replaced-deeper _ _ _ _ c.args.name _ _ c.if-depth-eq0.false c.in_ok-line.ensures c.in_ok-count_one.ensures) c.replace_each.ensures
