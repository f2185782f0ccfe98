use Rattle.std.proofs.Common.{◌≡◌, ◌∷◌, ◌∙◌, sym}
use Rattle.mars_cell.proofs.PartsOf.{parts-end, part_joined, part_single}
use Rattle.mars_cell.proofs.parts.LineParts.take_first.Goals as goal
use Rattle.mars_cell.proofs.parts.LineParts.take_first.Goals.{then-is_joining, else-is_joining}

pub returns-in_default : goal.returns-in_default
returns-in_default c = parts-end c.args.self.now.rest.now c.split_at.result.1.now (rw c.blank_len-blanks.ensures at c.split_at.ensures.back) c.in_default.ensures.cases

pub returns : goal.returns
returns c =
    let text : c.split_at.result.1.now ≡ c.in-Some.first.now ∷ c.in-Some.after.now = c.in-Some.ensures.cases.0 in
    let after = rw c.blank_len-blanks.ensures at c.split_at.ensures.back in
    rw (c.split_at-2.ensures.front, c.split_at-2.ensures.back) (elim c.if-is_joining.branch [
      | then-is_joining w ↦ rw (w.count-is, w.word_len.ensures, text) (part_joined c.args.self.now.rest.now c.in-Some.first.now c.in-Some.after.now (sym after ∙ text) (sym w.if-is_joining.ensures))
      | else-is_joining w ↦ rw (w.count-is, text) (part_single c.args.self.now.rest.now c.in-Some.first.now c.in-Some.after.now (sym after ∙ text) (sym w.if-is_joining.ensures))
    ])
