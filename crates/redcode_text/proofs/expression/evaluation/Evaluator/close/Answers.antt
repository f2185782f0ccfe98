use Rattle.std.proofs.Common.{arith, rules, ◌≤◌, subst, sym}
use Rattle.redcode_text.specs.Code.Climbing.{AreInside}
use Rattle.redcode_text.specs.Code.Progress.{Progress}
use Rattle.redcode_text.proofs.Reducing.{inside-open}
use Rattle.redcode_text.proofs.expression.evaluation.Evaluator.close.Goals as goal
use Rattle.redcode_text.proofs.expression.evaluation.Evaluator.close.Given.{Over}
use Rattle.redcode_text.proofs.expression.evaluation.Evaluator.close.Goals.{In-Some}

-- The unary operators are before the parenthesis.
inside : (g : Over) (c : In-Some g) → (c.in-Some.from ≤ c.in-Some.to) × (c.in-Some.to ≤ c.args.at)
inside g c =
    let before = subst (λ (p : Progress). AreInside c.args.at p.stack) (sym c.self.view_is) c.requires.inside in
    inside-open c.args.at _ _ _ _ c.in-Some.ensures.taken (c.in_ok-inner.ensures.inside c.args.at before)

pub offset_bounds-tokens-from : goal.offset_bounds-tokens-from
offset_bounds-tokens-from g c = let i = inside g c in let le : c.in-Some.from ≤ c.args.at = omega arith in search (rules, le)

pub slice_bounds-apply_signs-count : goal.slice_bounds-apply_signs-count
slice_bounds-apply_signs-count g c = let i = inside g (goal.at.slice_bounds-apply_signs-count g c).In-Some in omega arith

pub slice_bounds-apply_signs-start : goal.slice_bounds-apply_signs-start
slice_bounds-apply_signs-start g c = let i = inside g (goal.at.slice_bounds-apply_signs-start g c).In-Some in omega arith

pub slice_bounds-apply_signs-end : goal.slice_bounds-apply_signs-end
slice_bounds-apply_signs-end g c = let i = inside g (goal.at.slice_bounds-apply_signs-end g c).In-Some in omega arith
