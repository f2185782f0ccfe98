use Rattle.std.proofs.Common.{◌≡◌, ◌∷◌, ◌++◌, ◌%◌, ◌<◌, refl, ◌∙◌, ℕ, List, [], length, take, set, arith}
use Rattle.std.proofs.lemmas.List.{length-set}
use Rattle.mars_match.specs.Placement.{drawn}
use Rattle.mars_match.proofs.Draws.{draws_more, seed_after_more}
use Rattle.mars_match.proofs.placement.draw_values.Goals as goal

first : (xs ys : List ℕ) → 0 < length xs → take 1 (set xs 0 0) ++ ys ≡ 0 ∷ ys
first [] ys h = absurd (omega (arith, h))
first (x ∷ xs) ys h = refl

pub loop-i-init : goal.loop-i-init
loop-i-init c = record {
  values = first c.args.starts.now _ (omega arith);
  seed = refl;
}

pub loop-i-preserved : goal.loop-i-preserved
loop-i-preserved c =
    let xs = c.loop-i.starts in
    let i = c.loop-i.i in
    let state = c.loop-i.state in
    let inside : i < length xs = omega arith in
    let e : c.drawn-state.result ≡ drawn state = c.drawn-state.ensures in
    let len = length-set xs i (c.drawn-state.result % c.args.room) in
    record {
      values = rw (len, e) (draws_more c.args.room xs i state inside ∙ c.loop-i.invariant.values);
      seed = rw (len, e) (seed_after_more (length xs) i state inside ∙ c.loop-i.invariant.seed);
    }
