-- The scores that earlier rounds computed stay right when one more is stored.
use Rattle.std.proofs.Common.{◌≡◌, ℕ, ◌+◌, ◌<◌, ◌∙◌, sym, ℤ, pos, List, Option, None, Some, Ok, length, get_or, set, inl, inr, arith}
use Rattle.std.proofs.lemmas.List.{get_or-set_same, get_or-set_other}
use Rattle.std.proofs.lemmas.Bool.{cases_eq}
use Rattle.redcode_text.specs.Tokens.{Scanned}
use Rattle.redcode_asm.specs.Formula.{score_of}
use Rattle.mars_match.specs.Code.Keeping.{AreScores}

some_same : (y z : ℤ) → Some y ≡ Some z → y ≡ z
some_same y z e = grind (arith, e)

-- The scores are still right if one more is known.
pub one_more_known : (f : Scanned) (warriors : ℕ) (scores : List (Option ℤ)) (k : ℕ) (z : ℤ) → k < length scores →
    score_of f (pos warriors) (pos (k + 1)) ≡ Ok z → AreScores f warriors scores → AreScores f warriors (set scores k (Some z))
one_more_known f warriors scores k z inside right known i y e = elim (cases_eq i k) [
  | inl same ↦
      let there : get_or (set scores k (Some z)) i None ≡ Some z = rw same (get_or-set_same scores k (Some z) None inside) in
      rw (same, some_same y z (sym e ∙ there)) right
  | inr other ↦ known i y (sym (get_or-set_other scores k i (Some z) None other) ∙ e)
]
