-- What the code retains from round to round and from match to match. Only the proofs use these definitions.
use Rattle.std.specs.Prelude.{◌≡◌, ℕ, ◌+◌, ℤ, pos, List, Option, None, Some, IfSome, Ok, slice_index_or}
use Rattle.redcode_text.specs.Tokens.{Scanned}
use Rattle.redcode_asm.specs.Formula.{score_of}
use Rattle.mars_match.specs.Code.Lineups.{HasRoom}
use Rattle.mars_match.specs.declared.matches.Matches.{Matches}
use Rattle.mars_match.specs.declared.setup.Setup.{Setup}

-- Each known score is the value of the formula. The score for `s` survivors has the index `s - 1`.
abbrev pub AreScores : Scanned → ℕ → List (Option ℤ) → Type 0
AreScores formula warriors scores = (i : ℕ) (score : ℤ) → slice_index_or scores i None ≡ Some score → score_of formula (pos warriors) (pos (i + 1)) ≡ Ok score

-- The retained battle has memory for `warriors` warriors, and the retained scores are right.
pub record IsKept (setup : Setup) (warriors : ℕ) (matches : Matches) : Type 0 where
  pub room : IfSome matches.last (λ battle. HasRoom setup.params warriors battle.value)
  pub scores : AreScores setup.formula warriors matches.scores
