-- The lines that replace an EQU name, one at a time, are the defined ones.
use Rattle.std.proofs.Common.{◌≡◌, ℕ, zero, suc, ◌+◌, ◌-◌, ◌<◌, ◌≤◌, List, [], ◌∷◌, ◌++◌, length, drop, get_or, map, Bool, true, false, Option, Some, None, Ok, Result, refl, ap, sym, subst, ◌∙◌, arith}
use Rattle.std.proofs.Math.Seq.{drop-cons}
use Rattle.redcode_text.specs.Results.{◌>>=◌}
use Rattle.redcode_text.specs.declared.fault.TextTokenProblem.{TextTokenProblem}
use Rattle.redcode_text.specs.declared.token.Token.{Token}
use Rattle.redcode_text.specs.Lines.{Reading, Step, prepend_to_first, append_to_last, each_line, unless_ended}
use Rattle.redcode_text.specs.Code.Problems.{Fails}
use Rattle.redcode_text.specs.Code.Used.{before_line, lines_under, read_one, used}
use Rattle.redcode_text.proofs.Failing.{fails-bind}

behind-used : (l : List Token) (ls : List (List Token)) (behind : List Token) → used [] (l ∷ ls) behind ≡ append_to_last (l ∷ ls) behind
behind-used l [] behind = refl
behind-used l (m ∷ ls) behind = ap (λ r. l ∷ r) (behind-used m ls behind)

pub used-is : (before : List Token) (lines : List (List Token)) (behind : List Token) → used before lines behind ≡ append_to_last (prepend_to_first before lines) behind
used-is before [] behind = refl
used-is before (l ∷ []) behind = refl
used-is before (l ∷ m ∷ ls) behind = ap (λ r. (before ++ l) ∷ r) (behind-used m ls behind)

-- At least one line replaces an EQU name.
pub used-length : (before : List Token) (lines : List (List Token)) (behind : List Token) → length (used before lines behind) ≡ length lines - 1 + 1
used-length before [] behind = refl
used-length before (l ∷ []) behind = refl
used-length before (l ∷ m ∷ ls) behind = omega (arith, used-length [] (m ∷ ls) behind)

nothing-before : (at : ℕ) → before_line [] at ≡ []
nothing-before zero = refl
nothing-before (suc at) = refl

module _ {T : Type 0} (f : T → List Token) where
  -- How a line before the last is built.
  pub used-before-last : (before : List Token) (lines : List T) (behind : List Token) (at : ℕ) (d : List Token) (x : T) → at + 1 < length lines → x ≡ get_or lines at x
      → before_line before at ++ f x ≡ get_or (used before (map f lines) behind) at d
  used-before-last before [] behind at d x h is = absurd (omega (arith, h))
  used-before-last before (l ∷ []) behind at d x h is = absurd (omega (arith, h))
  used-before-last before (l ∷ m ∷ ls) behind zero d x h is = ap (λ y. before ++ f y) is
  used-before-last before (l ∷ m ∷ ls) behind (suc at) d x h is =
      ap (λ b. b ++ f x) (sym (nothing-before at)) ∙ used-before-last [] (m ∷ ls) behind at d x (omega (arith, h)) is

  -- How the last line is built.
  pub used-last : (before : List Token) (lines : List T) (behind : List Token) (at : ℕ) (d : List Token) → at ≡ length lines - 1
      → get_or (used (before_line before at) (map f (drop at lines)) behind) 0 d ≡ get_or (used before (map f lines) behind) at d
  used-last before [] behind zero d h = refl
  used-last before [] behind (suc at) d h = absurd (omega (arith, h))
  used-last before (l ∷ []) behind zero d h = refl
  used-last before (l ∷ []) behind (suc at) d h = absurd (omega (arith, h))
  used-last before (l ∷ m ∷ ls) behind zero d h = absurd (omega (arith, h))
  used-last before (l ∷ m ∷ ls) behind (suc at) d h =
      ap (λ b. get_or (used b (map f (drop at (m ∷ ls))) behind) 0 d) (sym (nothing-before at)) ∙ used-last [] (m ∷ ls) behind at d (omega (arith, h))

-- The lines of an operation depend only on the EQU names.
pub under-same : (operation : Option ℕ) (st other : Reading) → st.equates ≡ other.equates → lines_under st operation ≡ lines_under other operation
under-same None st other same = refl
under-same (Some n) st other same = rw same refl

abbrev ok : List Token → Result (List Token) TextTokenProblem
ok l = Ok l

-- The line that was built for an index is the defined line, if the EQU names are unchanged since the start.
pub line-at : (operation : Option ℕ) (st first : Reading) (before behind : List Token) (at : ℕ) (lines : List (List Token)) (line read : List Token) → st.equates ≡ first.equates → lines ≡ lines_under st operation
    → ok (get_or (used before lines behind) at []) ≡ ok line → read ≡ line → get_or (used before (lines_under first operation) behind) at [] ≡ read
line-at operation st first before behind at lines line read same is made e =
    let found : get_or (used before lines behind) at [] ≡ line = cc in
    ap (λ ls. get_or (used before ls behind) at []) (sym (is ∙ under-same operation st first same)) ∙ found ∙ sym e

module _ (ordinary : List Token → Step) (ls : List (List Token)) (at : ℕ) (line : List Token) (st : Reading) (whole : Result Reading TextTokenProblem) where
  next : at < length ls → get_or ls at [] ≡ line → each_line ordinary (drop at ls) st ≡ whole → (read_one ordinary line st >>= λ a. unless_ended a (each_line ordinary (drop (at + 1) ls))) ≡ whole
  next h found is =
      let n : suc at ≡ at + 1 = omega arith in
      (λ i. read_one ordinary (sym found i) st >>= λ a. unless_ended a (each_line ordinary (drop (sym n i) ls)))
      ∙ ap (λ l. each_line ordinary l st) (sym (drop-cons ls at [] h))
      ∙ is

  -- If reading one line fails, reading the lines fails.
  pub line-fails : (e : TextTokenProblem) → at < length ls → get_or ls at [] ≡ line → each_line ordinary (drop at ls) st ≡ whole → Fails e (read_one ordinary line st) → Fails e whole
  line-fails e h found is fails =
      subst (Fails e) (next h found is) (fails-bind e (read_one ordinary line st) (λ a. unless_ended a (each_line ordinary (drop (at + 1) ls))) fails)

  -- After a line was read, the lines after it are read.
  pub line-done : (a : Reading) → at < length ls → get_or ls at [] ≡ line → each_line ordinary (drop at ls) st ≡ whole → read_one ordinary line st ≡ Ok a → a.ended ≡ false → each_line ordinary (drop (at + 1) ls) a ≡ whole
  line-done a h found is done goes =
      ap (λ (b : Bool). elim b as (λ _. Result Reading TextTokenProblem) [ true ↦ Ok a | false ↦ each_line ordinary (drop (at + 1) ls) a ]) (sym goes)
      ∙ ap (λ r. r >>= λ a. unless_ended a (each_line ordinary (drop (at + 1) ls))) (sym done)
      ∙ next h found is

  -- After a line with END was read, no other line is read.
  pub line-ends : (a : Reading) → at < length ls → get_or ls at [] ≡ line → each_line ordinary (drop at ls) st ≡ whole → read_one ordinary line st ≡ Ok a → a.ended ≡ true → whole ≡ Ok a
  line-ends a h found is done ends =
      sym (next h found is)
      ∙ ap (λ r. r >>= λ a. unless_ended a (each_line ordinary (drop (at + 1) ls))) done
      ∙ ap (λ (b : Bool). elim b as (λ _. Result Reading TextTokenProblem) [ true ↦ Ok a | false ↦ each_line ordinary (drop (at + 1) ls) a ]) ends

-- After the last line, reading is done.
pub lines-done : (ordinary : List Token → Step) (ls : List (List Token)) (at : ℕ) (st : Reading) (whole : Result Reading TextTokenProblem) → length ls ≤ at → each_line ordinary (drop at ls) st ≡ whole → whole ≡ Ok st
lines-done ordinary [] zero st whole h is = sym is
lines-done ordinary [] (suc at) st whole h is = sym is
lines-done ordinary (l ∷ ls) zero st whole h is = absurd (omega (arith, h))
lines-done ordinary (l ∷ ls) (suc at) st whole h is = lines-done ordinary ls at st whole (omega (arith, h)) is
