-- Lines before the first `;redcode`, and the body of a loop without iterations, have no effect.
use Rattle.std.proofs.Common.{◌≡◌, ◌∙◌, refl, ℕ, suc, zero, List, [], ◌∷◌, ◌++◌, Bool, true, false, ◌||◌, Option, Result, Ok, Err, IfOk, ap, sym}
use Rattle.std.specs.List.{list_any}
use Rattle.redcode_text.specs.Results.{◌>>=◌}
use Rattle.redcode_text.specs.declared.fault.TextFault.{TextFault}
use Rattle.redcode_text.specs.declared.fault.TextTokenProblem.{TextTokenProblem}
use Rattle.redcode_text.specs.Tokens.{at_line}
use Rattle.redcode_text.specs.Source.{SourceRow, Items, Loop, begins_redcode, from_redcode, read_rows}
use Rattle.redcode_text.specs.Lines.{Reading, Predefined, unless_ended}
use Rattle.redcode_text.specs.Expansion.{Head, flat, head_line, rounds}

-- ---- Before the first `;redcode`

any-behind-by : (b c d : Bool) → (d ≡ true → c ≡ true) → d ≡ true → (b || c) ≡ true
any-behind-by true c d h e = refl
any-behind-by false c d h e = h e

any-behind : (before rows : List SourceRow) → list_any begins_redcode rows ≡ true → list_any begins_redcode (before ++ rows) ≡ true
any-behind [] rows e = e
any-behind (row ∷ before) rows e = any-behind-by (begins_redcode row) (list_any begins_redcode (before ++ rows)) (list_any begins_redcode rows) (any-behind before rows) e

from-behind-by : (b c : Bool) (found left right : List SourceRow) → (b || c) ≡ false → (c ≡ false → left ≡ right) → (elim b [ true ↦ found | false ↦ left ]) ≡ right
from-behind-by true c found left right none h = cc
from-behind-by false c found left right none h = h none

from-behind : (before rows : List SourceRow) → list_any begins_redcode before ≡ false → from_redcode (before ++ rows) ≡ from_redcode rows
from-behind [] rows none = refl
from-behind (row ∷ before) rows none =
    from-behind-by (begins_redcode row) (list_any begins_redcode before) (row ∷ (before ++ rows)) (from_redcode (before ++ rows)) (from_redcode rows) none (from-behind before rows)

read-by : (b : Bool) (from all : List SourceRow) → b ≡ true → (elim b [ true ↦ from | false ↦ all ]) ≡ from
read-by true from all e = refl
read-by false from all e = cc

pub read-behind : (before rows : List SourceRow) → list_any begins_redcode before ≡ false → list_any begins_redcode rows ≡ true → read_rows (before ++ rows) ≡ read_rows rows
read-behind before rows none some =
    read-by (list_any begins_redcode (before ++ rows)) (from_redcode (before ++ rows)) (before ++ rows) (any-behind before rows some)
    ∙ from-behind before rows none
    ∙ sym (read-by (list_any begins_redcode rows) (from_redcode rows) rows some)

-- ---- In a loop without iterations

no-rounds-by : (counter : Option (List ℕ)) (count : ℕ) (f g : Reading → Result Reading TextFault) (st : Reading) → count ≡ 0
    → rounds f counter 1 count st ≡ rounds g counter 1 count st
no-rounds-by counter zero f g st e = refl
no-rounds-by counter (suc n) f g st e = cc

in-no-round-by : (number : ℕ) (r : Result Head TextTokenProblem) (f g next : Reading → Result Reading TextFault) → IfOk r (λ (h : Head). h.count ≡ 0)
    → (at_line number r >>= λ h. rounds f h.counter 1 h.count h.reading >>= λ a. unless_ended a next)
    ≡ (at_line number r >>= λ h. rounds g h.counter 1 h.count h.reading >>= λ a. unless_ended a next)
in-no-round-by number (Ok h) f g next e = ap (λ r. r >>= λ a. unless_ended a next) (no-rounds-by h.counter h.count f g h.reading e)
in-no-round-by number (Err problem) f g next e = refl

pub in-no-round : (ps : Predefined) (head rof : SourceRow) (body other rest : Items) (st : Reading)
    → IfOk (head_line ps head st) (λ (h : Head). h.count ≡ 0)
    → flat ps (Loop head body rof rest) st ≡ flat ps (Loop head other rof rest) st
in-no-round ps head rof body other rest st e = in-no-round-by head.number (head_line ps head st) (flat ps body) (flat ps other) _ e
