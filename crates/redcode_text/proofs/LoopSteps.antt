-- The items of a source, and the iterations of a loop, one at a time.
use Rattle.std.proofs.Common.{◌≡◌, ◌∙◌, ℕ, zero, suc, ◌+◌, ◌-◌, ◌<◌, ◌≤◌, List, ◌∷◌, length, Bool, true, false, Option, Result, Ok, Err, ap, refl, subst, sym, arith, get_or}
use Rattle.std.proofs.lemmas.List.{get_or_default}
use Rattle.redcode_text.specs.Results.{◌>>=◌}
use Rattle.redcode_text.specs.declared.source.row.SourceRow as code
use Rattle.redcode_text.specs.Code.Pairs.{here_from, EndsAt}
use Rattle.redcode_text.proofs.PairSteps.{for-at}
use Rattle.redcode_text.specs.declared.fault.TextFault.{TextFault}
use Rattle.redcode_text.specs.declared.fault.TextProblem.{TextProblem}
use Rattle.redcode_text.specs.declared.fault.TextTokenProblem.{TextTokenProblem}
use Rattle.redcode_text.specs.declared.fault.TextProblem.TheVariants.{NotAscii, BadToken, UnclosedFor, RofAlone, BadCount, LabelInCount, Duplicate, EquDepth, TooLong, Expression, OutOfMemory}
use Rattle.redcode_text.specs.Expansion.{Head, flat, head_line, in_round, rof_line, rounds}
use Rattle.redcode_text.specs.Lines.{Predefined, Reading, unless_ended}
use Rattle.redcode_text.specs.Code.Loops.{IsFor, one_loop}
use Rattle.redcode_text.specs.Outcomes.{FailsAt}
use Rattle.redcode_text.specs.Code.Rows.{row_of}
use Rattle.redcode_text.specs.Source.{Items, Nothing, Loop, SourceRow}
use Rattle.redcode_text.specs.Tokens.{OpenLoop, at_line}
use Rattle.redcode_text.proofs.Kept.{Kept, rof-ended}

-- ---- Errors of the first step

then-problem : {A B : Type 0} (p : TextProblem) (fault : TextFault) (r : Result A TextFault) (f : A → Result B TextFault) → FailsAt p fault r → FailsAt p fault (r >>= f)
then-problem NotAscii fault r f h = ap (λ r. r >>= f) h
then-problem BadToken fault r f h = ap (λ r. r >>= f) h
then-problem UnclosedFor fault r f h = ap (λ r. r >>= f) h
then-problem RofAlone fault r f h = ap (λ r. r >>= f) h
then-problem BadCount fault r f h = ap (λ r. r >>= f) h
then-problem LabelInCount fault r f h = ap (λ r. r >>= f) h
then-problem Duplicate fault r f h = ap (λ r. r >>= f) h
then-problem EquDepth fault r f h = ap (λ r. r >>= f) h
then-problem TooLong fault r f h = ap (λ r. r >>= f) h
then-problem (Expression e) fault r f h = ap (λ r. r >>= f) h
then-problem OutOfMemory fault r f h = h

pub then-fails : {A B : Type 0} (fault : TextFault) (r : Result A TextFault) (f : A → Result B TextFault) → FailsAt fault.problem fault r → FailsAt fault.problem fault (r >>= f)
then-fails fault r f h = then-problem fault.problem fault r f h

pub then-ok : {A B : Type 0} (r : Result A TextFault) (x : A) (f : A → Result B TextFault) → r ≡ Ok x → (r >>= f) ≡ f x
then-ok r x f h = ap (λ r. r >>= f) h

-- ---- END

pub goes-on : (st : Reading) (f : Reading → Result Reading TextFault) → st.ended ≡ false → unless_ended st f ≡ f st
goes-on st f e = ap (λ (c : Bool). elim c as (λ _. Result Reading TextFault) [ true ↦ Ok st | false ↦ f st ]) e

pub stops : (st : Reading) (f : Reading → Result Reading TextFault) → st.ended ≡ true → unless_ended st f ≡ Ok st
stops st f e = ap (λ (c : Bool). elim c as (λ _. Result Reading TextFault) [ true ↦ Ok st | false ↦ f st ]) e

-- ---- A loop and what follows it

after-rof : (ps : Predefined) (rof : SourceRow) (rest : Items) (a : Reading) (c : Bool) → a.ended ≡ c
    → elim c as (λ _. Result Reading TextFault) [ true ↦ Ok a | false ↦ at_line rof.number (rof_line rof a) >>= flat ps rest ]
    ≡ (elim c as (λ _. Result Reading TextFault) [ true ↦ Ok a | false ↦ at_line rof.number (rof_line rof a) ] >>= λ b. unless_ended b (flat ps rest))
after-rof ps rof rest a true e = sym (stops a (flat ps rest) e)
after-rof ps rof rest a false e = go (rof_line rof a) (rof-ended rof a)
  where
    go : (r : Result Reading TextTokenProblem) → Kept (λ st. st.ended) a.ended r → (at_line rof.number r >>= flat ps rest) ≡ (at_line rof.number r >>= λ b. unless_ended b (flat ps rest))
    go (Ok b) k = sym (goes-on b (flat ps rest) (k ∙ e))
    go (Err p) k = refl

pub flat-loop : (ps : Predefined) (head : SourceRow) (body : Items) (rof : SourceRow) (rest : Items) (st : Reading)
    → flat ps (Loop head body rof rest) st ≡ (one_loop ps head body rof st >>= λ a. unless_ended a (flat ps rest))
flat-loop ps head body rof rest st = go (at_line head.number (head_line ps head st))
  where
    rounds_then : (r : Result Reading TextFault) → (r >>= λ a. unless_ended a (λ b. at_line rof.number (rof_line rof b) >>= flat ps rest)) ≡ ((r >>= λ a. unless_ended a (λ b. at_line rof.number (rof_line rof b))) >>= λ a. unless_ended a (flat ps rest))
    rounds_then (Ok a) = after-rof ps rof rest a a.ended refl
    rounds_then (Err p) = refl

    go : (r : Result Head TextFault) → (r >>= λ h. rounds (flat ps body) h.counter 1 h.count h.reading >>= λ a. unless_ended a (λ b. at_line rof.number (rof_line rof b) >>= flat ps rest))
        ≡ ((r >>= λ h. rounds (flat ps body) h.counter 1 h.count h.reading >>= λ a. unless_ended a (λ b. at_line rof.number (rof_line rof b))) >>= λ a. unless_ended a (flat ps rest))
    go (Ok h) = rounds_then (rounds (flat ps body) h.counter 1 h.count h.reading)
    go (Err p) = refl

-- ---- Iterations

pub one-round : (body : Reading → Result Reading TextFault) (counter : Option (List ℕ)) (n t : ℕ) (st : Reading) → t ≤ n
    → rounds body counter t (n + 1 - t) st ≡ (body (in_round counter t st) >>= λ a. unless_ended (record a { loops = st.loops }) (rounds body counter (t + 1) (n + 1 - (t + 1))))
one-round body counter n t st h =
    let e : n + 1 - t ≡ suc (n + 1 - (t + 1)) = omega arith in
    ap (λ m. rounds body counter t m st) e

-- A loop without a body has no effect.
pub empty-rounds : (ps : Predefined) (counter : Option (List ℕ)) (n t : ℕ) (st : Reading) → rounds (flat ps Nothing) counter t n st ≡ Ok st
empty-rounds ps counter zero t st = refl
empty-rounds ps counter (suc n) t st = go st.ended (empty-rounds ps counter n (t + 1) st)
  where
    go : (c : Bool) → rounds (flat ps Nothing) counter (t + 1) n st ≡ Ok st → elim c as (λ _. Result Reading TextFault) [ true ↦ Ok st | false ↦ rounds (flat ps Nothing) counter (t + 1) n st ] ≡ Ok st
    go true ih = refl
    go false ih = ih

-- The remaining iterations are one iteration, for which the loop is opened and closed again, and the iterations after
-- it.
round-once : (body : Reading → Result Reading TextFault) (counter : Option (List ℕ)) (n t : ℕ) (st : Reading) (l : List OpenLoop) (whole : Result Reading TextFault)
    → t ≤ n → rounds body counter t (n + 1 - t) st ≡ whole → l ≡ record { counter = counter; round = t } ∷ st.loops
    → whole ≡ (body (record st { loops = l }) >>= λ a. unless_ended (record a { loops = st.loops }) (rounds body counter (t + 1) (n + 1 - (t + 1))))
round-once body counter n t st l whole h is opened =
    sym is ∙ one-round body counter n t st h ∙ ap (λ l. body (record st { loops = l }) >>= λ a. unless_ended (record a { loops = st.loops }) (rounds body counter (t + 1) (n + 1 - (t + 1)))) (sym opened)

round-ok : (body : Reading → Result Reading TextFault) (counter : Option (List ℕ)) (n t : ℕ) (st a : Reading) (l k : List OpenLoop) (whole : Result Reading TextFault)
    → t ≤ n → rounds body counter t (n + 1 - t) st ≡ whole → l ≡ record { counter = counter; round = t } ∷ st.loops → body (record st { loops = l }) ≡ Ok a → k ≡ st.loops
    → whole ≡ unless_ended (record a { loops = k }) (rounds body counter (t + 1) (n + 1 - (t + 1)))
round-ok body counter n t st a l k whole h is opened b close =
    round-once body counter n t st l whole h is opened
    ∙ ap (λ r. r >>= λ a. unless_ended (record a { loops = st.loops }) (rounds body counter (t + 1) (n + 1 - (t + 1)))) b
    ∙ ap (λ k. unless_ended (record a { loops = k }) (rounds body counter (t + 1) (n + 1 - (t + 1)))) (sym close)

module _ (body : Reading → Result Reading TextFault) (counter : Option (List ℕ)) (n t : ℕ) (st next : Reading) (whole : Result Reading TextFault) (h : t ≤ n)
    (is : rounds body counter t (n + 1 - t) st ≡ whole) (opened : next ≡ record st { loops = record { counter = counter; round = t } ∷ st.loops }) where
  abbrev open_loops : List OpenLoop
  open_loops = record { counter = counter; round = t } ∷ st.loops

  pub round-fails : (fault : TextFault) → FailsAt fault.problem fault (body next) → FailsAt fault.problem fault whole
  round-fails fault f =
      subst (FailsAt fault.problem fault) (sym (round-once body counter n t st open_loops whole h is refl))
      (then-fails fault (body (record st { loops = open_loops })) (λ a. unless_ended (record a { loops = st.loops }) (rounds body counter (t + 1) (n + 1 - (t + 1))))
      (subst (λ s. FailsAt fault.problem fault (body s)) opened f))

  pub round-done : (a last : Reading) → body next ≡ Ok a → last ≡ record a { loops = st.loops } → a.ended ≡ false → rounds body counter (t + 1) (n + 1 - (t + 1)) last ≡ whole
  round-done a last b closed e =
      ap (rounds body counter (t + 1) (n + 1 - (t + 1))) closed
      ∙ sym (round-ok body counter n t st a open_loops st.loops whole h is refl (ap body (sym opened) ∙ b) refl ∙ goes-on (record a { loops = st.loops }) (rounds body counter (t + 1) (n + 1 - (t + 1))) e)

  pub round-ended : (a last : Reading) → body next ≡ Ok a → last ≡ record a { loops = st.loops } → a.ended ≡ true → whole ≡ Ok last
  round-ended a last b closed e =
      round-ok body counter n t st a open_loops st.loops whole h is refl (ap body (sym opened) ∙ b) refl
      ∙ stops (record a { loops = st.loops }) (rounds body counter (t + 1) (n + 1 - (t + 1))) e
      ∙ ap Ok (sym closed)

-- ---- A loop at an index

pub loop-at : (ps : Predefined) (rows : List code.SourceRow) (i j at : ℕ) (dh dr : code.SourceRow) (st : Reading) → i < length rows → j < length rows → IsFor rows i at → EndsAt rows (i + 1) j
    → flat ps (here_from rows i) st ≡ (one_loop ps (row_of (get_or rows i dh)) (here_from rows (i + 1)) (row_of (get_or rows j dr)) st >>= λ a. unless_ended a (flat ps (here_from rows (j + 1))))
loop-at ps rows i j at dh dr st hi hj is ends =
    ap (λ p. flat ps p.here st) (for-at rows i j at dr hi hj (is dr).0 ends)
    ∙ flat-loop ps (row_of (get_or rows i dr)) (here_from rows (i + 1)) (row_of (get_or rows j dr)) (here_from rows (j + 1)) st
    ∙ ap (λ row. one_loop ps (row_of row) (here_from rows (i + 1)) (row_of (get_or rows j dr)) st >>= λ a. unless_ended a (flat ps (here_from rows (j + 1)))) (get_or_default rows i dr dh hi)

-- If the header, an iteration or the ROF of a loop fails, the loop and the items after it fail with the same error.
pub head-fails : (ps : Predefined) (head : SourceRow) (body : Items) (rof : SourceRow) (st : Reading) (f : Reading → Result Reading TextFault) (fault : TextFault) (whole : Result Reading TextFault)
    → whole ≡ (one_loop ps head body rof st >>= f) → FailsAt fault.problem fault (at_line head.number (head_line ps head st)) → FailsAt fault.problem fault whole
head-fails ps head body rof st f fault whole is h =
    subst (FailsAt fault.problem fault) (sym is) (then-fails fault (one_loop ps head body rof st) f (then-fails fault (at_line head.number (head_line ps head st)) (λ h. rounds (flat ps body) h.counter 1 h.count h.reading >>= λ a. unless_ended a (λ b. at_line rof.number (rof_line rof b))) h))

pub rounds_then : (ps : Predefined) (head : SourceRow) (body : Items) (rof : SourceRow) (st : Reading) (h : Head) → at_line head.number (head_line ps head st) ≡ Ok h
    → one_loop ps head body rof st ≡ (rounds (flat ps body) h.counter 1 h.count h.reading >>= λ a. unless_ended a (λ b. at_line rof.number (rof_line rof b)))
rounds_then ps head body rof st h is = then-ok (at_line head.number (head_line ps head st)) h (λ h. rounds (flat ps body) h.counter 1 h.count h.reading >>= λ a. unless_ended a (λ b. at_line rof.number (rof_line rof b))) is

pub rounds-fail : (ps : Predefined) (head : SourceRow) (body : Items) (rof : SourceRow) (st : Reading) (h : Head) (f : Reading → Result Reading TextFault) (fault : TextFault) (whole : Result Reading TextFault)
    → whole ≡ (one_loop ps head body rof st >>= f) → at_line head.number (head_line ps head st) ≡ Ok h → FailsAt fault.problem fault (rounds (flat ps body) h.counter 1 h.count h.reading) → FailsAt fault.problem fault whole
rounds-fail ps head body rof st h f fault whole is first t =
    subst (FailsAt fault.problem fault) (sym (is ∙ ap (λ r. r >>= f) (rounds_then ps head body rof st h first)))
    (then-fails fault (rounds (flat ps body) h.counter 1 h.count h.reading >>= λ a. unless_ended a (λ b. at_line rof.number (rof_line rof b))) f
    (then-fails fault (rounds (flat ps body) h.counter 1 h.count h.reading) (λ a. unless_ended a (λ b. at_line rof.number (rof_line rof b))) t))

pub behind-rounds : (ps : Predefined) (head : SourceRow) (body : Items) (rof : SourceRow) (st : Reading) (h : Head) (a : Reading) → at_line head.number (head_line ps head st) ≡ Ok h → rounds (flat ps body) h.counter 1 h.count h.reading ≡ Ok a
    → one_loop ps head body rof st ≡ unless_ended a (λ b. at_line rof.number (rof_line rof b))
behind-rounds ps head body rof st h a first t = rounds_then ps head body rof st h first ∙ then-ok (rounds (flat ps body) h.counter 1 h.count h.reading) a (λ a. unless_ended a (λ b. at_line rof.number (rof_line rof b))) t

pub loop-ended : (ps : Predefined) (head : SourceRow) (body : Items) (rof : SourceRow) (st : Reading) (h : Head) (a : Reading) (f : Reading → Result Reading TextFault) (whole : Result Reading TextFault)
    → whole ≡ (one_loop ps head body rof st >>= λ a. unless_ended a f) → at_line head.number (head_line ps head st) ≡ Ok h → rounds (flat ps body) h.counter 1 h.count h.reading ≡ Ok a → a.ended ≡ true → whole ≡ unless_ended a f
loop-ended ps head body rof st h a f whole is first t e = is ∙ ap (λ r. r >>= λ a. unless_ended a f) (behind-rounds ps head body rof st h a first t ∙ stops a (λ b. at_line rof.number (rof_line rof b)) e)

pub rof-fails : (ps : Predefined) (head : SourceRow) (body : Items) (rof : SourceRow) (st : Reading) (h : Head) (a : Reading) (f : Reading → Result Reading TextFault) (fault : TextFault) (whole : Result Reading TextFault)
    → whole ≡ (one_loop ps head body rof st >>= f) → at_line head.number (head_line ps head st) ≡ Ok h → rounds (flat ps body) h.counter 1 h.count h.reading ≡ Ok a → a.ended ≡ false
    → FailsAt fault.problem fault (at_line rof.number (rof_line rof a)) → FailsAt fault.problem fault whole
rof-fails ps head body rof st h a f fault whole is first t e r =
    subst (FailsAt fault.problem fault) (sym (is ∙ ap (λ r. r >>= f) (behind-rounds ps head body rof st h a first t ∙ goes-on a (λ b. at_line rof.number (rof_line rof b)) e)))
    (then-fails fault (at_line rof.number (rof_line rof a)) f r)

pub loop-done : (ps : Predefined) (head : SourceRow) (body : Items) (rof : SourceRow) (st : Reading) (h : Head) (a b : Reading) (f : Reading → Result Reading TextFault) (whole : Result Reading TextFault)
    → whole ≡ (one_loop ps head body rof st >>= f) → at_line head.number (head_line ps head st) ≡ Ok h → rounds (flat ps body) h.counter 1 h.count h.reading ≡ Ok a → a.ended ≡ false
    → at_line rof.number (rof_line rof a) ≡ Ok b → whole ≡ f b
loop-done ps head body rof st h a b f whole is first t e r =
    is ∙ ap (λ r. r >>= f) (behind-rounds ps head body rof st h a first t ∙ goes-on a (λ b. at_line rof.number (rof_line rof b)) e ∙ r)

-- A loop and what follows it, in terms of the rows.
loop-of : (ps : Predefined) (rows : List code.SourceRow) (i j at : ℕ) (r s : code.SourceRow) (st : Reading) → i < length rows → j < length rows → IsFor rows i at → EndsAt rows (i + 1) j → r ≡ get_or rows i r → s ≡ get_or rows j s
    → flat ps (here_from rows i) st ≡ (one_loop ps (row_of r) (here_from rows (i + 1)) (row_of s) st >>= λ a. unless_ended a (flat ps (here_from rows (j + 1))))
loop-of ps rows i j at r s st hi hj is ends ri si =
    loop-at ps rows i j at r s st hi hj is ends
    ∙ ap (λ row. one_loop ps (row_of row) (here_from rows (i + 1)) (row_of (get_or rows j s)) st >>= λ a. unless_ended a (flat ps (here_from rows (j + 1)))) (sym ri)
    ∙ ap (λ row. one_loop ps (row_of r) (here_from rows (i + 1)) (row_of row) st >>= λ a. unless_ended a (flat ps (here_from rows (j + 1)))) (sym si)

pub head-fails-at : (ps : Predefined) (rows : List code.SourceRow) (i j at : ℕ) (r : code.SourceRow) (st : Reading) (fault : TextFault) → i < length rows → j < length rows → IsFor rows i at → EndsAt rows (i + 1) j → r ≡ get_or rows i r → FailsAt fault.problem fault (at_line (row_of r).number (head_line ps (row_of r) st)) → FailsAt fault.problem fault (flat ps (here_from rows i) st)
head-fails-at ps rows i j at r st fault hi hj is ends ri e = head-fails ps (row_of r) (here_from rows (i + 1)) (row_of (get_or rows j r)) st (λ a. unless_ended a (flat ps (here_from rows (j + 1)))) fault (flat ps (here_from rows i) st) (loop-of ps rows i j at r (get_or rows j r) st hi hj is ends ri (get_or_default rows j r (get_or rows j r) hj)) e

pub rounds-fail-at : (ps : Predefined) (rows : List code.SourceRow) (i j at : ℕ) (r : code.SourceRow) (st : Reading) (h : Head) (fault : TextFault) → i < length rows → j < length rows → IsFor rows i at → EndsAt rows (i + 1) j → r ≡ get_or rows i r → at_line (row_of r).number (head_line ps (row_of r) st) ≡ Ok h → FailsAt fault.problem fault (rounds (flat ps (here_from rows (i + 1))) h.counter 1 h.count h.reading) → FailsAt fault.problem fault (flat ps (here_from rows i) st)
rounds-fail-at ps rows i j at r st h fault hi hj is ends ri e t = rounds-fail ps (row_of r) (here_from rows (i + 1)) (row_of (get_or rows j r)) st h (λ a. unless_ended a (flat ps (here_from rows (j + 1)))) fault (flat ps (here_from rows i) st) (loop-of ps rows i j at r (get_or rows j r) st hi hj is ends ri (get_or_default rows j r (get_or rows j r) hj)) e t

pub loop-ended-at : (ps : Predefined) (rows : List code.SourceRow) (i j at : ℕ) (r : code.SourceRow) (st : Reading) (h : Head) (a : Reading) → i < length rows → j < length rows → IsFor rows i at → EndsAt rows (i + 1) j → r ≡ get_or rows i r → at_line (row_of r).number (head_line ps (row_of r) st) ≡ Ok h → rounds (flat ps (here_from rows (i + 1))) h.counter 1 h.count h.reading ≡ Ok a → a.ended ≡ true → flat ps (here_from rows i) st ≡ unless_ended a (flat ps (here_from rows (j + 1)))
loop-ended-at ps rows i j at r st h a hi hj is ends ri e t n = loop-ended ps (row_of r) (here_from rows (i + 1)) (row_of (get_or rows j r)) st h a (flat ps (here_from rows (j + 1))) (flat ps (here_from rows i) st) (loop-of ps rows i j at r (get_or rows j r) st hi hj is ends ri (get_or_default rows j r (get_or rows j r) hj)) e t n

pub rof-fails-at : (ps : Predefined) (rows : List code.SourceRow) (i j at : ℕ) (r s : code.SourceRow) (st : Reading) (h : Head) (a : Reading) (fault : TextFault) → i < length rows → j < length rows → IsFor rows i at → EndsAt rows (i + 1) j → r ≡ get_or rows i r → s ≡ get_or rows j s → at_line (row_of r).number (head_line ps (row_of r) st) ≡ Ok h → rounds (flat ps (here_from rows (i + 1))) h.counter 1 h.count h.reading ≡ Ok a → a.ended ≡ false → FailsAt fault.problem fault (at_line (row_of s).number (rof_line (row_of s) a)) → FailsAt fault.problem fault (flat ps (here_from rows i) st)
rof-fails-at ps rows i j at r s st h a fault hi hj is ends ri si e t n w = rof-fails ps (row_of r) (here_from rows (i + 1)) (row_of s) st h a (λ a. unless_ended a (flat ps (here_from rows (j + 1)))) fault (flat ps (here_from rows i) st) (loop-of ps rows i j at r s st hi hj is ends ri si) e t n w

pub loop-done-at : (ps : Predefined) (rows : List code.SourceRow) (i j at : ℕ) (r s : code.SourceRow) (st : Reading) (h : Head) (a b : Reading) → i < length rows → j < length rows → IsFor rows i at → EndsAt rows (i + 1) j → r ≡ get_or rows i r → s ≡ get_or rows j s → at_line (row_of r).number (head_line ps (row_of r) st) ≡ Ok h → rounds (flat ps (here_from rows (i + 1))) h.counter 1 h.count h.reading ≡ Ok a → a.ended ≡ false → at_line (row_of s).number (rof_line (row_of s) a) ≡ Ok b → flat ps (here_from rows i) st ≡ unless_ended b (flat ps (here_from rows (j + 1)))
loop-done-at ps rows i j at r s st h a b hi hj is ends ri si e t n w = loop-done ps (row_of r) (here_from rows (i + 1)) (row_of s) st h a b (λ a. unless_ended a (flat ps (here_from rows (j + 1)))) (flat ps (here_from rows i) st) (loop-of ps rows i j at r s st hi hj is ends ri si) e t n w
