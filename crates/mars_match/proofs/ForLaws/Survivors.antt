-- The fates and the outcomes of a match have the same survivors.
use Rattle.std.proofs.Common.{◌≡◌, ◌∙◌, refl, sym, ap, ℕ, zero, suc, Bool, ◌+◌, ◌-◌, ◌*◌, ◌%◌, ◌≤◌, false, inl, inr, List, [], ◌∷◌, ◌++◌, length, map, drop, get_or, Option, None, Some, Result, Ok, Err, arith, nat_le}
use Rattle.std.specs.List.{flat_map}
use Rattle.std.proofs.lemmas.Bool.{cases_Bool}
use Rattle.std.proofs.lemmas.List.{drop_all, drop_more, length-map, map-append}
use Rattle.std.proofs.lemmas.List.Edits.{length-swap}
use Rattle.std.specs.Prelude.{not}
use Rattle.mars_cell.specs.Parameters.{Parameters}
use Rattle.mars_cell.specs.Warriors.{WarriorValue}
use Rattle.mars_core.specs.State.{State, is_empty}
use Rattle.redcode_text.specs.Results.{◌>>=◌}
use Rattle.redcode_text.specs.Tokens.{Scanned}
use Rattle.mars_match.specs.Battles.{end_of, fought, in_load_order, lives, round_fault, round_start, survivors_of_round}
use Rattle.mars_match.specs.Fates.{deeds_of, fates, fates_from, round_fates}
use Rattle.mars_match.specs.Placement.{FitsTwo, ascending, drawn, draws, exchanged, inserted, place_fault, seed_after, spread, starts_in_order, starts_of}
use Rattle.mars_match.specs.Rounds.{Outcome, outcome_of, outcomes, placed_for, placed_unless, round_outcome, round_score}
use Rattle.mars_match.specs.declared.fates.Fate.{Fate}
use Rattle.mars_match.specs.declared.fault.MatchFault.{MatchFault}
use Rattle.mars_match.specs.declared.placement.PlaceFault.{PlaceFault}
use Rattle.mars_match.proofs.Ends.{room_started, unless_ok}
use Rattle.mars_match.proofs.Rotations.{length-rotated}

-- ---- As many starts as warriors

length-inserted : (x : ℕ) (ys : List ℕ) → length (inserted x ys) ≡ length ys + 1
length-inserted x [] = refl
length-inserted x (y ∷ ys) = elim (cases_Bool (nat_le x y)) [
  | inl first ↦ rw first (omega arith)
  | inr later ↦ rw later (omega (arith, length-inserted x ys))
]

length-ascending : (xs : List ℕ) → length (ascending xs) ≡ length xs
length-ascending [] = refl
length-ascending (x ∷ xs) = omega (arith, length-inserted x (ascending xs), length-ascending xs)

length-draws : (room n seed : ℕ) → length (draws room n seed) ≡ n
length-draws room zero seed = refl
length-draws room (suc n) seed = omega (arith, length-draws room n (drawn seed))

length-spread : (distance i : ℕ) (xs : List ℕ) → length (spread distance i xs) ≡ length xs
length-spread distance i [] = refl
length-spread distance i (x ∷ xs) = omega (arith, length-spread distance (i + 1) xs)

length-exchanged : (n seed : ℕ) (xs : List ℕ) → length (exchanged n seed xs) ≡ length xs
length-exchanged zero seed xs = refl
length-exchanged (suc n) seed xs = let x = 1 + drawn seed % (n + 2) in length-exchanged n (drawn seed) _ ∙ length-swap xs (n + 2) x

length-starts : (p : Parameters) (w seed : ℕ) → 1 ≤ w → length (starts_of p w seed) ≡ w
unfolding starts_of
length-starts p w seed some =
    let room = p.core_size - w * p.distance + 1 in
    let inner = ascending (draws room (w - 1) seed) in
    omega (arith, some, length-exchanged (w - 2) (seed_after (w - 1) seed) (starts_in_order p w seed), length-spread p.distance 0 (0 ∷ inner), length-ascending (draws room (w - 1) seed), length-draws room (w - 1) seed)

ok_same : {A : Type 0} (x y : A) (r : Result A MatchFault) → r ≡ Ok x → r ≡ Ok y → x ≡ y
ok_same x y r e h = cc

drawn_length : (f : Option PlaceFault) (p : Parameters) (w seed next left : ℕ) (starts : List ℕ) → 1 ≤ w → placed_unless f (starts_of p w seed, next) ≡ Ok (starts, left) → length starts ≡ w
drawn_length None p w seed next left starts some e = let same = ap (λ (placed : List ℕ × ℕ). placed.0) (ok_same _ _ _ refl e) in rw (← same) (length-starts p w seed some)
drawn_length (Some f) p w seed next left starts some e = absurd (cc)

placed_length : (p : Parameters) (fixed : Option ℕ) (w seed left : ℕ) (starts : List ℕ) → 1 ≤ w → FitsTwo p w fixed → placed_for p w fixed seed ≡ Ok (starts, left) → length starts ≡ w
placed_length p (Some position) w seed left starts some fits e = let same = ap (λ (placed : List ℕ × ℕ). placed.0) (ok_same _ _ _ refl e) in rw (← same, fits.0) refl
placed_length p None w seed left starts some fits e = drawn_length (place_fault p w seed) p w seed _ left starts some e

-- ---- A round

survived_from : (counting : Bool) (s : State) (first i : ℕ) (starts : List ℕ) → let order = in_load_order first (end_of s) in
    i + length starts ≡ length order → map (λ (f : Fate). f.survived) (fates_from (end_of s) (deeds_of counting s) first i starts) ≡ drop i order
survived_from counting s first i [] many = sym (drop_all i (in_load_order first (end_of s)) (omega (arith, many)))
survived_from counting s first i (start ∷ starts) many =
    ap (λ l. get_or (in_load_order first (end_of s)) i false ∷ l) (survived_from counting s first (i + 1) starts (omega (arith, many)))
    ∙ sym (drop_more (in_load_order first (end_of s)) i false (omega (arith, many)))

length-order : (s : State) (first : ℕ) → length (in_load_order first s) ≡ length s.queues
length-order s first =
    let many : length (lives s) ≡ length s.queues = length-map s.queues (λ queue. not (is_empty queue)) in
    length-rotated (length s.queues - first) (lives s) (omega (arith, many)) ∙ many

given_by : {A B : Type 0} (r : Result A MatchFault) (f : A → Result B MatchFault) (b : B) → (r >>= f) ≡ Ok b → (a : A) × (r ≡ Ok a) × (f a ≡ Ok b)
given_by (Ok a) f b e = (a, refl, e)
given_by (Err x) f b e = absurd (cc)

module _ (counting : Bool) (p : Parameters) (warriors : List WarriorValue) (f : Scanned) (some : 1 ≤ length warriors) where
  round_survivors : (starts : List ℕ) (k : ℕ) (o : Outcome) → length starts ≡ length warriors → round_outcome p warriors f starts k ≡ Ok o →
      (now : List Fate) × (round_fates counting p warriors starts k ≡ Ok now) × (map (λ (f : Fate). f.survived) now ≡ o.lived)
  unfolding survivors_of_round
  round_survivors starts k o many e =
      let lived = given_by (fought p warriors starts k) (outcome_of f) o e in
      let score = given_by (round_score f lived.0) (λ score. Ok (record { lived = lived.0; score = score })) o lived.2 in
      let same : lived.0 ≡ o.lived = ap (λ (o : Outcome). o.lived) (ok_same _ _ _ refl score.2) in
      let first = k % length warriors in
      let start = round_start p warriors starts k in
      let s = end_of start in
      let both = unless_ok (round_fault p warriors starts k) (in_load_order first s) lived.0 lived.1 in
      let room = room_started p warriors starts k start many some (rw both.0 refl) in
      let count : length (in_load_order first s) ≡ length starts = length-order s first ∙ room.warriors ∙ sym many in
      (fates_from s (deeds_of counting start) first 0 starts, rw both.0 refl, survived_from counting start first 0 starts (omega (arith, count)) ∙ both.1 ∙ same)

  fates_step : (fixed : Option ℕ) (n k seed left : ℕ) (starts : List ℕ) (now later : List Fate) → placed_for p (length warriors) fixed seed ≡ Ok (starts, left) →
      round_fates counting p warriors starts k ≡ Ok now → fates counting p warriors fixed n (k + 1) left ≡ Ok later → fates counting p warriors fixed (suc n) k seed ≡ Ok (now ++ later)
  fates_step fixed n k seed left starts now later placed one others = rw (placed, one, others) refl

  pub fates_by : (fixed : Option ℕ) (n k seed : ℕ) (all : List Outcome) → FitsTwo p (length warriors) fixed → outcomes p warriors f fixed n k seed ≡ Ok all →
      (made : List Fate) × (fates counting p warriors fixed n k seed ≡ Ok made) × (map (λ (f : Fate). f.survived) made ≡ flat_map (λ (o : Outcome). o.lived) all)
  fates_by fixed zero k seed all fits e = let none : [] ≡ all = cc in ([], refl, rw (← none) refl)
  fates_by fixed (suc n) k seed all fits e =
      let rest = λ (placed : List ℕ × ℕ) (o : Outcome). outcomes p warriors f fixed n (k + 1) placed.1 >>= λ others. Ok (o ∷ others) in
      let placed = given_by (placed_for p (length warriors) fixed seed) (λ placed. round_outcome p warriors f placed.0 k >>= rest placed) all e in
      let one = given_by (round_outcome p warriors f placed.0.0 k) (rest placed.0) all placed.2 in
      let others = given_by (outcomes p warriors f fixed n (k + 1) placed.0.1) (λ others. Ok (one.0 ∷ others)) all one.2 in
      let same : one.0 ∷ others.0 ≡ all = ok_same _ _ _ refl others.2 in
      let many = placed_length p fixed (length warriors) seed placed.0.1 placed.0.0 some fits placed.1 in
      let now = round_survivors placed.0.0 k one.0 many one.1 in
      let later = fates_by fixed n (k + 1) placed.0.1 others.0 fits others.1 in
      (now.0 ++ later.0, fates_step fixed n k seed placed.0.1 placed.0.0 now.0 later.0 placed.1 now.1 later.1, map-append (λ (f : Fate). f.survived) now.0 later.0 ∙ ap (λ l. l ++ map (λ (f : Fate). f.survived) later.0) now.2 ∙ ap (λ l. one.0.lived ++ l) later.2 ∙ ap (λ l. flat_map (λ (o : Outcome). o.lived) l) same)

pub fates_are : (counting : Bool) (p : Parameters) (warriors : List WarriorValue) (formula : Scanned) (fixed : Option ℕ) (n k seed : ℕ) (all : List Outcome) →
    1 ≤ length warriors → FitsTwo p (length warriors) fixed → outcomes p warriors formula fixed n k seed ≡ Ok all →
    (made : List Fate) × (fates counting p warriors fixed n k seed ≡ Ok made) × (map (λ (f : Fate). f.survived) made ≡ flat_map (λ (o : Outcome). o.lived) all)
fates_are counting p warriors formula fixed n k seed all some fits e = fates_by counting p warriors formula some fixed n k seed all fits e
