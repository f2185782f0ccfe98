-- The fates of a match, round by round.
use Rattle.std.proofs.Common.{◌≡◌, refl, ap, subst, sym, ◌∙◌, ℕ, zero, suc, ◌+◌, ◌%◌, ◌<◌, Bool, List, [], ◌∷◌, ◌++◌, length, get_or, Option, None, Some, Result, Ok, Err, arith}
use Rattle.std.specs.List.{flat_map}
use Rattle.redcode_text.specs.Results.{◌>>=◌}
use Rattle.mars_cell.specs.Parameters.{Parameters}
use Rattle.mars_cell.specs.Warriors.{WarriorValue}
use Rattle.mars_core.specs.State.{State}
use Rattle.mars_core.specs.declared.battle.start.BattleFault.{BattleFault}
use Rattle.mars_match.specs.Battles.{count_fault, end_of, started}
use Rattle.mars_match.specs.Fates.{deeds_of, fates, fates_from, fates_of, round_fates}
use Rattle.mars_match.specs.Rounds.{counted, placed_for}
use Rattle.mars_match.specs.declared.fates.Fate.{Fate}
use Rattle.mars_match.specs.declared.fault.MatchFault.{MatchFault}
use Rattle.mars_match.specs.declared.fault.MatchFault.TheVariants as fault
use Rattle.mars_c.specs.Battles.{placed_in}
use Rattle.mars_c.specs.Laws.{RoundsMakeTheFates}
use Rattle.mars_c.proofs.ForLaws.Equal.{ok_injective}

-- If the second of two steps succeeds, so does the first.
bound : {A B E : Type 0} (r : Result A E) (f : A → Result B E) (y : B) → (r >>= f) ≡ Ok y → (x : A) × (r ≡ Ok x) × (f x ≡ Ok y)
bound (Ok x) f y e = (x, refl, e)
bound {B = B} {E = E} (Err z) f y e = absurd (let no : ◌≡◌ {A = Result B E} (Err z) (Ok y) = e in cc)

module _ (counting : Bool) (p : Parameters) (warriors : List WarriorValue) (fixed : Option ℕ) where
  abbrev w : ℕ
  w = length warriors

  -- The fates in `all` are those of `n` rounds from round `k` and `seed` on.
  record AreByRound (n k seed : ℕ) (all : List Fate) : Type 0 where
    rounds : List (List Fate)
    all_are : all ≡ flat_map (λ (round : List Fate). round) rounds
    many : length rounds ≡ n
    each : (j : ℕ) → j < n → (start : State) × (starts : List ℕ) × (placed_in p w fixed j seed ≡ Ok starts) × (started p warriors starts (k + j) ≡ Ok start)
        × (get_or rounds j [] ≡ fates_from (end_of start) (deeds_of counting start) ((k + j) % w) 0 starts)

  by_round : (n k seed : ℕ) (all : List Fate) → fates counting p warriors fixed n k seed ≡ Ok all → AreByRound n k seed all
  by_round zero k seed all e = record { rounds = []; all_are = sym (ok_injective [] all e); many = refl; each = λ j inside. absurd (omega (arith, inside)) }
  by_round (suc n) k seed all e =
      let placed = bound (placed_for p w fixed seed) (λ placed. round_fates counting p warriors placed.0 k >>= λ now. fates counting p warriors fixed n (k + 1) placed.1 >>= λ later. Ok (now ++ later)) all e in
      let starts = placed.0.0 in
      let seed_left = placed.0.1 in
      let now = bound (round_fates counting p warriors starts k) (λ now. fates counting p warriors fixed n (k + 1) seed_left >>= λ later. Ok (now ++ later)) all placed.2 in
      let later = bound (fates counting p warriors fixed n (k + 1) seed_left) (λ later. Ok (now.0 ++ later)) all now.2 in
      let begun = bound (started p warriors starts k) (λ s. Ok (fates_from (end_of s) (deeds_of counting s) (k % w) 0 starts)) now.0 now.1 in
      let rest = by_round n (k + 1) seed_left later.0 later.1 in
      record {
        rounds = now.0 ∷ rest.rounds;
        all_are = sym (ok_injective (now.0 ++ later.0) all later.2) ∙ ap (λ later. now.0 ++ later) rest.all_are;
        many = ap suc rest.many;
        each = each starts seed_left placed.1 begun.0 begun.1 now.0 (sym (ok_injective (fates_from (end_of begun.0) (deeds_of counting begun.0) (k % w) 0 starts) now.0 begun.2)) rest;
      } where
        each : (starts : List ℕ) (left : ℕ) → placed_for p w fixed seed ≡ Ok (starts, left) → (s : State) → started p warriors starts k ≡ Ok s → (now : List Fate)
            → now ≡ fates_from (end_of s) (deeds_of counting s) (k % w) 0 starts → {later : List Fate} (rest : AreByRound n (k + 1) left later)
            → (j : ℕ) → j < suc n → (start : State) × (starts : List ℕ) × (placed_in p w fixed j seed ≡ Ok starts) × (started p warriors starts (k + j) ≡ Ok start)
            × (get_or (now ∷ rest.rounds) j [] ≡ fates_from (end_of start) (deeds_of counting start) ((k + j) % w) 0 starts)
        each starts left placed s begun now are rest zero inside =
            let here : k + 0 ≡ k = omega arith in
            (s, starts, rw placed refl, rw here begun, rw here are)
        each starts left placed s begun now are rest (suc j) inside =
            let there = rest.each j (omega (arith, inside)) in
            let round : k + suc j ≡ k + 1 + j = omega arith in
            (there.0, there.1, rw placed there.2, rw round there.3, rw round there.4)

  uncounted : (c : Option BattleFault) (all : List Fate) (r : Result (List Fate) MatchFault) → counted c r ≡ Ok all → r ≡ Ok all
  uncounted None all r e = e
  uncounted (Some x) all r e = absurd (let no : ◌≡◌ {A = Result (List Fate) MatchFault} (Err (fault.Battle x)) (Ok all) = e in cc)

  all_fates : (n seed : ℕ) (all : List Fate) → fates_of counting p warriors fixed n seed ≡ Ok all → fates counting p warriors fixed n 0 seed ≡ Ok all
  unfolding fates_of
  all_fates n seed all e = uncounted (count_fault w) all (fates counting p warriors fixed n 0 seed) e

pub rounds_make_the_fates : RoundsMakeTheFates
rounds_make_the_fates setup warriors counting all e =
    let plan = setup.plan in
    let found = by_round counting setup.params warriors plan.fixed plan.rounds 0 plan.seed all
    (all_fates counting setup.params warriors plan.fixed plan.rounds plan.seed all e) in (
      found.rounds,
      found.all_are,
      found.many,
      λ k inside.
          let here = found.each k inside in
          let round : 0 + k ≡ k = omega arith in
          let begun : started setup.params warriors here.1 k ≡ Ok here.0 = subst (λ j. started setup.params warriors here.1 j ≡ Ok here.0) round here.3 in
          let are : get_or found.rounds k [] ≡ fates_from (end_of here.0) (deeds_of counting here.0) (k % length warriors) 0 here.1 =
          subst (λ j. get_or found.rounds k [] ≡ fates_from (end_of here.0) (deeds_of counting here.0) (j % length warriors) 0 here.1) round here.4 in
          (here.0, here.1, here.2, rw here.2 begun, are),
    )
