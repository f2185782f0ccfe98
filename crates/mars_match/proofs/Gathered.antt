-- The fates of one more round.
use Rattle.std.proofs.Common.{◌≡◌, refl, ap, ℕ, suc, ◌+◌, ◌-◌, ◌%◌, ◌<◌, ◌≤◌, List, [], ◌∷◌, ◌++◌, length, drop, get_or, Bool, true, false, nat_le, inl, inr, sym, ◌∙◌, Option, None, Some, Result, Ok, Err, append_assoc, arith}
use Rattle.std.proofs.lemmas.Bool.{cases_lt}
use Rattle.std.proofs.lemmas.List.{append-nil, drop_more}
use Rattle.mars_cell.specs.Parameters.{Parameters}
use Rattle.mars_cell.specs.Warriors.{WarriorValue}
use Rattle.mars_core.specs.State.{State}
use Rattle.mars_core.specs.declared.battle.start.BattleFault.{BattleFault}
use Rattle.redcode_text.specs.Results.{◌>>=◌}
use Rattle.mars_match.specs.Battles.{count_fault, end_of, round_fault, round_start, started}
use Rattle.mars_match.specs.Code.Deeds.{AreCounts, listed_at}
use Rattle.mars_match.specs.Fates.{deeds_of, ended, fate_of, fates, fates_from, fates_of, no_counts, place_of, round_fates}
use Rattle.mars_match.specs.Rounds.{placed_for}
use Rattle.mars_match.specs.declared.counts.Counts.{Counts}
use Rattle.mars_match.specs.declared.fates.Fate.{Fate}
use Rattle.mars_match.specs.declared.fault.MatchFault.{MatchFault}
use Rattle.mars_match.specs.declared.fault.MatchFault.TheVariants as fault
use Rattle.mars_match.proofs.Ends.{room_started, shape-end, unless_err, unless_ok}

-- The fates in `done`, followed by those of the remaining rounds.
abbrev pub gathered : List Fate → Result (List Fate) MatchFault → Result (List Fate) MatchFault
gathered done rest = rest >>= λ later. Ok (done ++ later)

pub fate_more : (over : State) (deeds : ℕ → Counts) (first i : ℕ) (starts : List ℕ) (d : ℕ) (done : List Fate) → i < length starts →
    (done ++ fate_of over deeds first i (get_or starts i d) ∷ []) ++ fates_from over deeds first (i + 1) (drop (i + 1) starts) ≡ done ++ fates_from over deeds first i (drop i starts)
fate_more over deeds first i starts d done inside = rw (drop_more starts i d inside, append_assoc) refl

none_gathered : (r : Result (List Fate) MatchFault) → gathered [] r ≡ r
none_gathered (Ok all) = refl
none_gathered (Err x) = refl

again : (done now : List Fate) (r : Result (List Fate) MatchFault) → gathered (done ++ now) r ≡ gathered done (r >>= λ later. Ok (now ++ later))
again done now (Ok later) = ap (λ l. Ok l) (append_assoc done now later)
again done now (Err x) = refl

module _ (counting : Bool) (p : Parameters) (warriors : List WarriorValue) (fixed : Option ℕ) where
  pub begun : (n seed : ℕ) → gathered [] (fates counting p warriors fixed (n - 0) 0 seed) ≡ fates counting p warriors fixed n 0 seed
  begun n seed = let all : n - 0 ≡ n = omega arith in rw all (none_gathered (fates counting p warriors fixed n 0 seed))

  -- The fates of a match whose number of warriors is valid.
  pub counted_fates : (n seed : ℕ) → count_fault (length warriors) ≡ None → fates_of counting p warriors fixed n seed ≡ fates counting p warriors fixed n 0 seed
  unfolding fates_of
  counted_fates n seed good = rw good refl

  pub uncounted_fates : (n seed : ℕ) (x : BattleFault) → count_fault (length warriors) ≡ Some x → fates_of counting p warriors fixed n seed ≡ Err (fault.Battle x)
  unfolding fates_of
  uncounted_fates n seed x bad = rw bad refl

  pub all_gathered : (n k seed : ℕ) (done : List Fate) → n ≤ k → gathered done (fates counting p warriors fixed (n - k) k seed) ≡ Ok done
  all_gathered n k seed done past = let none : n - k ≡ 0 = omega (arith, past) in rw none (ap (λ l. Ok l) (append-nil done))

  module _ (n k seed : ℕ) (done : List Fate) (more : k < n) where
    rest : n - k ≡ suc (n - (k + 1))
    rest = omega (arith, more)

    pub place_err : (x : MatchFault) → placed_for p (length warriors) fixed seed ≡ Err x → gathered done (fates counting p warriors fixed (n - k) k seed) ≡ Err x
    place_err x e = rw (rest, e) refl

    pub round_err : (starts : List ℕ) (left : ℕ) (x : MatchFault) → placed_for p (length warriors) fixed seed ≡ Ok (starts, left) → started p warriors starts k ≡ Err x →
        gathered done (fates counting p warriors fixed (n - k) k seed) ≡ Err x
    round_err starts left x e h = rw (rest, e, h) refl

    pub round_more : (starts : List ℕ) (left : ℕ) (now : List Fate) → placed_for p (length warriors) fixed seed ≡ Ok (starts, left) → round_fates counting p warriors starts k ≡ Ok now →
        gathered (done ++ now) (fates counting p warriors fixed (n - (k + 1)) (k + 1) left) ≡ gathered done (fates counting p warriors fixed (n - k) k seed)
    round_more starts left now e h = rw (rest, e, h) (again done now (fates counting p warriors fixed (n - (k + 1)) (k + 1) left))

-- ---- The fates of a round

place_inside : (w first i : ℕ) → first < w → i < w → place_of w first i < w
place_inside w first i f h = elim (cases_lt i first) [
  | inl before ↦ let test : nat_le first i ≡ false = grind (arith, before) in rw test (omega (arith, f, h, before))
  | inr after ↦ let test : nat_le first i ≡ true = grind (arith, after) in rw test (omega (arith, f, h, after))
]

counts_are : (counting : Bool) (s : State) (counts : List Counts) (place : ℕ) → AreCounts counting s counts → place < length s.queues →
    listed_at counts place ≡ deeds_of counting s place
counts_are true s counts place h inside = h.1 place no_counts inside
counts_are false s counts place h inside = rw h refl

module _ (counting : Bool) (s : State) (counts : List Counts) (first : ℕ) (within : first < length s.queues) (h : AreCounts counting s counts) where
  fate_same : (i start : ℕ) → i < length s.queues → fate_of (end_of s) (deeds_of counting s) first i start ≡ fate_of (end_of s) (listed_at counts) first i start
  fate_same i start inside =
      let many = (shape-end s).warriors in
      let at : place_of (length (end_of s).queues) first i < length s.queues = rw many (place_inside (length s.queues) first i within inside) in
      rw (counts_are counting s counts (place_of (length (end_of s).queues) first i) h at) refl

  pub fates_same : (i : ℕ) (starts : List ℕ) → i + length starts ≤ length s.queues → fates_from (end_of s) (deeds_of counting s) first i starts ≡ fates_from (end_of s) (listed_at counts) first i starts
  fates_same i [] few = refl
  fates_same i (start ∷ starts) few = rw (fate_same i start (omega (arith, few)), fates_same (i + 1) starts (omega (arith, few))) refl

pub round_is : (counting : Bool) (p : Parameters) (warriors : List WarriorValue) (starts : List ℕ) (k : ℕ) (over : State) (counts : List Counts) →
    length starts ≡ length warriors → 1 ≤ length warriors → ended p warriors starts k ≡ Ok over → AreCounts counting (round_start p warriors starts k) counts →
    round_fates counting p warriors starts k ≡ Ok (fates_from over (listed_at counts) (k % length warriors) 0 starts)
round_is counting p warriors starts k over counts same some e h =
    let both = unless_ok (round_fault p warriors starts k) (end_of (round_start p warriors starts k)) over e in
    let s = round_start p warriors starts k in
    let begun : started p warriors starts k ≡ Ok s = rw both.0 refl in
    let room = room_started p warriors starts k s same some begun in
    let many : length s.queues ≡ length warriors = sym (shape-end s).warriors ∙ room.warriors in
    rw (begun, ← both.1) (ap (λ fates. Ok fates) (fates_same counting s counts (k % length warriors) (omega (arith, many, some)) h 0 starts (omega (arith, many, same))))

-- The error of a round is that of its start.
pub ended_err : (p : Parameters) (warriors : List WarriorValue) (starts : List ℕ) (k : ℕ) (x : MatchFault) → ended p warriors starts k ≡ Err x → started p warriors starts k ≡ Err x
ended_err p warriors starts k x e = unless_err (round_fault p warriors starts k) (end_of (round_start p warriors starts k)) (round_start p warriors starts k) x e
