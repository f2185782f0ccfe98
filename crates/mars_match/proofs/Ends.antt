-- How a battle reaches its end.
use Rattle.std.proofs.Common.{◌≡◌, refl, sym, ◌∙◌, ap, ℕ, zero, suc, ◌*◌, ◌%◌, ◌<◌, ◌≤◌, inl, inr, List, [], ◌∷◌, length, Option, None, Some, Ok, Err, arith}
use Rattle.std.proofs.lemmas.Bool.{cases_Bool}
use Rattle.std.proofs.lemmas.List.{length-map}
use Rattle.mars_cell.specs.Parameters.{Parameters}
use Rattle.mars_cell.specs.Warriors.{WarriorValue}
use Rattle.mars_core.specs.State.{State, is_over_of}
use Rattle.mars_core.specs.Start.{start_state, first_processes}
use Rattle.mars_core.specs.Turn.{turn_of, after_turns}
use Rattle.mars_core.specs.Shape.{SameShape}
use Rattle.mars_core.proofs.CallerLemmas.{shape-turn_of}
use Rattle.mars_core.specs.declared.battle.start.BattleFault.{BattleFault}
use Rattle.mars_match.specs.declared.fault.MatchFault.{MatchFault}
use Rattle.mars_match.specs.Battles.{unless, end_of, started, fought, in_load_order, survivors_of_round, round_fault, round_start, rotated}
use Rattle.mars_match.specs.Code.Lineups.{HasRoom}
use Rattle.mars_match.specs.Fates.{ended}
use Rattle.mars_match.proofs.Rotations.{length-rotated}

shape-after_turns : (n : ℕ) (s : State) → SameShape (after_turns n s) s
shape-after_turns zero s = record { params = refl; warriors = refl }
shape-after_turns (suc n) s = elim (cases_Bool (is_over_of s)) [
  | inl over ↦ rw over (record { params = refl; warriors = refl })
  | inr on ↦
      let rest = shape-after_turns n (turn_of s) in
      let one = shape-turn_of s in
      rw on (record { params = rest.params ∙ one.params; warriors = rest.warriors ∙ one.warriors })
]

pub shape-end : (s : State) → SameShape (end_of s) s
unfolding end_of
shape-end s = shape-after_turns (s.params.cycles * length s.queues) s

length-processes : (m : ℕ) (warriors : List WarriorValue) (starts : List ℕ) → length starts ≡ length warriors → length (first_processes m warriors starts) ≡ length warriors
length-processes m [] starts e = refl
length-processes m (w ∷ warriors) [] e = absurd (omega (arith, e))
length-processes m (w ∷ warriors) (s ∷ starts) e = rw (length-processes m warriors starts (omega (arith, e))) refl

pub length-start : (p : Parameters) (warriors : List WarriorValue) (starts : List ℕ) → length starts ≡ length warriors → length (start_state p warriors starts).queues ≡ length warriors
unfolding start_state
length-start p warriors starts e = length-map (first_processes p.core_size warriors starts) _ ∙ length-processes p.core_size warriors starts e

params-start : (p : Parameters) (warriors : List WarriorValue) (starts : List ℕ) → (start_state p warriors starts).params ≡ p
unfolding start_state
params-start p warriors starts = refl

-- ---- A round that starts

pub unless_ok : {A : Type 0} (f : Option BattleFault) (a b : A) → unless f a ≡ Ok b → (f ≡ None) × (a ≡ b)
unless_ok None a b e = (refl, cc)
unless_ok (Some f) a b e = absurd (cc)

pub unless_err : {A B : Type 0} (f : Option BattleFault) (a : A) (b : B) (x : MatchFault) → unless f a ≡ Err x → unless f b ≡ Err x
unless_err None a b x e = absurd (cc)
unless_err (Some f) a b x e = cc

pub started_err : (p : Parameters) (warriors : List WarriorValue) (starts : List ℕ) (k : ℕ) (x : MatchFault) → started p warriors starts k ≡ Err x → ended p warriors starts k ≡ Err x
started_err p warriors starts k x e = unless_err (round_fault p warriors starts k) (round_start p warriors starts k) (end_of (round_start p warriors starts k)) x e

pub fought_from_started : (p : Parameters) (warriors : List WarriorValue) (starts : List ℕ) (k : ℕ) (s : State) → started p warriors starts k ≡ Ok s → fought p warriors starts k ≡ Ok (in_load_order (k % length warriors) (end_of s))
unfolding survivors_of_round
fought_from_started p warriors starts k s e =
    let both = unless_ok (round_fault p warriors starts k) (round_start p warriors starts k) s e in
    rw (both.0, both.1) refl

pub ended_from_started : (p : Parameters) (warriors : List WarriorValue) (starts : List ℕ) (k : ℕ) (s : State) → started p warriors starts k ≡ Ok s → ended p warriors starts k ≡ Ok (end_of s)
ended_from_started p warriors starts k s e =
    let both = unless_ok (round_fault p warriors starts k) (round_start p warriors starts k) s e in
    rw (both.0, both.1) refl

-- The first state of a round has the parameters `p`, and a queue for each warrior.
pub room_started : (p : Parameters) (warriors : List WarriorValue) (starts : List ℕ) (k : ℕ) (s : State) → length starts ≡ length warriors → 1 ≤ length warriors → started p warriors starts k ≡ Ok s → HasRoom p (length warriors) (end_of s)
room_started p warriors starts k s same some e =
    let both = unless_ok (round_fault p warriors starts k) (round_start p warriors starts k) s e in
    let first = k % length warriors in
    let within : first < length warriors = omega arith in
    let ws = length-rotated first warriors (omega arith) in
    let ss = length-rotated first starts (omega arith) in
    let shape = shape-end s in
    record {
      params = shape.params ∙ ap (λ (t : State). t.params) (sym both.1) ∙ params-start p (rotated first warriors) (rotated first starts);
      warriors = shape.warriors ∙ ap (λ (t : State). length t.queues) (sym both.1) ∙ length-start p (rotated first warriors) (rotated first starts) (omega arith) ∙ ws;
    }
