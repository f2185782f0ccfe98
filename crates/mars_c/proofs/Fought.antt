-- The fates of lineups, one after another, and the warriors that a lineup chooses.
use Rattle.std.proofs.Common.{◌≡◌, ◌∙◌, ◌⊎◌, ap, ℕ, ◌+◌, ◌<◌, ◌≤◌, All, List, [], ◌∷◌, ◌++◌, Err, Ok, Some, append_assoc, get_or, inl, inr, length, map, refl, subst, sym, take, arith}
use Rattle.std.specs.Prelude.{slice_get}
use Rattle.std.proofs.lemmas.Option.{slice_get-get_or}
use Rattle.std.proofs.lemmas.List.{append-nil, get_or-take, length-take-le, map-append, map_more, take_more}
use Rattle.mars_cell.specs.ParameterFaults.{checked_parameters}
use Rattle.mars_cell.specs.Parameters.{Parameters}
use Rattle.mars_cell.specs.Warriors.{WarriorValue}
use Rattle.mars_match.specs.Fates.{fates_of}
use Rattle.mars_match.specs.Placement.{FitsTwo}
use Rattle.mars_match.specs.declared.fates.Fate.{Fate}
use Rattle.mars_match.specs.declared.fault.MatchFault.{MatchFault}
use Rattle.mars_match.specs.declared.fault.MatchFault.TheVariants as fight
use Rattle.mars_match.specs.declared.setup.Plan.{Plan}
use Rattle.mars_c.specs.Outcomes.{AreChosen, AreFought, IsFirstFailure, IsFought, RefusesLineup, indices_of, is_counting, plain_fate, seeded}
use Rattle.mars_c.specs.Refusals.{fight_refusal}
use Rattle.mars_c.specs.Settings.{IsPlan, parameters_in}
use Rattle.mars_c.specs.declared.faults.CallRefusal.{CallRefusal}
use Rattle.mars_c.specs.declared.faults.CallRefusal.TheVariants.{OutOfMemory}
use Rattle.mars_c.specs.declared.outcomes.MarsLineup.{MarsLineup}
use Rattle.mars_c.specs.declared.outcomes.MarsOutcome.{MarsOutcome}
use Rattle.mars_c.specs.declared.settings.MarsSettings.{MarsSettings}

pub index_inside : (count bound : ℕ) (xs : List ℕ) (k : ℕ) → All (λ i. i < bound) (take count xs) → k < count → count ≤ length xs → get_or xs k 0 < bound
index_inside count bound xs k all less many = let there = all k 0 (omega (arith, less, length-take-le count xs many)) in rw (get_or-take count xs k 0 less) at there

pub chosen_more : (ws : List WarriorValue) (indices : List ℕ) (i d : ℕ) (w : WarriorValue) (chosen : List WarriorValue) → i < length indices → slice_get ws (get_or indices i d) ≡ Some w
    → map (λ i. slice_get ws i) (take i indices) ≡ map (λ w. Some w) chosen → map (λ i. slice_get ws i) (take (i + 1) indices) ≡ map (λ w. Some w) (chosen ++ w ∷ [])
chosen_more ws indices i d w chosen inside there before =
    rw (map_more (λ i. slice_get ws i) indices i d inside, there, before) (sym (map-append (λ w. Some w) chosen (w ∷ [])))

pub memory_lineup : (s : MarsSettings) (ws : List WarriorValue) (lineup : MarsLineup) (refusal : CallRefusal) → refusal ≡ OutOfMemory → RefusesLineup s ws lineup refusal
memory_lineup s ws lineup refusal is = subst (RefusesLineup s ws lineup) (sym is) (inl tt)

fought_push : (s : MarsSettings) (ws : List WarriorValue) (ls : List MarsLineup) (l : MarsLineup) (fates one : List Fate)
    → AreFought s ws ls fates → IsFought s ws l one → AreFought s ws (ls ++ l ∷ []) (fates ++ one)
fought_push s ws [] l fates one all this = (one, [], this, refl, rw all (sym (append-nil one)))
fought_push s ws (m ∷ ls) l fates one all this =
    let first = all.0 in
    let others = all.1 in
    (first, others ++ one, all.2, fought_push s ws ls l others one all.3 this, ap (λ x. x ++ one) all.4 ∙ append_assoc first others one)

pub fought_more : (s : MarsSettings) (ws : List WarriorValue) (ls : List MarsLineup) (i : ℕ) (d : MarsLineup) (fates one : List Fate) (items more : List MarsOutcome)
    → i < length ls → AreFought s ws (take i ls) fates → items ≡ map plain_fate fates → IsFought s ws (get_or ls i d) one → more ≡ items ++ map plain_fate one
    → (fates : List Fate) × AreFought s ws (take (i + 1) ls) fates × (more ≡ map plain_fate fates)
fought_more s ws ls i d fates one items more inside all shown this appended = (
  fates ++ one,
  rw (take_more ls i d inside) (fought_push s ws (take i ls) (get_or ls i d) fates one all this),
  rw (appended, shown) (sym (map-append plain_fate fates one)),
)

pub lineup_fails : (s : MarsSettings) (ws : List WarriorValue) (ls : List MarsLineup) (i : ℕ) (d : MarsLineup) (fates : List Fate) (refusal : CallRefusal) → i < length ls
    → AreFought s ws (take i ls) fates → RefusesLineup s ws (get_or ls i d) refusal → IsFirstFailure s ws ls refusal
lineup_fails s ws ls i d fates refusal inside fought refused = (i, get_or ls i d, fates, fought, slice_get-get_or ls i d inside, refused)

module _ (s : MarsSettings) (ws : List WarriorValue) (lineup : MarsLineup) (p : Parameters) (plan : Plan) (chosen : List WarriorValue)
    (allowed : checked_parameters (parameters_in s) ≡ Ok p) (planned : IsPlan (seeded s lineup.seed) plan) (are : AreChosen ws (indices_of lineup) chosen) where
  pub is_fought : (fates : List Fate) → FitsTwo p (length chosen) plan.fixed
      → fates_of (is_counting lineup) p chosen plan.fixed plan.rounds plan.seed ≡ Ok fates → IsFought s ws lineup fates
  is_fought fates fits is = (p, plan, chosen, allowed, planned, are, fits, is)

  pub is_refused : (fault : MatchFault) (refusal : CallRefusal) → (fault ≡ fight.OutOfMemory) ⊎ (fates_of (is_counting lineup) p chosen plan.fixed plan.rounds plan.seed ≡ Err fault)
      → refusal ≡ fight_refusal fault → RefusesLineup s ws lineup refusal
  is_refused fault refusal (inl none) is = memory_lineup s ws lineup refusal (rw none at is)
  is_refused fault refusal (inr fails) is = inr (p, plan, chosen, fault, allowed, planned, are, fails, is)
