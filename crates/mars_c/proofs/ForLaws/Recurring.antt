-- Errors of arguments recur: a call that can succeed is refused only because memory ran out.
use Rattle.std.proofs.Common.{◌≡◌, ◌≢◌, ◌<◌, ◌≤◌, ◌⊎◌, refl, ap, sym, subst, ◌∙◌, arith, ℕ, zero, suc, List, [], ◌∷◌, length, map, take, drop, None, Option, Some, Result, Ok, Err, inl, inr}
use Rattle.std.specs.Prelude.{All, codes, slice_get, sum_by}
use Rattle.std.proofs.lemmas.List.{length-map, length-take-le}
use Rattle.std.proofs.lemmas.List.Elements.{All-get_or, All-head, All-tail}
use Rattle.std.proofs.lemmas.Option.{get_or_from_slice_get, same_Some, slice_get_within}
use Rattle.mars_cell.specs.Cells.{FitsCore}
use Rattle.mars_cell.specs.ParameterFaults.{checked_parameters}
use Rattle.mars_cell.specs.Parameters.{Parameters}
use Rattle.mars_cell.specs.Warriors.{WarriorValue}
use Rattle.mars_cell.specs.declared.instruction.Cell.{Cell}
use Rattle.mars_core.specs.Limits.{max_warriors}
use Rattle.mars_match.specs.Placement.{FitsTwo}
use Rattle.mars_match.specs.declared.fates.Fate.{Fate}
use Rattle.mars_match.specs.declared.fault.MatchFault.{MatchFault}
use Rattle.mars_match.specs.declared.setup.Plan.{Plan}
use Rattle.mars_match.specs.declared.setup.Setup.{Setup}
use Rattle.mars_c.specs.Battles.{round_start_state}
use Rattle.mars_c.specs.Blocks.{capacity_of}
use Rattle.mars_c.specs.Cells.{plain_cell}
use Rattle.mars_c.specs.Contests.{population}
use Rattle.mars_c.specs.Entrants.{AreEntrants, IsEntrant, IsNoEntrant, Reads}
use Rattle.mars_c.specs.Laws.{LeagueErrorsRecur, MatchErrorsRecur, OutcomeErrorsRecur, PopulationErrorsRecur, StartErrorsRecur, StartsFitAgain}
use Rattle.mars_c.specs.Outcomes.{AreChosen, AreFought, IsFought, IsLineup, IsNoLineup, RefusesLineup, indices_of, seeded}
use Rattle.mars_c.specs.Refusals.{Fails, IsOutside, IsWrong, RefusesEntry, RefusesPlan, RefusesWarriors}
use Rattle.mars_c.specs.Settings.{IsPlan, IsSetup, parameters_in, position_of}
use Rattle.mars_c.specs.declared.cells.MarsCell.{MarsCell}
use Rattle.mars_c.specs.declared.faults.CallRefusal.{CallRefusal}
use Rattle.mars_c.specs.declared.faults.CallRefusal.TheVariants as call
use Rattle.mars_c.specs.declared.outcomes.MarsLineup.{MarsLineup}
use Rattle.mars_c.specs.declared.ranges.LineupFault.{LineupFault}
use Rattle.mars_c.specs.declared.ranges.LineupFault.TheVariants as lineup_fault
use Rattle.mars_c.specs.declared.ranges.SettingsFault.{SettingsFault}
use Rattle.mars_c.specs.declared.ranges.SettingsFault.TheVariants as settings
use Rattle.mars_c.specs.declared.settings.MarsSettings.{MarsSettings}
use Rattle.mars_c.specs.declared.warriors.EntrantFault.{EntrantFault}
use Rattle.mars_c.specs.declared.warriors.EntrantFault.TheVariants as entrant
use Rattle.mars_c.specs.declared.warriors.MarsWarrior.{MarsWarrior}
use Rattle.mars_c.proofs.ForLaws.Equal.{equal_starts, fates_in, league_in, match_of, ok_injective, one_cell, one_reading, round_starts, same_fates, same_given}
use Rattle.mars_c.proofs.Refused.{read_cells}

not_both : {X F : Type 0} (r : Result X F) (x : X) (f : F) → r ≡ Ok x → r ≡ Err f → ⊥
not_both {X} {F} r x f is fails = let same : ◌≡◌ {A = Result X F} (Ok x) (Err f) = sym is ∙ fails in cc

-- ---- Warriors

-- The numbers at an index are those of a cell that fits the core.
cell_at : (m : ℕ) (xs : List Cell) (i : ℕ) (y : MarsCell) → All (FitsCore m) xs → slice_get (map plain_cell xs) i ≡ Some y
    → (x : Cell) × (plain_cell x ≡ y) × FitsCore m x
cell_at m [] i y fits at = absurd (let none : None ≡ Some y = at in cc)
cell_at m (x ∷ xs) zero y fits at = (x, same_Some (plain_cell x) y at, All-head (FitsCore m) x xs fits)
cell_at m (x ∷ xs) (suc i) y fits at = cell_at m xs i y (All-tail (FitsCore m) x xs fits) at

module _ (p : Parameters) where
  is_entrant : (cells : List MarsCell) (start : ℕ) (w : WarriorValue) (f : EntrantFault) → IsEntrant p cells start [] [] w
      → f ≢ entrant.OutOfMemory → IsNoEntrant p cells start f → ⊥
  is_entrant cells start w entrant.Length e other broken = broken (omega (arith, e.inside)) e.short
  is_entrant cells start w entrant.Start e other broken = omega (arith, e.inside, broken)
  is_entrant cells start w (entrant.Cell i) e other (before, (numbers, at, broken)) =
      let found = cell_at p.core_size w.cells i numbers e.fits (rw (← e.cells_same) at at) in
      broken found.0 found.1
  is_entrant cells start w (entrant.Field i) e other (before, (cell, at, outside)) =
      let found = cell_at p.core_size w.cells i (plain_cell cell) e.fits (rw (← e.cells_same) at at) in
      outside (subst (FitsCore p.core_size) (one_cell found.0 cell found.1) found.2)
  is_entrant cells start w entrant.Name e other broken = broken
  is_entrant cells start w entrant.OutOfMemory e other broken = other refl

  -- A warrior is read from the same cells, however many others are read after it.
  read_at : (cells : List MarsCell) (entrants : List MarsWarrior) (ws us : List WarriorValue) (rest left : List MarsCell) (i : ℕ) (one : MarsWarrior)
      → Reads p cells entrants ws rest → Reads p cells (take i entrants) us left → slice_get entrants i ≡ Some one
      → (w : WarriorValue) × IsEntrant p (take one.length left) one.start [] [] w
  read_at cells [] ws us rest left i one all front at = absurd (let none : None ≡ Some one = at in cc)
  read_at cells (e ∷ others) [] us rest left i one all front at = absurd all
  read_at cells (e ∷ others) (w ∷ ws) [] rest left zero one all front at =
      let same : e ≡ one = same_Some e one at in (
        w,
        subst (λ (one : MarsWarrior). IsEntrant p (take one.length left) one.start [] [] w) same
            (subst (λ cells. IsEntrant p (take e.length cells) e.start [] [] w) front all.1),
      )
  read_at cells (e ∷ others) (w ∷ ws) (u ∷ us) rest left (suc i) one all front at =
      read_at (drop e.length cells) others ws us rest left i one all.2 front.2 at
  read_at cells (e ∷ others) (w ∷ ws) us rest left i one all front at = absurd front

  -- As many warriors are read as there are entrants.
  as_many : (cells : List MarsCell) (entrants : List MarsWarrior) (ws : List WarriorValue) (rest : List MarsCell)
      → Reads p cells entrants ws rest → length ws ≡ length entrants
  as_many cells [] [] rest all = refl
  as_many cells (e ∷ others) (w ∷ ws) rest all = ap suc (as_many (drop e.length cells) others ws rest all.2)
  as_many cells entrants ws rest all = absurd all

lengths_add_up : (p : Parameters) (cells : List MarsCell) (entrants : List MarsWarrior) (ws : List WarriorValue) → AreEntrants p cells entrants ws
    → sum_by (λ (one : MarsWarrior). one.length) entrants ≡ length cells
lengths_add_up p cells entrants ws are = omega (arith, read_cells p cells entrants ws [] are)

-- Warriors that are read are refused only because memory ran out.
module _ (s : MarsSettings) (cells : List MarsCell) (entrants : List MarsWarrior) (p : Parameters) (ws : List WarriorValue)
    (allowed : checked_parameters (parameters_in s) ≡ Ok p) (are : AreEntrants p cells entrants ws) where
  not_wrong : (i : ℕ) (f : EntrantFault) → IsWrong p cells entrants i f → ⊥
  not_wrong i f (us, left, one, at, front, few, other, broken) =
      let read = read_at p cells entrants ws us [] left i one are front at in
      is_entrant p (take one.length left) one.start read.0 f read.1 other broken

  warriors_read : (refusal : CallRefusal) → RefusesWarriors s cells entrants refusal → refusal ≡ call.OutOfMemory
  warriors_read call.OutOfMemory h = refl
  warriors_read (call.Settings settings.Lengths) h = absurd (h (lengths_add_up p cells entrants ws are))
  warriors_read (call.Settings other) h = absurd h
  warriors_read (call.Parameters f) h = absurd (not_both (checked_parameters (parameters_in s)) p f allowed h)
  warriors_read (call.Warrior i f) (q, too, wrong) =
      absurd (not_wrong i f (subst (λ p. IsWrong p cells entrants i f) (ok_injective q p (sym too ∙ allowed)) wrong))
  warriors_read other h = absurd h

-- ---- A call without an error

module _ (s : MarsSettings) (p : Parameters) (plan : Plan) (count : ℕ)
    (allowed : checked_parameters (parameters_in s) ≡ Ok p) (made : IsPlan s plan) (fits : FitsTwo p count plan.fixed) where
  inside : (f : SettingsFault) → IsOutside s count f → ⊥
  inside settings.Rounds outside = outside made.rounds_allowed
  inside settings.Seed outside = outside made.seed_allowed
  inside settings.Position (q, allowed_too, outside) =
      let same = ok_injective p q (sym allowed ∙ allowed_too) in
      outside (subst (λ p. FitsTwo p count (position_of s.position)) same (subst (FitsTwo p count) made.fixed fits))
  inside other outside = outside

  planned : (refusal : CallRefusal) → RefusesPlan s count refusal → refusal ≡ call.OutOfMemory
  planned call.OutOfMemory h = refl
  planned (call.Settings f) h = absurd (inside f h)
  planned other h = absurd h

module _ (s : MarsSettings) (text : List ℕ) (cells : List MarsCell) (entrants : List MarsWarrior) (a : Setup) (ws : List WarriorValue)
    (made : IsSetup s text a) (are : AreEntrants a.params cells entrants ws) where
  pub fits_all : FitsTwo a.params (length ws) a.plan.fixed → FitsTwo a.params (length entrants) a.plan.fixed
  fits_all fits = subst (λ n. FitsTwo a.params n a.plan.fixed) (as_many a.params cells entrants ws [] are) fits

  module _ (count : ℕ) (fits : FitsTwo a.params count a.plan.fixed) where
    pub entered : (refusal : CallRefusal) → RefusesEntry s text count cells entrants refusal → refusal ≡ call.OutOfMemory
    entered (call.Settings settings.Lengths) h = absurd (h (lengths_add_up a.params cells entrants ws are))
    entered (call.Settings f) h = absurd (inside s a.params a.plan count made.params made.plan fits f h)
    entered (call.Formula f) h = absurd (not_both _ a.formula f made.formula h)
    entered other h = warriors_read s cells entrants a.params ws made.params are other h

    -- If what the warriors do has a result, the call is refused only because memory ran out.
    pub only_memory : {X : Type 0} (fought : Setup → List WarriorValue → Result X MatchFault) (x : X) (refusal : CallRefusal) → fought a ws ≡ Ok x
        → RefusesEntry s text count cells entrants refusal ⊎ Fails s text cells entrants fought refusal → refusal ≡ call.OutOfMemory
    only_memory fought x refusal is (inl entry) = entered refusal entry
    only_memory fought x refusal is (inr (b, us, fault, too, read, fails, refused)) =
        absurd (not_both (fought b us) x fault (sym (same_given s text cells entrants a b ws us made too are read fought) ∙ is) fails)

-- ---- Lineups

all_at : {X : Type 0} (P : X → Type 0) (xs : List X) (i : ℕ) (x : X) → All P xs → slice_get xs i ≡ Some x → P x
all_at P xs i x all at = subst P (get_or_from_slice_get xs i x x at) (All-get_or P xs i x (slice_get_within xs i x at) all)

right_lineup : (count : ℕ) (lineup : MarsLineup) (f : LineupFault) → IsLineup count lineup → IsNoLineup count lineup f → ⊥
right_lineup count lineup lineup_fault.Count is broken = broken is.warriors
right_lineup count lineup lineup_fault.Index is broken = broken is.indices

-- As many warriors are chosen as the lineup has.
all_chosen : (ws us : List WarriorValue) (lineup : MarsLineup) → AreChosen ws (indices_of lineup) us → lineup.count ≤ length lineup.warrior → length us ≡ lineup.count
all_chosen ws us lineup are few =
    let same = ap (λ (l : List (Option WarriorValue)). length l) are in
    let here = length-map (indices_of lineup) (λ i. slice_get ws i) in
    let there = length-map us (λ w. Some w) in
    let taken = length-take-le lineup.count lineup.warrior few in
    omega (arith, same, here, there, taken)

module _ (s : MarsSettings) (ws : List WarriorValue) where
  fought_at : (lineups : List MarsLineup) (fates : List Fate) (i : ℕ) (lineup : MarsLineup) → AreFought s ws lineups fates → slice_get lineups i ≡ Some lineup
      → (first : List Fate) × IsFought s ws lineup first
  fought_at [] fates i lineup fought at = absurd (let none : None ≡ Some lineup = at in cc)
  fought_at (one ∷ others) fates zero lineup (first, rest, fought, more, is) at =
      (first, subst (λ lineup. IsFought s ws lineup first) (same_Some one lineup at) fought)
  fought_at (one ∷ others) fates (suc i) lineup (first, rest, fought, more, is) at = fought_at others rest i lineup more at

  -- A lineup with fates is refused only because memory ran out.
  fought_lineup : (lineup : MarsLineup) (fates : List Fate) (refusal : CallRefusal) → lineup.count ≤ length lineup.warrior
      → IsFought s ws lineup fates → RefusesLineup s ws lineup refusal → refusal ≡ call.OutOfMemory
  fought_lineup lineup fates refusal few (p, a, us, allowed, made, are, fits, is) (inl unplanned) =
      let fit = subst (λ n. FitsTwo p n a.fixed) (all_chosen ws us lineup are few) fits in
      planned (seeded s lineup.seed) p a lineup.count allowed made fit refusal unplanned
  fought_lineup lineup fates refusal few (p, a, us, allowed, made, are, fits, is) (inr (q, b, vs, fault, allowed_too, too, chosen, fails, refused)) =
      absurd (not_both (fates_in lineup q b vs) fates fault (sym (same_fates s ws lineup p q a b us vs allowed allowed_too made too are chosen) ∙ is) fails)

-- ---- The laws

pub match_errors_recur : MatchErrorsRecur
match_errors_recur s text cells entrants rows refusal few many held (inl counted) = absurd (counted.1 few)
match_errors_recur s text cells entrants rows refusal few many held (inr (inl counted)) = absurd (counted.1 many)
match_errors_recur s text cells entrants rows refusal few many (table, (a, ws, made, are, fits, is), holds) (inr (inr refused)) =
    let fit = fits_all s text cells entrants a ws made are fits in
    only_memory s text cells entrants a ws made are (length entrants) fit match_of table refusal is refused

pub league_errors_recur : LeagueErrorsRecur
league_errors_recur s text cells entrants rows refusal few many held (inl counted) = absurd (counted.1 few)
league_errors_recur s text cells entrants rows refusal few many held (inr (inl counted)) = absurd (counted.1 many)
league_errors_recur s text cells entrants rows refusal few many (table, (a, ws, made, are, free, is), holds) (inr (inr refused)) =
    only_memory s text cells entrants a ws made are 0 (rw free tt) league_in table refusal (rw free is) refused

pub population_errors_recur : PopulationErrorsRecur
population_errors_recur s text cells entrants rows refusal few held (inl counted) = absurd (counted.1 few)
population_errors_recur s text cells entrants rows refusal few (a, ws, sums, made, are, fits, is, holds) (inr refused) =
    only_memory s text cells entrants a ws made are 2 fits (λ a ws. population a (length rows) ws) sums refusal is refused

pub start_errors_recur : StartErrorsRecur
start_errors_recur s cells entrants round start refusal few held (inl counted) = absurd (counted.1 few)
start_errors_recur s cells entrants round start refusal few (a, ws, made, are, fits, within, begins) (inr (inl late)) = absurd (late.1 within)
start_errors_recur s cells entrants round start refusal few (a, ws, made, are, fits, within, begins) (inr (inr refused)) =
    let fit = fits_all s (codes "0") cells entrants a ws made are fits in
    only_memory s (codes "0") cells entrants a ws made are (length entrants) fit (λ a ws. round_start_state a ws round) start refusal
    (round_starts a ws round start begins) refused

pub starts_fit_again : StartsFitAgain
starts_fit_again s cells entrants round before after (one, begins, few, written) (other, starts, over) =
    let same = equal_starts s cells entrants round one other begins starts in
    let short = subst (λ s. length before < capacity_of s) (sym same) over in
    omega (arith, few, short)

pub outcome_errors_recur : OutcomeErrorsRecur
outcome_errors_recur s cells entrants lineups rows refusal all long many held (inl (i, lineup, f, before, at, broken, is)) =
    absurd (right_lineup (length entrants) lineup f (all_at (IsLineup (length entrants)) lineups i lineup all at) broken)
outcome_errors_recur s cells entrants lineups rows refusal all long many held (inr (inl (right, counted))) = absurd (counted.1 many)
outcome_errors_recur s cells entrants lineups rows refusal all long many (p, ws, fates, allowed, are, fought, holds) (inr (inr (in_range, inl refused))) =
    warriors_read s cells entrants p ws allowed are refusal refused
outcome_errors_recur s cells entrants lineups rows refusal all long many (p, ws, fates, allowed, are, fought, holds)
    (inr (inr (in_range, inr (q, vs, too, read, (i, lineup, before, done, at, refused))))) =
    let params : q ≡ p = ok_injective q p (sym too ∙ allowed) in
    let warriors = one_reading p cells entrants vs ws [] (subst (λ p. AreEntrants p cells entrants vs) params read) are in
    let here = fought_at s ws lineups fates i lineup fought at in
    let is = all_at (IsLineup (length entrants)) lineups i lineup all at in
    let array : length lineup.warrior ≡ max_warriors = all_at (λ (lineup : MarsLineup). length lineup.warrior ≡ max_warriors) lineups i lineup long at in
    let few : lineup.count ≤ length lineup.warrior = subst (λ n. lineup.count ≤ n) (sym array) is.warriors.1 in
    fought_lineup s ws lineup here.0 refusal few here.1 (subst (λ ws. RefusesLineup s ws lineup refusal) warriors refused)
