-- Why calls are rejected, in terms of plain variables.
use Rattle.std.proofs.Common.{◌≡◌, ◌∙◌, ◌⊎◌, inl, inr, ℕ, zero, suc, ◌+◌, ◌<◌, ◌≤◌, ◌≢◌, ◌==◌, false, List, [], ◌∷◌, length, take, drop, get_or, Option, Result, Err, ap, sym, refl, subst, sum_by, arith}
use Rattle.std.proofs.lemmas.List.{length-drop, take_all}
use Rattle.std.proofs.lemmas.Option.{slice_get-get_or}
use Rattle.std.proofs.lemmas.List.Sums.{sum_by_more_le, sum_by-cons}
use Rattle.mars_cell.specs.Parameters.{Parameters}
use Rattle.mars_cell.specs.Warriors.{WarriorValue}
use Rattle.mars_match.specs.Rounds.{placed_for}
use Rattle.mars_match.specs.declared.fault.MatchFault.{MatchFault}
use Rattle.mars_match.specs.declared.fault.MatchFault.TheVariants as fight
use Rattle.mars_match.specs.declared.setup.Setup.{Setup}
use Rattle.mars_c.specs.Settings.{IsSetup}
use Rattle.mars_c.specs.Battles.{placed_in}
use Rattle.mars_c.specs.Entrants.{AreEntrants, IsNoEntrant, Reads}
use Rattle.mars_c.specs.declared.warriors.EntrantFault.{EntrantFault}
use Rattle.mars_c.specs.declared.warriors.EntrantFault.TheVariants as entrant
use Rattle.mars_c.specs.declared.cells.MarsCell.{MarsCell}
use Rattle.mars_c.specs.declared.warriors.MarsWarrior.{MarsWarrior}
use Rattle.mars_c.specs.Refusals.{Fails, IsOutside, IsWrong, RefusesEntry, RefusesWarriors, fight_refusal}
use Rattle.mars_c.specs.declared.faults.CallRefusal.{CallRefusal}
use Rattle.mars_c.specs.declared.faults.CallRefusal.TheVariants as call
use Rattle.mars_c.specs.declared.faults.CallRefusal.TheVariants.{OutOfMemory}
use Rattle.mars_c.specs.declared.ranges.SettingsFault.{SettingsFault}
use Rattle.mars_c.specs.declared.ranges.SettingsFault.TheVariants as settings
use Rattle.mars_c.specs.declared.settings.MarsSettings.{MarsSettings}

abbrev pub total : List MarsWarrior → ℕ
total ns = sum_by (λ (one : MarsWarrior). one.length) ns

-- Warriors that are read have as many cells as their lengths add up to.
pub read_cells : (p : Parameters) (cells : List MarsCell) (ns : List MarsWarrior) (ws : List WarriorValue) (rest : List MarsCell) → Reads p cells ns ws rest → length cells ≡ total ns + length rest
read_cells p cells [] [] rest all = let same : length cells ≡ length rest = ap (λ (l : List MarsCell). length l) all in let none : total [] ≡ 0 = refl in omega (arith, same, none)
read_cells p cells [] (w ∷ ws) rest all = absurd all
read_cells p cells (n ∷ ns) [] rest all = absurd all
read_cells p cells (n ∷ ns) (w ∷ ws) rest all =
    let more = read_cells p (drop n.length cells) ns ws rest all.2 in
    let left = length-drop n.length cells in
    let both : total (n ∷ ns) ≡ n.length + total ns = sum_by-cons (λ (one : MarsWarrior). one.length) n ns in
    omega (arith, more, left, both, all.0)

-- If the remaining cells are too few for the next warrior, the lengths do not add up to the number of cells.
pub too_few : (p : Parameters) (cells : List MarsCell) (ns : List MarsWarrior) (i : ℕ) (d : MarsWarrior) (ws : List WarriorValue) (rest : List MarsCell) → Reads p cells (take i ns) ws rest → i < length ns
    → length rest < (get_or ns i d).length → total ns ≢ length cells
too_few p cells ns i d ws rest all inside short same =
    let read = read_cells p cells (take i ns) ws rest all in
    let least = sum_by_more_le (λ (one : MarsWarrior). one.length) ns i d inside in
    omega (arith, read, least, short, same)

-- If cells are left after all warriors, the lengths do not add up to the number of cells.
pub too_many : (p : Parameters) (cells : List MarsCell) (ns : List MarsWarrior) (i : ℕ) (ws : List WarriorValue) (rest : List MarsCell) → Reads p cells (take i ns) ws rest → length ns ≤ i
    → false ≡ (length rest == 0) → total ns ≢ length cells
too_many p cells ns i ws rest all past left same =
    let some : 1 ≤ length rest = grind arith in
    let read = read_cells p cells (take i ns) ws rest all in
    let whole = ap total (take_all i ns past) in
    omega (arith, read, whole, some, same)

-- The first warrior whose numbers are wrong makes the array wrong at its index.
pub wrong_at : (p : Parameters) (cells : List MarsCell) (ns : List MarsWarrior) (i : ℕ) (d : MarsWarrior) (ws : List WarriorValue) (rest : List MarsCell) (fault : EntrantFault)
    → i < length ns → Reads p cells (take i ns) ws rest → (get_or ns i d).length ≤ length rest
    → fault ≢ entrant.OutOfMemory → IsNoEntrant p (take (get_or ns i d).length rest) (get_or ns i d).start fault → IsWrong p cells ns i fault
wrong_at p cells ns i d ws rest fault inside all few other wrong = (ws, rest, get_or ns i d, slice_get-get_or ns i d inside, all, few, other, wrong)

-- An error of the parameters or the warriors is one of the whole entry.
pub entry_of : (s : MarsSettings) (text : List ℕ) (count : ℕ) (cells : List MarsCell) (entrants : List MarsWarrior) (refusal : CallRefusal)
    → RefusesWarriors s cells entrants refusal → RefusesEntry s text count cells entrants refusal
entry_of s text count cells entrants (call.Settings settings.Lengths) refuses = refuses
entry_of s text count cells entrants (call.Settings other) refuses = absurd refuses
entry_of s text count cells entrants (call.Formula fault) refuses = absurd refuses
entry_of s text count cells entrants other refuses = refuses

-- An error of the plan is a refusal of the call.
pub plan_of : (s : MarsSettings) (text : List ℕ) (count : ℕ) (cells : List MarsCell) (entrants : List MarsWarrior) (fault : SettingsFault)
    → IsOutside s count fault → RefusesEntry s text count cells entrants (call.Settings fault)
plan_of s text count cells entrants settings.Lengths outside = absurd outside
plan_of s text count cells entrants other outside = outside

-- A failed allocation in a match is a refusal of every call.
pub memory : (s : MarsSettings) (text : List ℕ) (count : ℕ) (cells : List MarsCell) (entrants : List MarsWarrior) (fault : MatchFault) (refusal : CallRefusal)
    → refusal ≡ fight_refusal fault → fault ≡ fight.OutOfMemory → RefusesEntry s text count cells entrants refusal
memory s text count cells entrants fault refusal is wants = subst (RefusesEntry s text count cells entrants) (sym (is ∙ ap fight_refusal wants)) tt

-- An error of what the warriors do, or a failed allocation, is a refusal of the call.
pub fails : {X : Type 0} (s : MarsSettings) (text : List ℕ) (count : ℕ) (cells : List MarsCell) (entrants : List MarsWarrior) (fought : Setup → List WarriorValue → Result X MatchFault)
    (setup : Setup) (ws : List WarriorValue) (fault : MatchFault) (refusal : CallRefusal)
    → IsSetup s text setup → AreEntrants setup.params cells entrants ws → (fight_refusal fault ≡ OutOfMemory) ⊎ (fought setup ws ≡ Err fault) → refusal ≡ fight_refusal fault
    → RefusesEntry s text count cells entrants refusal ⊎ Fails s text cells entrants fought refusal
fails s text count cells entrants fought setup ws fault refusal made read (inl memory) is = inl (subst (RefusesEntry s text count cells entrants) (sym (is ∙ memory)) tt)
fails s text count cells entrants fought setup ws fault refusal made read (inr shown) is = inr (setup, ws, fault, made, read, shown, is)

-- A failed allocation in a match is the refusal `OutOfMemory`.
pub memory_or : {A : Type 0} (fault : MatchFault) → (fault ≡ fight.OutOfMemory) ⊎ A → (fight_refusal fault ≡ OutOfMemory) ⊎ A
memory_or fault (inl memory) = inl (ap fight_refusal memory)
memory_or fault (inr shown) = inr shown

-- If the first round cannot be placed, no later round can.
pub placed_fails : (p : Parameters) (w : ℕ) (fixed : Option ℕ) (k seed : ℕ) (fault : MatchFault) → placed_for p w fixed seed ≡ Err fault → placed_in p w fixed k seed ≡ Err fault
placed_fails p w fixed zero seed fault shown = rw shown refl
placed_fails p w fixed (suc k) seed fault shown = rw shown refl

pub not_placed : (p : Parameters) (w : ℕ) (fixed : Option ℕ) (k seed : ℕ) (all : Result (List ℕ) MatchFault) (fault : MatchFault) → placed_in p w fixed k seed ≡ all
    → (fault ≡ fight.OutOfMemory) ⊎ (placed_for p w fixed seed ≡ Err fault) → (fault ≡ fight.OutOfMemory) ⊎ (all ≡ Err fault)
not_placed p w fixed k seed all fault same (inl memory) = inl memory
not_placed p w fixed k seed all fault same (inr shown) = inr (sym same ∙ placed_fails p w fixed k seed fault shown)
