-- An imp and a dwarf in an ordinary battle: for 200 turns neither touches a cell of the other, and each fights as it
-- would without an opponent.
use Rattle.std.specs.Prelude.{◌≡◌, ℕ, zero, suc, ◌/◌, ◌<◌, ◌≤◌, ◌==◌, nat_lt, Bool, true, false, if◌then◌else◌, List, [], ◌∷◌, ◌++◌, take, drop, None, refl}
use Rattle.std.proofs.Common.{replicate, sym, ◌∙◌}
use Rattle.std.proofs.Math.Facts.{ltb_yes}
use Rattle.std.proofs.Math.Nat.{le_of_suc-le-suc, not-suc-le-zero}
use Rattle.std.proofs.lemmas.Bool.{true≢false, ltb-true, ltb-false}
use Rattle.std.proofs.lemmas.List.{get_or_append_left, get_or-append_right}
use Rattle.std.proofs.lemmas.List.Sums.{AllPass-from_list_all}
use Rattle.mars_cell.specs.declared.instruction.Cell.{Cell}
use Rattle.mars_cell.specs.declared.instruction.Op.TheVariants.{Dat, Mov, Add, Jmp, Sne}
use Rattle.mars_cell.specs.declared.instruction.Modifier.TheVariants.{B, Ab, F, I}
use Rattle.mars_cell.specs.declared.instruction.Mode.TheVariants.{Immediate, Direct, BIndirect}
use Rattle.mars_cell.specs.Cells.{empty_cell}
use Rattle.mars_cell.specs.Parameters.{Parameters}
use Rattle.mars_cell.specs.Warriors.{WarriorValue}
use Rattle.mars_core.specs.Start.{start_fault, start_state}
use Rattle.mars_core.specs.State.{State, cell_at}
use Rattle.mars_core.specs.Turn.{after_turns}
use Rattle.mars_core.specs.Apart.{GoesOn, StaysWithin, count_own_turns, touched_in, AgreesOn}
use Rattle.mars_core.specs.Laws.{DisjointRunAsIfAlone}
use Rattle.mars_core.specs.Validity.{IsValid}
use Rattle.mars_core.specs.Examples.{the_machine, cell_of, imp, of_eight, eight, battle_of, lone}

-- `ADD.AB #4, $3`; `MOV.I $2, @2`; `JMP.B $-2, $0`; `DAT.F #0, #0`.
abbrev dwarf : List Cell
dwarf =
    cell_of Add Ab Immediate 4 Direct 3 ∷ cell_of Mov I Direct 2 BIndirect 2
    ∷ cell_of Jmp B Direct 7998 Direct 0 ∷ cell_of Dat F Immediate 0 Immediate 0 ∷ []

-- The default parameters of battles: both limits are the size of the core.
abbrev usual : Parameters
usual = record { core_size = 8000; processes = 8000; cycles = 80000; read_limit = 8000; write_limit = 8000; max_length = 100; distance = 100 }

-- The 200 cells of the imp, which come before the cells of the dwarf.
abbrev imp_part : List Cell
imp_part = imp ∷ replicate 199 empty_cell

abbrev dwarf_part : List Cell
dwarf_part = dwarf ++ replicate 7796 empty_cell

abbrev owner : ℕ → ℕ
owner address = if nat_lt address 200 then 0 else 1

abbrev fight : State
fight = battle_of usual (imp_part ++ dwarf_part) ((0 ∷ []) ∷ (200 ∷ []) ∷ [])

abbrev lone_imp : State
lone_imp = lone usual (imp_part ++ replicate 7800 empty_cell) (0 ∷ [])

abbrev lone_dwarf : State
lone_dwarf = lone usual (replicate 200 empty_cell ++ dwarf_part) (200 ∷ [])

-- A warrior with `cells`, which starts at the first cell.
abbrev warrior : List Cell → WarriorValue
warrior cells = record { name = []; author = []; cells = cells; start = 0 }

-- `fight`, `lone_imp` and `lone_dwarf` are the starts of battles of these warriors, and `fight` has no error.
pub they_start :
    (start_state usual (warrior (imp ∷ []) ∷ warrior dwarf ∷ []) (0 ∷ 200 ∷ []) ≡ fight)
    × (start_fault usual (warrior (imp ∷ []) ∷ warrior dwarf ∷ []) (0 ∷ 200 ∷ []) ≡ None)
    × (start_state usual (warrior (imp ∷ []) ∷ []) (0 ∷ []) ≡ lone_imp)
    × (start_state usual (warrior dwarf ∷ []) (200 ∷ []) ≡ lone_dwarf)
unfolding the_machine
they_start = (refl, refl, refl, refl)

-- The cells that each warrior touches in the first four turns.
pub touched_first : (touched_in 0 4 fight ≡ 0 ∷ 0 ∷ 1 ∷ 1 ∷ 1 ∷ 1 ∷ 2 ∷ 2 ∷ []) × (touched_in 1 4 fight ≡ 200 ∷ 200 ∷ 203 ∷ 203 ∷ 201 ∷ 203 ∷ 203 ∷ 203 ∷ 207 ∷ 207 ∷ [])
unfolding the_machine
touched_first = (refl, refl)

-- In 200 turns, neither warrior touches a cell of the other.
pub each_keeps_to_its_own : (w : ℕ) → w < 2 → StaysWithin (λ address. owner address == w) w 200 fight
unfolding the_machine
each_keeps_to_its_own zero h = AllPass-from_list_all (λ address. owner address == 0) (touched_in 0 200 fight) refl
each_keeps_to_its_own (suc zero) h = AllPass-from_list_all (λ address. owner address == 1) (touched_in 1 200 fight) refl
each_keeps_to_its_own (suc (suc w)) h = absurd (not-suc-le-zero (le_of_suc-le-suc (le_of_suc-le-suc h)))

imp_owns : (is_first : Bool) → ((if is_first then 0 else 1) == 0) ≡ true → is_first ≡ true
imp_owns true mine = refl
imp_owns false mine = absurd (true≢false (sym mine))

dwarf_owns : (is_first : Bool) → ((if is_first then 0 else 1) == 1) ≡ true → is_first ≡ false
dwarf_owns true mine = absurd (true≢false (sym mine))
dwarf_owns false mine = refl

same_imp : (a : ℕ) → (owner a == 0) ≡ true → cell_at fight.core a ≡ cell_at lone_imp.core a
same_imp a mine =
    let first = ltb-true a 200 (imp_owns (nat_lt a 200) mine) in
    get_or_append_left imp_part dwarf_part empty_cell a first ∙ sym (get_or_append_left imp_part (replicate 7800 empty_cell) empty_cell a first)

same_dwarf : (a : ℕ) → (owner a == 1) ≡ true → cell_at fight.core a ≡ cell_at lone_dwarf.core a
same_dwarf a mine =
    let behind = ltb-false a 200 (dwarf_owns (nat_lt a 200) mine) in
    get_or-append_right imp_part dwarf_part 200 a empty_cell refl behind
    ∙ sym (get_or-append_right (replicate 200 empty_cell) dwarf_part 200 a empty_cell refl behind)

-- At the start, each warrior is as in a battle of its own.
pub each_starts_as_alone : AgreesOn (λ address. owner address == 0) 0 fight 0 lone_imp × AgreesOn (λ address. owner address == 1) 1 fight 0 lone_dwarf
each_starts_as_alone = (
  record { params = refl; processes = refl; cells = same_imp },
  record { params = refl; processes = refl; cells = same_dwarf },
)

-- By the law, after 100 turns of its own each warrior is as in a battle of its own, since battles that start are valid.
pub each_fights_as_alone : DisjointRunAsIfAlone → IsValid fight → IsValid lone_imp → IsValid lone_dwarf →
    AgreesOn (λ address. owner address == 0) 0 (after_turns 200 fight) 0 (after_turns 100 lone_imp)
    × AgreesOn (λ address. owner address == 1) 1 (after_turns 200 fight) 0 (after_turns 100 lone_dwarf)
unfolding the_machine
each_fights_as_alone law valid valid_imp valid_dwarf =
    let cycle : 0 ≤ 0 = le_of_suc-le-suc (ltb_yes tt) in (
      law owner 0 200 fight lone_imp valid valid_imp refl cycle each_starts_as_alone.0 each_keeps_to_its_own,
      law owner 1 200 fight lone_dwarf valid valid_dwarf refl cycle each_starts_as_alone.1 each_keeps_to_its_own,
    )

-- Computing the battles confirms that after 100 turns of its own each warrior is as in a battle of its own.
pub each_is_as_alone :
    ((after_turns 200 fight).queues ≡ (100 ∷ []) ∷ (201 ∷ []) ∷ [])
    × ((after_turns 100 lone_imp).queues ≡ (100 ∷ []) ∷ [])
    × (take 200 (after_turns 200 fight).core ≡ take 200 (after_turns 100 lone_imp).core)
    × ((after_turns 100 lone_dwarf).queues ≡ (201 ∷ []) ∷ [])
    × (drop 200 (after_turns 200 fight).core ≡ drop 200 (after_turns 100 lone_dwarf).core)
unfolding the_machine
each_is_as_alone = (refl, refl, refl, refl, refl)

-- A battle whose first warrior executes `SNE.I $0, $4`, which changes nothing.
abbrev reading : State
reading = battle_of of_eight (eight (cell_of Sne I Direct 0 Direct 4 ∷ [])) ((0 ∷ []) ∷ (4 ∷ []) ∷ [])

-- `SNE.I $0, $4` reads a cell of the other warrior, so the warrior does not keep to its own cells.
pub reading_is_touching : StaysWithin (λ address. address / 4 == 0) 0 1 reading → ⊥
unfolding the_machine
reading_is_touching keeps = true≢false (sym (keeps 2 0 (ltb_yes tt)))

-- A single warrior that dies in its first turn.
abbrev dying : State
dying = lone of_eight (eight []) (0 ∷ [])

pub the_dead_have_no_more_turns : (count_own_turns 0 3 dying ≡ 1) × (touched_in 0 3 dying ≡ 0 ∷ 0 ∷ 0 ∷ 0 ∷ [])
unfolding the_machine
the_dead_have_no_more_turns = (refl, refl)

pub one_turn_is_made : GoesOn 1 dying
unfolding the_machine
one_turn_is_made zero h = refl
one_turn_is_made (suc k) h = absurd (not-suc-le-zero (le_of_suc-le-suc h))
