-- Examples of what commands reach, and of the order in which their refusals are checked.
use Rattle.std.specs.Prelude.{◌≡◌, ℕ, List, [], ◌∷◌, Result, Ok, Err, refl}
use Rattle.mars_cell.specs.declared.instruction.Cell.{Cell}
use Rattle.mars_cell.specs.declared.instruction.Op.TheVariants.{Jmp, Nop}
use Rattle.mars_cell.specs.declared.instruction.Modifier.TheVariants.{B, F}
use Rattle.mars_cell.specs.declared.instruction.Mode.TheVariants.{Direct}
use Rattle.mars_cell.specs.Cells.{empty_cell}
use Rattle.mars_core.specs.Examples.{the_machine, cell_of, numbers, sizes, eight, battle_of}
use Rattle.mars_core.specs.State.{State}
use Rattle.mars_session.specs.declared.calls.Call.{Call}
use Rattle.mars_session.specs.declared.calls.Call.TheVariants.{Step, Run, Until, SetCell, Fill, MoveProcess, Kill, Spawn, Undo, Redo, Goto}
use Rattle.mars_session.specs.declared.calls.Refusal.{Refusal}
use Rattle.mars_session.specs.declared.calls.Refusal.TheVariants.{Count, Address, FieldOutside, NoSuchWarrior, NoSuchProcess, WarriorDead, QueueFull, Over, CyclePassed, JournalFull, NothingToRedo}
use Rattle.mars_session.specs.declared.calls.Standing.{Standing}
use Rattle.mars_session.specs.History.{beginning}
use Rattle.mars_session.specs.Retention.{never}
use Rattle.mars_session.specs.Script.{script}
use Rattle.mars_session.specs.Examples.{stands, RepliesWithin}

-- A battle of at most ten cycles, whose single warrior survives, ends after the tenth cycle. `Count` is checked before
-- `Over`, and `Over` before `CyclePassed`.
pub commands_of_a_battle_that_ends : RepliesWithin 100
    (Run 12 ∷ Step ∷ Run 1 ∷ Run 0 ∷ Until 11 ∷ Until 3 ∷ Undo ∷ Until 12 ∷ Redo ∷ [])
    (stands 10 10 10 ∷ Err Over ∷ Err Over ∷ Err Count ∷ Err Over ∷ Err Over ∷ stands 0 0 10 ∷ stands 10 10 10 ∷ Err NothingToRedo ∷ [])
unfolding the_machine
commands_of_a_battle_that_ends = refl

-- The refusal for a cycle that has passed contains the present cycle.
pub passed_cycles : RepliesWithin 100 (Run 3 ∷ Until 2 ∷ Until 4 ∷ []) (stands 3 3 3 ∷ Err (CyclePassed 3) ∷ stands 4 4 4 ∷ [])
unfolding the_machine
passed_cycles = refl

abbrev nop : Cell
nop = cell_of Nop F Direct 0 Direct 0

-- After edits several places have the same number of turns. Goto finds the first of these places, also if it is the
-- last place of the history.
pub goto_finds_the_first_of_equal_turns : RepliesWithin 100
    (Step ∷ SetCell 7 nop ∷ SetCell 6 nop ∷ Step ∷ Goto 1 ∷ Goto 2 ∷ Goto 0 ∷ [])
    (stands 1 1 1 ∷ stands 1 2 2 ∷ stands 1 3 3 ∷ stands 2 4 4 ∷ stands 1 1 4 ∷ stands 2 4 4 ∷ stands 0 0 4 ∷ [])
unfolding the_machine
goto_finds_the_first_of_equal_turns = refl

-- Edits that are refused. The address is checked before the numbers of a cell and before the warrior.
pub edits_are_refused : RepliesWithin 100
    (SetCell 8 (numbers 8 8) ∷ SetCell 7 (numbers 0 8) ∷ MoveProcess 1 0 8 ∷ MoveProcess 1 0 7 ∷ MoveProcess 0 1 7 ∷ Kill 1 0 ∷ Spawn 1 8 ∷ Spawn 1 7 ∷ [])
    (Err Address ∷ Err FieldOutside ∷ Err Address ∷ Err NoSuchWarrior ∷ Err NoSuchProcess ∷ Err NoSuchWarrior ∷ Err Address ∷ Err NoSuchWarrior ∷ [])
unfolding the_machine
edits_are_refused = refl

-- A fill appends a place for each cell, both ends included. Whether there is room for all these places is checked last.
-- A fill is refused if its first address is greater than its last one.
pub fills_have_replies : RepliesWithin 3
    (Fill 5 7 nop ∷ SetCell 8 nop ∷ Run 0 ∷ Undo ∷ Fill 4 7 nop ∷ Fill 7 8 nop ∷ Fill 6 5 nop ∷ Fill 6 6 (numbers 0 8) ∷ Fill 6 6 nop ∷ [])
    (stands 0 3 3 ∷ Err Address ∷ Err Count ∷ stands 0 0 3 ∷ Err (JournalFull 3) ∷ Err Address ∷ Err Address ∷ Err FieldOutside ∷ stands 0 1 1 ∷ [])
unfolding the_machine
fills_have_replies = refl

-- The cell JMP.B $0, $0.
abbrev waiting : Cell
waiting = cell_of Jmp B Direct 0 Direct 0

-- Three warriors that execute JMP.B $0, $0, each with at most two processes.
abbrev three : State
three = battle_of (sizes 8 2 8 8) (eight (waiting ∷ empty_cell ∷ waiting ∷ empty_cell ∷ waiting ∷ [])) ((0 ∷ []) ∷ (2 ∷ []) ∷ (4 ∷ []) ∷ [])

-- The reply with these numbers: turns, cycle, next warrior, living warriors, present place and last place.
abbrev at : ℕ → ℕ → ℕ → ℕ → ℕ → ℕ → Result Standing Refusal
at turns cycle next alive position last = Ok (record { turns = turns; cycle = cycle; next = next; alive = alive; position = position; last = last })

-- `replies` are the replies to `calls` over the three warriors if all places are kept and the limit is 100.
abbrev HasReplies : List Call → List (Result Standing Refusal) → Type 0
HasReplies calls replies = (script never 100 calls [] (beginning three)).replies ≡ replies

-- Warriors are killed when their turn is next. The first of these edits is undone; after the two others, one warrior is
-- left and the battle is over. A battle that is over can be edited and the edit undone, but it has no turn.
pub warriors_are_killed : HasReplies
    (Step ∷ Kill 1 0 ∷ Undo ∷ Step ∷ Kill 2 0 ∷ Kill 0 0 ∷ Step ∷ SetCell 7 nop ∷ Undo ∷ Undo ∷ Step ∷ [])
    (at 1 0 1 3 1 1 ∷ at 1 0 2 2 2 2 ∷ at 1 0 1 3 1 2 ∷ at 2 0 2 3 2 2 ∷ at 2 1 0 2 3 3 ∷ at 2 1 1 1 4 4 ∷ Err Over ∷ at 2 1 1 1 5 5 ∷ at 2 1 1 1 4 5 ∷ at 2 1 0 2 3 5 ∷ at 3 1 1 2 4 4 ∷ [])
unfolding the_machine
warriors_are_killed = refl

-- The third warrior is dead, so a cycle has two turns. The present cycle and cycles before it are refused.
pub until_a_cycle : HasReplies
    (Kill 2 0 ∷ Until 1 ∷ Until 2 ∷ Until 2 ∷ Until 1 ∷ [])
    (at 0 0 0 2 1 1 ∷ at 2 1 0 2 3 3 ∷ at 4 2 0 2 5 5 ∷ Err (CyclePassed 2) ∷ Err (CyclePassed 2) ∷ [])
unfolding the_machine
until_a_cycle = refl

-- Processes are added, moved and killed. A warrior with a full queue and a dead warrior get no process.
pub processes_are_edited : HasReplies
    (Spawn 0 7 ∷ Spawn 0 6 ∷ MoveProcess 0 1 5 ∷ Kill 0 0 ∷ Kill 2 0 ∷ Spawn 2 0 ∷ Kill 2 0 ∷ [])
    (at 0 0 0 3 1 1 ∷ Err QueueFull ∷ at 0 0 0 3 2 2 ∷ at 0 0 0 3 3 3 ∷ at 0 0 0 2 4 4 ∷ Err WarriorDead ∷ Err NoSuchProcess ∷ [])
unfolding the_machine
processes_are_edited = refl

-- A command is refused for the number of places that it may need, though it would append only two. Only the places before the
-- present one count against the limit.
pub room_for_a_cycle : (script never 3 (Kill 2 0 ∷ Until 1 ∷ Undo ∷ Run 4 ∷ Run 3 ∷ []) [] (beginning three)).replies
    ≡ at 0 0 0 2 1 1 ∷ Err (JournalFull 2) ∷ at 0 0 0 3 0 1 ∷ Err (JournalFull 3) ∷ at 3 1 0 3 3 3 ∷ []
unfolding the_machine
room_for_a_cycle = refl

-- `Until` needs room only for the cycles from the present one on.
pub room_for_the_cycles_that_are_left : RepliesWithin 3 (Run 2 ∷ Until 3 ∷ []) (stands 2 2 2 ∷ stands 3 3 3 ∷ [])
unfolding the_machine
room_for_the_cycles_that_are_left = refl

-- A command has at most 1,000,000 turns or cells, also if the battle is over.
pub counts_are_limited : RepliesWithin 100
    (Run 1000001 ∷ Fill 0 1000000 nop ∷ Until 1000001 ∷ Run 10 ∷ Until 1000011 ∷ [])
    (Err Count ∷ Err Count ∷ Err Count ∷ stands 10 10 10 ∷ Err Count ∷ [])
unfolding the_machine
counts_are_limited = refl

-- The core after a fill.
pub cells_are_filled : (script never 100 (Fill 5 6 nop ∷ []) [] (beginning three)).history.present.state.core
    ≡ waiting ∷ empty_cell ∷ waiting ∷ empty_cell ∷ waiting ∷ nop ∷ nop ∷ empty_cell ∷ []
unfolding the_machine
cells_are_filled = refl
