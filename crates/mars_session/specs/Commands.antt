-- The states that a command reaches from a state, one after another, or the reason for which the command is refused.
use Rattle.std.specs.Prelude.{ℕ, zero, suc, Bool, ◌+◌, ◌-◌, ◌*◌, ◌==◌, ◌||◌, nat_lt, nat_le, List, [], ◌∷◌, length, Option, Some, None, Result, Ok, Err, if◌then◌else◌}
use Rattle.mars_cell.specs.declared.instruction.Cell.{Cell}
use Rattle.mars_core.specs.State.{State, is_over_of}
use Rattle.mars_core.specs.Turn.{turn_of}
use Rattle.mars_core.specs.Edit.{edit_fault, edited}
use Rattle.mars_core.specs.declared.battle.edit.Edit.{Edit}
use Rattle.mars_core.specs.declared.battle.edit.Edit.TheVariants as edits
use Rattle.mars_core.specs.declared.battle.edit.EditFault.{EditFault}
use Rattle.mars_core.specs.declared.battle.edit.EditFault.TheVariants as faults
use Rattle.mars_session.specs.declared.calls.Refusal.{Refusal}
use Rattle.mars_session.specs.declared.calls.Refusal.TheVariants.{Count, Address, FieldOutside, NoSuchWarrior, NoSuchProcess, WarriorDead, QueueFull, Over, CyclePassed}

-- The maximum number of turns or cells of one command.
abbrev pub command_limit : ℕ
command_limit = 1000000

-- The states that an accepted command reaches, at least one: the first, and then the others in order.
abbrev pub States : Type 0
States = State × List State

-- The states after at most `n` turns from `s` on, up to the first state that is `done`; none if `s` is `done`.
abbrev pub turns_until : (State → Bool) → ℕ → State → List State
turns_until done zero s = []
turns_until done (suc n) s = if done s then [] else (turn_of s ∷ turns_until done n (turn_of s))

-- The battle `s` is over, or is in cycle `c`.
abbrev pub in_cycle : ℕ → State → Bool
in_cycle c s = is_over_of s || s.cycle == c

-- Whether the turns of a command stop at `s`: if the battle is over, or, for `Some c`, also if it is in cycle `c`.
abbrev pub stops_at : Option ℕ → State → Bool
stops_at None s = is_over_of s
stops_at (Some c) s = in_cycle c s

-- The state that `step` reaches from `s`, after one turn, or `Over` if the battle is over.
abbrev pub step_states : State → Result States Refusal
step_states s = if is_over_of s then Err Over else Ok (turn_of s, [])

-- The states that `run n` reaches from `s`: `n` turns, or fewer if the battle ends before. `n` is checked first.
abbrev pub run_states : ℕ → State → Result States Refusal
run_states n s =
    if n == 0 || nat_lt command_limit n then Err Count
    else if is_over_of s then Err Over
    else Ok (turn_of s, turns_until (stops_at None) (n - 1) (turn_of s))

-- The maximum number of turns from `s` up to cycle `c`: one for each warrior, dead or alive, in each cycle.
abbrev pub until_bound : ℕ → State → ℕ
until_bound c s = (c - s.cycle) * length s.queues

-- The states that `until c` reaches from `s`: the turns up to cycle `c`, or up to the end of the battle if it comes
-- before. The bound is checked first, then whether the battle is over, and then whether `c` is after the present cycle.
abbrev pub until_states : ℕ → State → Result States Refusal
until_states c s =
    if nat_lt command_limit (until_bound c s) then Err Count
    else if is_over_of s then Err Over
    else if nat_le c s.cycle then Err (CyclePassed s.cycle)
    else Ok (turn_of s, turns_until (stops_at (Some c)) (until_bound c s - 1) (turn_of s))

-- The refusal for an error of an edit.
abbrev pub refusal_of : EditFault → Refusal
refusal_of faults.Address = Address
refusal_of faults.FieldOutside = FieldOutside
refusal_of faults.NoSuchWarrior = NoSuchWarrior
refusal_of faults.NoSuchProcess = NoSuchProcess
refusal_of faults.WarriorDead = WarriorDead
refusal_of faults.QueueFull = QueueFull

-- `states`, or the refusal if the edit has an error.
abbrev pub unless_fault : Option EditFault → States → Result States Refusal
unless_fault None states = Ok states
unless_fault (Some fault) states = Err (refusal_of fault)

-- The state after the edit `e` of the state `s`, or the refusal if the edit has an error.
abbrev pub edit_states : Edit → State → Result States Refusal
edit_states e s = unless_fault (edit_fault s e) (edited s e, [])

-- The states after each of `n` cells of `s` from `address` on is set to `cell`, in order.
abbrev pub fills : ℕ → ℕ → Cell → State → List State
fills zero address cell s = []
fills (suc n) address cell s =
    let next = edited s (edits.SetCell address cell) in next ∷ fills n (address + 1) cell next

-- The number of cells from the address `from` to the address `to`, both included; 0 if `to` is less than `from`.
abbrev pub cells_between : ℕ → ℕ → ℕ
cells_between from to = (to + 1) - from

-- The states that `fill` reaches from `s`: the cells from `from` to `to`, both included, are set to `cell` one after
-- another. If the last of these cells can be set, so can the others; so only the last one is checked.
abbrev pub fill_states : ℕ → ℕ → Cell → State → Result States Refusal
fill_states from to cell s =
    let first = edited s (edits.SetCell from cell) in
    if nat_lt command_limit (cells_between from to) then Err Count
    else if nat_lt to from then Err Address
    else unless_fault (edit_fault s (edits.SetCell to cell)) (first, fills (to - from) (from + 1) cell first)
