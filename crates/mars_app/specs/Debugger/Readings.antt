-- The replies to commands that change nothing.
use Rattle.std.specs.Prelude.{ℕ, zero, suc, ◌+◌, ◌%◌, ◌==◌, ◌||◌, nat_lt, nat_le, List, [], ◌++◌, length, Option, None, Some, if◌then◌else◌, codes, decimal}
use Rattle.std.specs.List.{find, flat_map}
use Rattle.mars_cell.specs.declared.instruction.Cell.{Cell}
use Rattle.mars_cell.specs.Text.{cell_text}
use Rattle.mars_core.specs.State.{State, cell_at, queue_of, is_over_of}
use Rattle.mars_core.specs.declared.deaths.Death.{Death}
use Rattle.mars_session.specs.declared.calls.Standing.{Standing}
use Rattle.mars_session.specs.declared.calls.Refusal.TheVariants.{Count, Address, NoSuchWarrior}
use Rattle.mars_app.specs.Debugger.Replies.{standing_text, refusal_text}

-- The texts `f 0` to `f (n - 1)`, one after another.
unfoldable pub texts : (ℕ → List ℕ) → ℕ → List ℕ
texts f zero = []
texts f (suc n) = texts f n ++ f n

-- ---- The command list

-- The line of a cell, such as `7 DAT.F $0, $0`.
abbrev pub cell_line : ℕ → ℕ → Cell → List ℕ
cell_line core_size address cell = decimal address ++ codes " " ++ cell_text core_size cell ++ codes "\n"

-- The line of the cell `i` cells after `address`, modulo the core size.
unfoldable pub line_at : State → ℕ → ℕ → List ℕ
line_at s address i =
    let there = (address + i) % s.params.core_size in cell_line s.params.core_size there (cell_at s.core there)

-- The maximum number of cells of one list.
abbrev pub max_listed : ℕ
max_listed = 1000000

-- The reply to `list`: the lines of `n` cells from `address` on, or a refusal; `n` is checked first.
unfoldable pub list_text : State → ℕ → ℕ → List ℕ
list_text s address n =
    if n == 0 || nat_lt max_listed n then refusal_text Count
    else if nat_le s.params.core_size address then refusal_text Address
    else texts (line_at s address) n

-- ---- The command queue

-- The beginning of the line of a queue.
abbrev pub queue_head : ℕ → List ℕ
queue_head warrior = codes "queue " ++ decimal warrior ++ codes ":"

-- A space and the address of a process.
abbrev pub process_text : ℕ → List ℕ
process_text address = codes " " ++ decimal address

-- The reply to `queue`: the addresses of a warrior's processes, the front first, or a refusal.
unfoldable pub queue_text : State → ℕ → List ℕ
queue_text s warrior =
    if nat_le (length s.queues) warrior then refusal_text NoSuchWarrior
    else queue_head warrior ++ (flat_map process_text (queue_of s.queues warrior) ++ codes "\n")

-- ---- The command show

-- The number of processes in a warrior's `queue`, or the turn of its death.
abbrev pub life_text : List ℕ → Option Death → List ℕ
life_text queue None = codes " processes " ++ decimal (length queue)
life_text queue (Some death) = codes " dead " ++ decimal death.turns

-- The death of the warrior with the number `warrior`, if it died.
abbrev pub death_of : List Death → ℕ → Option Death
death_of deaths warrior = find (λ (death : Death). death.warrior == warrior) deaths

-- The line of a warrior, such as `warrior 0 processes 1` or `warrior 1 dead 12`.
unfoldable pub warrior_text : State → ℕ → List ℕ
warrior_text s warrior =
    codes "warrior " ++ decimal warrior ++ life_text (queue_of s.queues warrior) (death_of s.deaths warrior) ++ codes "\n"

-- The line that says whether the battle is over.
abbrev pub end_text : State → List ℕ
end_text s = if is_over_of s then codes "battle over\n" else codes "battle running\n"

-- The reply to `show`: the standing, each warrior, and whether the battle is over.
unfoldable pub show_text : Standing → State → List ℕ
show_text standing s = standing_text standing ++ (texts (warrior_text s) (length s.queues) ++ end_text s)
