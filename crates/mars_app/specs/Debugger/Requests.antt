-- The request of a line.
use Rattle.std.specs.Prelude.{ℕ, ◌==◌, List, [], ◌∷◌, length, Option, Some, None, option_map, unwrap_or, if◌then◌else◌, codes}
use Rattle.std.specs.List.{find}
use Rattle.std.specs.Str.{bytes_eq}
use Rattle.mars_cell.specs.Grammar.{◌>>=◌, read_cell}
use Rattle.mars_session.specs.declared.calls.Call.TheVariants as call
use Rattle.mars_app.specs.Debugger.Words.{first_word, after_word, number_at}
use Rattle.mars_app.specs.declared.debugger.request.Command.{Command}
use Rattle.mars_app.specs.declared.debugger.request.Command.TheVariants as command
use Rattle.mars_app.specs.declared.debugger.request.Request.{Request}
use Rattle.mars_app.specs.declared.debugger.request.Request.TheVariants as request

-- The name of a command.
abbrev pub word_of : Command → List ℕ
word_of command.Step = codes "step"
word_of command.Run = codes "run"
word_of command.Until = codes "until"
word_of command.Edit = codes "edit"
word_of command.Fill = codes "fill"
word_of command.Move = codes "move"
word_of command.Kill = codes "kill"
word_of command.Spawn = codes "spawn"
word_of command.Undo = codes "undo"
word_of command.Redo = codes "redo"
word_of command.Goto = codes "goto"
word_of command.List = codes "list"
word_of command.Queue = codes "queue"
word_of command.Show = codes "show"
word_of command.Quit = codes "quit"

-- All commands.
abbrev pub commands : List Command
commands = command.Step ∷ command.Run ∷ command.Until ∷ command.Edit ∷ command.Fill ∷ command.Move ∷ command.Kill ∷ command.Spawn ∷ command.Undo ∷ command.Redo ∷ command.Goto ∷ command.List ∷ command.Queue ∷ command.Show ∷ command.Quit ∷ []

-- The command with the name `w`.
abbrev pub command_of : List ℕ → Option Command
command_of w = find (λ c. bytes_eq (word_of c) w) commands

-- `x` if no word is in `l`, None otherwise.
unfoldable pub alone : {X : Type 0} → X → List ℕ → Option X
alone x l = if length (first_word l) == 0 then Some x else None

-- One number that no word follows.
unfoldable pub one_number : List ℕ → Option ℕ
one_number l = do
  a ← number_at l
  alone a.0 a.1

-- Two numbers that no word follows.
unfoldable pub two_numbers : List ℕ → Option (ℕ × ℕ)
two_numbers l = do
  a ← number_at l
  b ← one_number a.1
  Some (a.0, b)

-- Three numbers that no word follows.
unfoldable pub three_numbers : List ℕ → Option (ℕ × ℕ × ℕ)
three_numbers l = do
  a ← number_at l
  b ← two_numbers a.1
  Some (a.0, b.0, b.1)

-- The request of a command with the arguments `l` that follow it on its line, if they are right.
unfoldable pub with_arguments : ℕ → Command → List ℕ → Option Request
with_arguments core_size command.Step l = alone (request.Call call.Step) l
with_arguments core_size command.Run l = option_map (λ n. request.Call (call.Run n)) (one_number l)
with_arguments core_size command.Until l = option_map (λ n. request.Call (call.Until n)) (one_number l)
with_arguments core_size command.Edit l = do
  address ← number_at l
  cell ← read_cell core_size address.1
  Some (request.Call (call.SetCell address.0 cell))
with_arguments core_size command.Fill l = do
  from ← number_at l
  to ← number_at from.1
  cell ← read_cell core_size to.1
  Some (request.Call (call.Fill from.0 to.0 cell))
with_arguments core_size command.Move l = option_map (λ (ns : ℕ × ℕ × ℕ). request.Call (call.MoveProcess ns.0 ns.1 ns.2)) (three_numbers l)
with_arguments core_size command.Kill l = option_map (λ (ns : ℕ × ℕ). request.Call (call.Kill ns.0 ns.1)) (two_numbers l)
with_arguments core_size command.Spawn l = option_map (λ (ns : ℕ × ℕ). request.Call (call.Spawn ns.0 ns.1)) (two_numbers l)
with_arguments core_size command.Undo l = alone (request.Call call.Undo) l
with_arguments core_size command.Redo l = alone (request.Call call.Redo) l
with_arguments core_size command.Goto l = option_map (λ n. request.Call (call.Goto n)) (one_number l)
with_arguments core_size command.List l = option_map (λ (ns : ℕ × ℕ). request.List ns.0 ns.1) (two_numbers l)
with_arguments core_size command.Queue l = option_map (λ n. request.Queue n) (one_number l)
with_arguments core_size command.Show l = alone request.Show l
with_arguments core_size command.Quit l = alone request.Quit l

-- The request of a line with a known command, if the arguments are right.
unfoldable pub command_request : ℕ → List ℕ → Option Request
command_request core_size l = do
  named ← command_of (first_word l)
  with_arguments core_size named (after_word l)

-- The request of a line in a core of size `core_size`. A line of only whitespace requests nothing.
unfoldable pub request_of : ℕ → List ℕ → Request
request_of core_size l =
    if length (first_word l) == 0 then request.Nothing else unwrap_or (command_request core_size l) request.Unknown
