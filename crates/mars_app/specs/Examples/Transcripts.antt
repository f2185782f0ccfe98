-- Examples of what the debugger writes for its lines, over a battle of one imp and a battle of three warriors that execute
-- JMP.B $0, $0.
use Rattle.std.specs.Prelude.{◌≡◌, ℕ, List, [], ◌∷◌, ◌++◌, false, codes, replicate, refl}
use Rattle.std.specs.Fmt.{digits}
use Rattle.mars_cell.specs.declared.instruction.Op.TheVariants.{Jmp}
use Rattle.mars_cell.specs.declared.instruction.Modifier.TheVariants.{B}
use Rattle.mars_cell.specs.declared.instruction.Mode.TheVariants.{Direct}
use Rattle.mars_cell.specs.declared.instruction.Cell.{Cell}
use Rattle.mars_cell.specs.Cells.{empty_cell}
use Rattle.mars_cell.specs.Grammar.{cell_of as cell_in, comma_at, default_modifier, mode_at, modifier_at, number_at, op_at, operand_at, suffix_at}
use Rattle.mars_cell.specs.Numbers.{nearest, parse_number, parse_digits, split_sign}
use Rattle.mars_cell.specs.Parts.{begins_word, joins, parts}
use Rattle.mars_cell.specs.Words.{mode_of, modifier_of, op_of}
use Rattle.mars_core.specs.State.{State}
use Rattle.mars_core.specs.Examples.{the_machine, battle_of, cell_of, eight, of_eight}
use Rattle.mars_session.specs.Script.{SessionState}
use Rattle.mars_session.specs.Examples.{imp}
use Rattle.mars_app.specs.Debugging.{session_at}
use Rattle.mars_app.specs.Debugger.Lines.{line_request}
use Rattle.mars_app.specs.Debugger.Readings.{line_at, list_text, queue_text, show_text, texts, warrior_text}
use Rattle.mars_app.specs.Debugger.Replies.{refusal_text}
use Rattle.mars_app.specs.Debugger.Requests.{alone, command_request, one_number, request_of, three_numbers, two_numbers, with_arguments}
use Rattle.mars_app.specs.Debugger.Transcript.{answer, until_quit}
use Rattle.mars_app.specs.Debugger.Words.{after_word, first_word, number_at as number_in}

-- What is written for the lines, one after another, if no allocation fails.
abbrev answers : SessionState → List (List ℕ) → List ℕ
answers s [] = []
answers s (l ∷ ls) = let after = answer false s (line_request 8 l) in after.1 ++ answers after.0 ls

-- `text` is the transcript of the lines over a session that keeps `most` places beside the last one.
abbrev IsTranscript : ℕ → State → List (List ℕ) → List ℕ → Type 0
IsTranscript most state lines text = answers (session_at most state) lines ≡ text

pub a_step_and_back : IsTranscript 100 imp
    (codes "step" ∷ codes "queue 0" ∷ codes "undo" ∷ codes "queue 0" ∷ codes "show" ∷ [])
    (codes "turn 1 cycle 1 next 0 alive 1 at 1/1\n"
    ++ codes "queue 0: 1\n"
    ++ codes "turn 0 cycle 0 next 0 alive 1 at 0/1\n"
    ++ codes "queue 0: 0\n"
    ++ codes "turn 0 cycle 0 next 0 alive 1 at 0/1\n"
    ++ codes "warrior 0 processes 1\n"
    ++ codes "battle running\n")
unfolding the_machine answer request_of command_request with_arguments alone one_number first_word after_word number_in parse_digits queue_text show_text texts warrior_text digits
a_step_and_back = refl

-- An edit in the middle of a run drops the places that follow.
pub an_edit_in_the_middle : IsTranscript 100 imp
    (codes "run 4" ∷ codes "goto 2" ∷ codes "edit 7 NOP.F $0, $0" ∷ codes "undo" ∷ codes "list 7 1" ∷ codes "redo" ∷ [])
    (codes "turn 4 cycle 4 next 0 alive 1 at 4/4\n"
    ++ codes "turn 2 cycle 2 next 0 alive 1 at 2/4\n"
    ++ codes "turn 2 cycle 2 next 0 alive 1 at 3/3\n"
    ++ codes "turn 2 cycle 2 next 0 alive 1 at 2/3\n"
    ++ codes "7 DAT.F $0, $0\n"
    ++ codes "turn 2 cycle 2 next 0 alive 1 at 3/3\n")
unfolding the_machine answer request_of command_request with_arguments alone one_number two_numbers first_word after_word number_in parse_digits parts joins begins_word cell_in op_at suffix_at modifier_at mode_at number_at operand_at comma_at op_of modifier_of mode_of parse_number split_sign nearest default_modifier list_text texts line_at digits
an_edit_in_the_middle = refl

pub refusals : IsTranscript 100 imp
    (codes "until 3" ∷ codes "until 3" ∷ codes "goto 9" ∷ codes "run 0" ∷ codes "redo" ∷ [])
    (codes "turn 3 cycle 3 next 0 alive 1 at 3/3\n"
    ++ codes "refused 9 CyclePassed 3\n"
    ++ codes "refused 12 NotInHistory 0 3\n"
    ++ codes "refused 1 Count\n"
    ++ codes "refused 11 NothingToRedo\n")
unfolding the_machine answer request_of command_request with_arguments alone one_number first_word after_word number_in parse_digits refusal_text digits
refusals = refl

-- An empty line has no reply, and a line of 257 bytes is unknown.
pub lines_without_a_command : IsTranscript 100 imp
    (codes "undo" ∷ replicate 257 32 ∷ [] ∷ codes "step" ∷ [])
    (codes "refused 10 NothingToUndo\n" ++ codes "unknown\n" ++ codes "turn 1 cycle 1 next 0 alive 1 at 1/1\n")
unfolding the_machine answer request_of command_request with_arguments alone first_word after_word refusal_text digits
lines_without_a_command = refl

-- If two places are kept beside the last one, a run of two turns evicts no place, and a run of three turns evicts one.
pub two_places_are_kept : IsTranscript 2 imp
    (codes "run 2" ∷ codes "undo" ∷ codes "run 3" ∷ codes "undo" ∷ [])
    (codes "turn 2 cycle 2 next 0 alive 1 at 2/2\n"
    ++ codes "turn 0 cycle 0 next 0 alive 1 at 0/2\n"
    ++ codes "turn 3 cycle 3 next 0 alive 1 at 2/2\n"
    ++ codes "refused 15 Forgotten\n")
unfolding the_machine answer request_of command_request with_arguments alone one_number first_word after_word number_in parse_digits refusal_text digits
two_places_are_kept = refl

-- The cell JMP.B $0, $0.
abbrev waiting : Cell
waiting = cell_of Jmp B Direct 0 Direct 0

-- Three warriors that execute JMP.B $0, $0.
abbrev three : State
three = battle_of of_eight (eight (waiting ∷ empty_cell ∷ waiting ∷ empty_cell ∷ waiting ∷ [])) ((0 ∷ []) ∷ (2 ∷ []) ∷ (4 ∷ []) ∷ [])

pub warriors_are_edited : IsTranscript 100 three
    (codes "kill 1 0" ∷ codes "move 0 0 5" ∷ codes "spawn 2 7" ∷ codes "queue 0" ∷ codes "queue 2" ∷ codes "kill 0 0" ∷ codes "step" ∷ codes "show" ∷ [])
    (codes "turn 0 cycle 0 next 0 alive 2 at 1/1\n"
    ++ codes "turn 0 cycle 0 next 0 alive 2 at 2/2\n"
    ++ codes "turn 0 cycle 0 next 0 alive 2 at 3/3\n"
    ++ codes "queue 0: 5\n"
    ++ codes "queue 2: 4 7\n"
    ++ codes "turn 0 cycle 0 next 2 alive 1 at 4/4\n"
    ++ codes "refused 8 Over\n"
    ++ codes "turn 0 cycle 0 next 2 alive 1 at 4/4\n"
    ++ codes "warrior 0 dead 0\n"
    ++ codes "warrior 1 dead 0\n"
    ++ codes "warrior 2 processes 2\n"
    ++ codes "battle over\n")
unfolding the_machine answer request_of command_request with_arguments alone one_number two_numbers three_numbers first_word after_word number_in parse_digits queue_text show_text texts warrior_text refusal_text digits
warriors_are_edited = refl

-- Neither `quit` nor any line after it is executed.
pub lines_up_to_quit : until_quit 8 (codes "step" ∷ codes "quit 1" ∷ codes " quit" ∷ codes "undo" ∷ []) ≡ codes "step" ∷ codes "quit 1" ∷ []
unfolding until_quit request_of command_request with_arguments alone first_word after_word
lines_up_to_quit = refl
