-- Examples of what lines request.
use Rattle.std.specs.Prelude.{◌≡◌, [], codes, replicate, refl}
use Rattle.mars_cell.specs.declared.instruction.Op.TheVariants as op
use Rattle.mars_cell.specs.declared.instruction.Modifier.TheVariants as modifier
use Rattle.mars_cell.specs.declared.instruction.Mode.TheVariants.{Direct, Immediate}
use Rattle.mars_cell.specs.Grammar.{cell_of, comma_at, default_modifier, mode_at, modifier_at, number_at, op_at, operand_at, suffix_at}
use Rattle.mars_cell.specs.Numbers.{nearest, parse_number, parse_digits, split_sign}
use Rattle.mars_cell.specs.Parts.{begins_word, joins, parts}
use Rattle.mars_cell.specs.Words.{mode_of, modifier_of, op_of}
use Rattle.mars_session.specs.declared.calls.Call.TheVariants as call
use Rattle.mars_app.specs.Debugger.Words.{first_word, after_word, number_at as number_in}
use Rattle.mars_app.specs.Debugger.Requests.{alone, command_request, command_of, one_number, request_of, three_numbers, two_numbers, with_arguments}
use Rattle.mars_app.specs.Debugger.Lines.{line_request}
use Rattle.mars_app.specs.declared.debugger.request.Request.TheVariants as request

-- Commands with their numbers. Whitespace may precede, separate and follow the words.
pub commands_are_known :
    (line_request 8 (codes "step") ≡ request.Call call.Step)
    × (line_request 8 (codes "run 5") ≡ request.Call (call.Run 5))
    × (line_request 8 (codes " \tuntil  080000\r") ≡ request.Call (call.Until 80000))
    × (line_request 8 (codes "move 0 1 7") ≡ request.Call (call.MoveProcess 0 1 7))
    × (line_request 8 (codes "kill 2 0") ≡ request.Call (call.Kill 2 0))
    × (line_request 8 (codes "spawn 0 9") ≡ request.Call (call.Spawn 0 9))
    × (line_request 8 (codes "undo") ≡ request.Call call.Undo)
    × (line_request 8 (codes "redo") ≡ request.Call call.Redo)
    × (line_request 8 (codes "goto 999999999999999999") ≡ request.Call (call.Goto 999999999999999999))
    × (line_request 8 (codes "list 7 1") ≡ request.List 7 1)
    × (line_request 8 (codes "queue 0") ≡ request.Queue 0)
    × (line_request 8 (codes "show") ≡ request.Show)
    × (line_request 8 (codes "quit ") ≡ request.Quit)
unfolding request_of command_request command_of with_arguments alone one_number two_numbers three_numbers first_word after_word number_in parse_digits
commands_are_known = (refl, refl, refl, refl, refl, refl, refl, refl, refl, refl, refl, refl, refl)

-- A cell is written as in a load file, and its numbers count modulo the core size.
pub cells_are_read :
    (line_request 8 (codes "edit 7 NOP.F $0, $0") ≡ request.Call (call.SetCell 7 record { op = op.Nop; modifier = modifier.F; a_mode = Direct; a = 0; b_mode = Direct; b = 0 }))
    × (line_request 8 (codes "fill 10 2 add #-1, 9") ≡ request.Call (call.Fill 10 2 record { op = op.Add; modifier = modifier.Ab; a_mode = Immediate; a = 7; b_mode = Direct; b = 1 }))
unfolding request_of command_request with_arguments first_word after_word number_in parse_digits parts joins begins_word cell_of op_at suffix_at modifier_at mode_at number_at operand_at comma_at op_of modifier_of mode_of parse_number split_sign nearest default_modifier
cells_are_read = (refl, refl)

-- A line of only whitespace requests nothing. A line is unknown if a word is missing, added or misspelt, if a number has a sign or
-- 19 digits, if a cell is incomplete, or if the line has more than 256 bytes.
pub lines_that_are_no_commands :
    (line_request 8 [] ≡ request.Nothing)
    × (line_request 8 (codes " \t\r") ≡ request.Nothing)
    × (line_request 8 (replicate 256 32) ≡ request.Nothing)
    × (line_request 8 (replicate 257 32) ≡ request.Unknown)
    × (line_request 8 (codes "run") ≡ request.Unknown)
    × (line_request 8 (codes "run 1 2") ≡ request.Unknown)
    × (line_request 8 (codes "step 1") ≡ request.Unknown)
    × (line_request 8 (codes "Step") ≡ request.Unknown)
    × (line_request 8 (codes "run +1") ≡ request.Unknown)
    × (line_request 8 (codes "goto 1000000000000000000") ≡ request.Unknown)
    × (line_request 8 (codes "edit 7 NOP.F $0,") ≡ request.Unknown)
unfolding request_of command_request with_arguments alone one_number first_word after_word number_in parse_digits parts joins begins_word cell_of op_at suffix_at modifier_at mode_at number_at operand_at comma_at op_of modifier_of mode_of parse_number split_sign nearest default_modifier
lines_that_are_no_commands = (refl, refl, refl, refl, refl, refl, refl, refl, refl, refl, refl)
