use Rattle.std.proofs.Common.{◌≤◌, ◌^◌, ◌+◌, ◌*◌, ◌-◌, drop, get_or, arith}
use Rattle.std.specs.Str.Parse.{digits_value}
use Rattle.redcode_text.proofs.Digits.{value-drop, value-grows}
use Rattle.redcode_text.proofs.lexer.words.number_of.Goals as goal

pub returns-in_err-checked_mul : goal.returns-in_err-checked_mul
returns-in_err-checked_mul c =
    let n = c.loop-digit.number in let ds = c.args.digits.now in let i = c.loop-digit.digit-index in
    let large : 2 ^ 64 ≤ digits_value 10 ds = omega (arith, c.in_err-checked_mul.ensures, value-drop n ds i c.requires (omega arith), c.loop-digit.invariant, value-grows (n * 10 + (get_or ds i 0 - 48)) (drop (i + 1) ds)) in
    rw c.from_residual.ensures large

pub returns-in_err-number : goal.returns-in_err-number
returns-in_err-number c =
    let n = c.loop-digit.number in let ds = c.args.digits.now in let i = c.loop-digit.digit-index in
    let large : 2 ^ 64 ≤ digits_value 10 ds = omega (arith, c.in_err-number.ensures, c.in_ok-checked_mul.ensures, c.from.ensures, value-drop n ds i c.requires (omega arith), c.loop-digit.invariant, value-grows (n * 10 + (get_or ds i 0 - 48)) (drop (i + 1) ds)) in
    rw c.from_residual-in_err-number.ensures large
