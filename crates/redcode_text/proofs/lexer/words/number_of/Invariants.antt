use Rattle.std.proofs.Common.{◌≡◌, drop}
use Rattle.std.specs.Str.Parse.{digits_value_after, digits_value}
use Rattle.redcode_text.proofs.lexer.words.number_of.Given as goal

abbrev pub invariant-loop-digit : goal.invariant-loop-digit
invariant-loop-digit l = digits_value_after 10 l.number (drop l.digit-index l.digits) ≡ digits_value 10 l.digits
