-- How the specification represents the code's predefined names, lines, asserts and tokens.
use Rattle.std.specs.Prelude.{ℕ, List, [], ◌∷◌, Vec, codes}
use Rattle.redcode_text.specs.declared.names.predefined.PredefinedNames.{PredefinedNames}
use Rattle.redcode_text.specs.declared.program.Assert as assert
use Rattle.redcode_text.specs.declared.program.Line as line
use Rattle.redcode_text.specs.declared.token.Token.{Token}
use Rattle.redcode_text.specs.Lines.{Assert, Line, Predefined}
use Rattle.redcode_text.specs.Tokens.{Scanned}

-- The predefined names with their values in `n`, without CURLINE.
abbrev pub predefined_of : PredefinedNames → Predefined
predefined_of n =
    (codes "CORESIZE", n.core_size) ∷ (codes "MAXPROCESSES", n.max_processes) ∷ (codes "MAXCYCLES", n.max_cycles) ∷ (codes "MAXLENGTH", n.max_length)
    ∷ (codes "MINDISTANCE", n.min_distance) ∷ (codes "ROUNDS", n.rounds) ∷ (codes "WARRIORS", n.warriors) ∷ (codes "VERSION", n.version) ∷ []

abbrev pub line_of : line.Line → Line
line_of l = record { number = l.number; labels = l.labels.items; operation = l.operation; operation_span = l.operation_span; rest = l.rest.items }

abbrev pub assert_of : assert.Assert → Assert
assert_of a = record { number = a.number; current_line = a.current_line; tokens = a.tokens.items }

-- The tokens and the names that they refer to.
abbrev pub scan_of : {A : Type 0} → Vec Token A → List (List ℕ) → Scanned
scan_of tokens names = record { tokens = tokens.items; names = names }
