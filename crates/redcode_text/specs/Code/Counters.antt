-- The open loops as the code represents them: a counter is an index into the names.
use Rattle.std.specs.Prelude.{ℕ, ◌<◌, List, [], ◌∷◌, length, map, reverse, Option, None, option_map}
use Rattle.std.specs.List.{All}
use Rattle.std.specs.Option.{ForSome}
use Rattle.redcode_text.specs.declared.lexer.open_loops.OpenLoop as code
use Rattle.redcode_text.specs.Lines.{name_at}
use Rattle.redcode_text.specs.Tokens.{OpenLoop}

-- The open loop that `l` represents. Its counter is one of `names`.
abbrev pub open_loop : List (List ℕ) → code.OpenLoop → OpenLoop
open_loop names l = record { counter = option_map (name_at names) l.counter; round = l.round }

-- The open loops, innermost first. The code stores the innermost loop last.
abbrev pub open_loops : List (List ℕ) → List code.OpenLoop → List OpenLoop
open_loops names loops = map (open_loop names) (reverse loops)

-- The counter, if there is one, is the index of one of `names`.
abbrev pub IsThere : List (List ℕ) → Option ℕ → Type 0
IsThere names counter = ForSome counter (λ n. n < length names)

-- The counter of each loop, if it has one, is the index of one of `names`.
abbrev pub AreThere : List (List ℕ) → List code.OpenLoop → Type 0
AreThere names loops = All (λ l. IsThere names l.counter) loops

-- The counter of the innermost loop, if there is a loop and it has a counter.
abbrev pub innermost_counter : List OpenLoop → Option (List ℕ)
innermost_counter [] = None
innermost_counter (l ∷ ls) = l.counter
