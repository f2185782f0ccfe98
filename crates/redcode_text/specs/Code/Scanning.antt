-- How the code scans a text, one token at a time.
use Rattle.std.specs.Prelude.{ℕ, List, [], Result, Ok, Err}
use Rattle.redcode_text.specs.Results.{◌>>=◌}
use Rattle.redcode_text.specs.declared.fault.TextProblem.{TextProblem}
use Rattle.redcode_text.specs.declared.fault.TextTokenProblem.{TextTokenProblem}
use Rattle.redcode_text.specs.declared.token.Spelled.{Spelled}
use Rattle.redcode_text.specs.Tokens.{Found, OpenLoop, Scanned, at_token, span_at, token_at, unread_len, with_room}

-- The token that the code found at the start of a text, and the names after it.
abbrev pub with_names : List (List ℕ) → Spelled → Found
with_names names s = record { kind = s.kind; len = s.len; names = names }

-- The code's result for an operator or punctuation, which adds no name.
abbrev pub found_without_names : Result Spelled TextProblem → Result Found TextProblem
found_without_names (Ok s) = Ok (with_names [] s)
found_without_names (Err e) = Err e

-- The number of bytes of the token at the start of `bs`, and everything scanned including it. `bs` starts at `at` in
-- the source, and `s` was scanned before.
abbrev pub one_token : List OpenLoop → ℕ → ℕ → ℕ → List ℕ → Scanned → Result (ℕ × Scanned) TextTokenProblem
one_token loops line room at bs s = at_token (span_at at (unread_len bs)) (token_at loops s.names bs) >>= λ f. with_room room s line at f >>= λ t. Ok (f.len, t)
