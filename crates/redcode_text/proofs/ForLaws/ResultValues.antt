-- Properties of a result's value, also after two steps and after the header of a loop.
use Rattle.std.proofs.Common.{◌+◌, ◌-◌, ℕ, false, List, length, drop, Option, Result, Ok, Err}
use Rattle.std.specs.Prelude.{⊤}
use Rattle.redcode_text.specs.Results.{◌>>=◌}
use Rattle.redcode_text.specs.declared.fault.TextTokenProblem.{TextTokenProblem}
use Rattle.redcode_text.specs.Equates.{limit}
use Rattle.redcode_text.specs.Expansion.{Head, count_of, counter_name, for_word_at, head_line, room_for_loop}
use Rattle.redcode_text.specs.Lines.{Predefined, Reading, WithTokens, before_comment, line_read, name_in_front, row_tokens, tokens_after, tokens_before}
use Rattle.redcode_text.specs.declared.token.Span.{Span}
use Rattle.redcode_text.specs.Source.{SourceRow, loop_word}
use Rattle.redcode_text.specs.Tokens.{tokens}

-- The property `P` holds of a result's value, if there is a value.
abbrev pub HoldsOfValue : {A E : Type 0} → (A → Type 0) → Result A E → Type 0
HoldsOfValue P (Ok a) = P a
HoldsOfValue P (Err e) = ⊤

pub value-then : {A B E : Type 0} (P : A → Type 0) (Q : B → Type 0) (r : Result A E) (f : A → Result B E) → HoldsOfValue P r
    → ((a : A) → P a → HoldsOfValue Q (f a)) → HoldsOfValue Q (r >>= f)
value-then P Q (Ok a) f h k = k a h
value-then P Q (Err e) f h k = tt

pub no-matter : {A E : Type 0} (r : Result A E) → HoldsOfValue (λ (a : A). ⊤) r
no-matter (Ok a) = tt
no-matter (Err e) = tt

-- The header of a loop, after its tokens were read. The word FOR has the given bytes, and the given offset in the
-- source.
abbrev pub headed : Predefined → Option Span → ℕ → WithTokens → Result Head TextTokenProblem
headed ps word at r =
    name_in_front (tokens_before at r.0) >>= λ counter.
    room_for_loop word r.1 >>= λ _.
    count_of ps r.1 word (tokens_after at r.0) >>= λ count.
    Ok (record { counter = counter_name r.1 counter; count = count; reading = record (r.1) { equate_grows = false } })

-- A property that doesn't depend on names, counted tokens and EQU lines still holds after the header of a loop was read.
pub head-holds : (ps : Predefined) (row : SourceRow) (st : Reading) (P : Reading → Type 0) → ((a : Reading) (names : List (List ℕ)) (n : ℕ) → P a → P (record a { names = names; tokens_read = n }))
    → ((a : Reading) → P a → P (record a { equate_grows = false })) → HoldsOfValue P (line_read st) → HoldsOfValue (λ (h : Head). P h.reading) (head_line ps row st)
head-holds ps row st P more grows read =
    let Q : WithTokens → Type 0 = λ x. P x.1 in
    let R : Head → Type 0 = λ h. P h.reading in
    value-then Q R (line_read st >>= row_tokens row 0) (headed ps (loop_word row) (for_word_at row))
    (value-then P Q (line_read st) (row_tokens row 0) read
    (λ a p. value-then (λ _. ⊤) Q (tokens a.loops row.number (row.at + 0) (limit - a.tokens_read) a.names (before_comment (drop 0 row.bytes))) _ (no-matter _) (λ s _. more a s.names (a.tokens_read + length s.tokens) p)))
    (λ x p. value-then (λ _. ⊤) R (name_in_front (tokens_before (for_word_at row) x.0)) _ (no-matter _)
    (λ counter _. value-then (λ _. ⊤) R (room_for_loop (loop_word row) x.1) _ (no-matter _)
    (λ _ _. value-then (λ _. ⊤) R (count_of ps x.1 (loop_word row) (tokens_after (for_word_at row) x.0)) _ (no-matter _) (λ count _. grows x.1 p))))
