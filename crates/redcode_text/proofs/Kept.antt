-- Reading lines leaves the open loops unchanged. Contracts only specify results, so `Kept f x` states in terms of the
-- definition that a step leaves a part of the reading unchanged.
use Rattle.std.proofs.Common.{◌≡◌, ◌∙◌, ℕ, zero, suc, ◌+◌, ◌-◌, List, [], ◌∷◌, ◌++◌, length, drop, Bool, true, false, Option, Some, None, Result, Ok, Err, refl, nat_le, nat_lt}
use Rattle.redcode_text.specs.Results.{◌>>=◌}
use Rattle.redcode_text.specs.declared.fault.TextTokenProblem.{TextTokenProblem}
use Rattle.redcode_text.specs.declared.fault.TextProblem.TheVariants.{BadToken, Duplicate, TooLong}
use Rattle.redcode_text.specs.declared.token.Token.{Token}
use Rattle.redcode_text.specs.Expansion.{rof_line}
use Rattle.redcode_text.specs.declared.token.Span.{Span}
use Rattle.redcode_text.specs.Spans.{first_span}
use Rattle.redcode_text.specs.Lines.{Reading, Step, Parts, Predefined, WithTokens, each_line, equated, line_read, name_in_front, ordinary_line, ordinary_with, parts_of, parts_read, plain_line, comment_line, assert_line, row_tokens, tokens_before, tokens_after, tokens_counted, tokens_line, unless_ended, prepend_to_first, append_to_last, before_comment, operation_lines, unless_empty, directive_value, is_equate, is_label, is_predefined, with_line}
use Rattle.redcode_text.specs.Equates.{limit}
use Rattle.redcode_text.specs.Source.{SourceRow, LineKind, RofLine, ForLine, EquLine, OtherLine, line_kind, is_comment, directive_text, directive_text_at, has_directive_word}
use Rattle.redcode_text.specs.Tokens.{OpenLoop, Scanned, problem_at, tokens}
use Rattle.std.specs.Prelude.{⊤, codes, ◌||◌}

-- The part `f` of everything read is still `x`.
abbrev pub Kept : {X : Type 0} → (Reading → X) → X → Result Reading TextTokenProblem → Type 0
Kept f x (Ok a) = f a ≡ x
Kept f x (Err e) = ⊤

kept-at : {X : Type 0} (f : Reading → X) (x y : X) (r : Result Reading TextTokenProblem) → y ≡ x → Kept f y r → Kept f x r
kept-at f x y (Ok a) e k = k ∙ e
kept-at f x y (Err p) e k = tt

kept-then : {X : Type 0} (f : Reading → X) (x : X) (r : Result Reading TextTokenProblem) (g : Step) → Kept f x r → ((a : Reading) → Kept f (f a) (g a)) → Kept f x (r >>= g)
kept-then f x (Ok a) g k h = kept-at f x (f a) (g a) k (h a)
kept-then f x (Err e) g k h = tt

kept-bind : {A X : Type 0} (f : Reading → X) (x : X) (r : Result A TextTokenProblem) (g : A → Result Reading TextTokenProblem) → ((a : A) → Kept f x (g a)) → Kept f x (r >>= g)
kept-bind f x (Ok a) g h = h a
kept-bind f x (Err e) g h = tt

-- Reading the tokens of a row keeps a part that doesn't depend on names and counted tokens.
kept-row : {X : Type 0} (f : Reading → X) (st : Reading) (row : SourceRow) (at : ℕ) (g : WithTokens → Result Reading TextTokenProblem)
    → ((names : List (List ℕ)) (n : ℕ) → f (record st { names = names; tokens_read = n }) ≡ f st) → ((r : WithTokens) → Kept f (f r.1) (g r))
    → Kept f (f st) (row_tokens row at st >>= g)
kept-row f st row at g same h = go (tokens st.loops row.number (row.at + at) (limit - st.tokens_read) st.names (before_comment (drop at row.bytes)))
  where
    go : (r : Result Scanned TextTokenProblem) → Kept f (f st) ((r >>= λ s. Ok (s.tokens, record st { names = s.names; tokens_read = st.tokens_read + length s.tokens })) >>= g)
    go (Ok s) = kept-at f (f st) _ (g (s.tokens, record st { names = s.names; tokens_read = st.tokens_read + length s.tokens })) (same s.names (st.tokens_read + length s.tokens)) (h (s.tokens, record st { names = s.names; tokens_read = st.tokens_read + length s.tokens }))
    go (Err e) = tt

pub line-kept : {X : Type 0} (f : Reading → X) (st : Reading) → (f (record st { lines_read = st.lines_read + 1 }) ≡ f st) → Kept f (f st) (line_read st)
line-kept f st same = go (nat_le limit st.lines_read)
  where
    go : (c : Bool) → Kept f (f st) (elim c as (λ _. Result Reading TextTokenProblem) [ true ↦ Err (problem_at None TooLong) | false ↦ Ok (record st { lines_read = st.lines_read + 1 }) ])
    go true = tt
    go false = same

abbrev pub loops_of : Reading → List OpenLoop
loops_of st = st.loops

counted-kept : (ts : List Token) (st : Reading) → Kept loops_of st.loops (tokens_counted ts st)
counted-kept ts st = go (nat_lt limit (st.tokens_read + length ts))
  where
    go : (c : Bool) → Kept loops_of st.loops (elim c as (λ _. Result Reading TextTokenProblem) [ true ↦ Err (problem_at None TooLong) | false ↦ Ok (record st { tokens_read = st.tokens_read + length ts }) ])
    go true = tt
    go false = refl

unless-kept : (step : Step) (st : Reading) → Kept loops_of st.loops (step st) → Kept loops_of st.loops (unless_ended st step)
unless-kept step st h = go st.ended
  where
    go : (c : Bool) → Kept loops_of st.loops (elim c as (λ _. Result Reading TextTokenProblem) [ true ↦ Ok st | false ↦ step st ])
    go true = refl
    go false = h

each-kept : (o : List Token → Step) → ((ts : List Token) (st : Reading) → Kept loops_of st.loops (o ts st)) → (ls : List (List Token)) (st : Reading) → Kept loops_of st.loops (each_line o ls st)
each-kept o d [] st = refl
each-kept o d (l ∷ ls) st =
    kept-then loops_of st.loops (line_read st >>= tokens_counted l >>= o l) (λ a. unless_ended a (each_line o ls))
    (kept-then loops_of st.loops (line_read st >>= tokens_counted l) (o l) (kept-then loops_of st.loops (line_read st) (tokens_counted l) (line-kept loops_of st refl) (counted-kept l)) (d l))
    (λ a. unless-kept (each_line o ls) a (each-kept o d ls a))

abbrev Deeper : Option (List Token → Step) → Type 0
Deeper None = ⊤
Deeper (Some o) = (ts : List Token) (st : Reading) → Kept loops_of st.loops (o ts st)

parts-kept : (deeper : Option (List Token → Step)) → Deeper deeper → (number : ℕ) (p : Parts) (ls : Option (List (List Token))) (st : Reading) → Kept loops_of st.loops (parts_read deeper number p ls st)
parts-kept deeper d number p None st = refl
parts-kept None d number p (Some ls) st = tt
parts-kept (Some o) d number p (Some ls) st = each-kept o d (append_to_last (prepend_to_first p.label_tokens ls) p.rest) st

with-kept : (ps : Predefined) (number : ℕ) (deeper : Option (List Token → Step)) → Deeper deeper → (ts : List Token) (st : Reading) → Kept loops_of st.loops (ordinary_with ps number deeper ts st)
with-kept ps number deeper d ts st = kept-bind loops_of st.loops (parts_of ps st ts) (λ p. parts_read deeper number p (operation_lines st p.operation) st) (λ p. parts-kept deeper d number p (operation_lines st p.operation) st)

ordinary-kept : (ps : Predefined) (number depth : ℕ) (ts : List Token) (st : Reading) → Kept loops_of st.loops (ordinary_line ps number depth ts st)
ordinary-kept ps number zero ts st = with-kept ps number None tt ts st
ordinary-kept ps number (suc depth) ts st = with-kept ps number (Some (ordinary_line ps number depth)) (ordinary-kept ps number depth) ts st

equated-kept : (ps : Predefined) (span : Option Span) (ts : List Token) (name : Option ℕ) (st : Reading) → Kept loops_of st.loops (equated ps span ts name st)
equated-kept ps span ts None st = go st.equate_grows
  where
    go : (c : Bool) → Kept loops_of st.loops (elim c as (λ _. Result Reading TextTokenProblem) [ true ↦ Ok (record st { equates = with_line st.equates ts }) | false ↦ Err (problem_at span BadToken) ])
    go true = refl
    go false = tt
equated-kept ps span ts (Some n) st = go (is_equate st n || is_label st n || is_predefined ps st n)
  where
    go : (c : Bool) → Kept loops_of st.loops (elim c as (λ _. Result Reading TextTokenProblem) [ true ↦ Err (problem_at span Duplicate) | false ↦ Ok (record st { equates = st.equates ++ record { name = n; lines = ts ∷ [] } ∷ []; equate_grows = true }) ])
    go true = tt
    go false = refl

tokens-kept : (ps : Predefined) (kind : LineKind) (row : SourceRow) (ts : List Token) (st : Reading) → Kept loops_of st.loops (tokens_line ps kind row ts st)
tokens-kept ps kind row [] st = refl
tokens-kept ps (EquLine at) row (t ∷ ts) st =
    kept-bind loops_of st.loops (name_in_front (tokens_before (row.at + at) (t ∷ ts))) (λ name. equated ps (first_span (t ∷ ts)) (tokens_after (row.at + at) (t ∷ ts)) name st) (λ name. equated-kept ps (first_span (t ∷ ts)) (tokens_after (row.at + at) (t ∷ ts)) name st)
tokens-kept ps RofLine row (t ∷ ts) st = ordinary-kept ps row.number 32 (t ∷ ts) st
tokens-kept ps (ForLine at) row (t ∷ ts) st = ordinary-kept ps row.number 32 (t ∷ ts) st
tokens-kept ps OtherLine row (t ∷ ts) st = ordinary-kept ps row.number 32 (t ∷ ts) st

comment-kept : (row : SourceRow) (st : Reading) → Kept loops_of st.loops (comment_line row st)
comment-kept row st = go (has_directive_word (codes "name") row.bytes) (has_directive_word (codes "author") row.bytes) (has_directive_word (codes "assert") row.bytes)
  where
    go : (a b c : Bool) → Kept loops_of st.loops (elim a as (λ _. Result Reading TextTokenProblem) [
      | true ↦ Ok (record st { name = unless_empty (directive_value (directive_text (codes "name") row.bytes)) st.name })
      | false ↦ elim b as (λ _. Result Reading TextTokenProblem) [
        | true ↦ Ok (record st { author = unless_empty (directive_value (directive_text (codes "author") row.bytes)) st.author })
        | false ↦ elim c as (λ _. Result Reading TextTokenProblem) [ true ↦ assert_line row st | false ↦ Ok st ]
      ]
    ])
    go true b c = refl
    go false true c = refl
    go false false true = kept-row loops_of st row (directive_text_at (codes "assert") row.bytes) (λ r. Ok (record (r.1) { asserts = r.1.asserts ++ record { number = row.number; current_line = r.1.instructions; tokens = r.0 } ∷ [] })) (λ names n. refl) (λ r. refl)
    go false false false = refl

pub plain-kept : (ps : Predefined) (row : SourceRow) (st : Reading) → Kept loops_of st.loops (plain_line ps row st)
plain-kept ps row st = kept-then loops_of st.loops (line_read st) (λ a. elim (is_comment row.bytes) as (λ _. Result Reading TextTokenProblem) [ true ↦ comment_line row a | false ↦ row_tokens row 0 a >>= λ r. tokens_line ps (line_kind row.bytes) row r.0 r.1 ])
    (line-kept loops_of st refl) (go (is_comment row.bytes))
  where
    go : (c : Bool) (a : Reading) → Kept loops_of a.loops (elim c as (λ _. Result Reading TextTokenProblem) [ true ↦ comment_line row a | false ↦ row_tokens row 0 a >>= λ r. tokens_line ps (line_kind row.bytes) row r.0 r.1 ])
    go true a = comment-kept row a
    go false a = kept-row loops_of a row 0 (λ r. tokens_line ps (line_kind row.bytes) row r.0 r.1) (λ names n. refl) (λ r. tokens-kept ps (line_kind row.bytes) row r.0 r.1)

pub rof-kept : {X : Type 0} (f : Reading → X) → ((st : Reading) (names : List (List ℕ)) (n : ℕ) → f (record st { names = names; tokens_read = n }) ≡ f st) → ((st : Reading) → f (record st { equate_grows = false }) ≡ f st)
    → ((st : Reading) → f (record st { lines_read = st.lines_read + 1 }) ≡ f st) → (row : SourceRow) (st : Reading) → Kept f (f st) (rof_line row st)
rof-kept f names grows lines row st = go (line_read st) (line-kept f st (lines st))
  where
    go : (r : Result Reading TextTokenProblem) → Kept f (f st) r → Kept f (f st) (r >>= row_tokens row 0 >>= λ r. Ok (record (r.1) { equate_grows = false }))
    go (Ok a) k = kept-at f (f st) (f a) _ k (kept-row f a row 0 (λ r. Ok (record (r.1) { equate_grows = false })) (names a) (λ r. grows r.1))
    go (Err e) k = tt

pub rof-ended : (row : SourceRow) (st : Reading) → Kept (λ st. st.ended) st.ended (rof_line row st)
rof-ended row st = rof-kept (λ st. st.ended) (λ st names n. refl) (λ st. refl) (λ st. refl) row st
