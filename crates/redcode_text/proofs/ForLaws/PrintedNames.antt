-- The name and the author of a program are printable.
use Rattle.std.proofs.Common.{◌≡◌, ℕ, zero, suc, ◌+◌, ◌-◌, ◌≤◌, List, [], ◌∷◌, ◌++◌, length, drop, map, reverse, Bool, true, false, Option, Some, None, Result, Ok, Err, subst, arith, nat_le, nat_lt}
use Rattle.std.specs.Prelude.{⊤, codes, ◌||◌}
use Rattle.std.proofs.lemmas.List.{length-take}
use Rattle.std.proofs.lemmas.List.Elements.{All-take}
use Rattle.redcode_text.specs.Results.{◌>>=◌}
use Rattle.redcode_text.specs.declared.fault.TextFault.{TextFault}
use Rattle.redcode_text.specs.declared.fault.TextTokenProblem.{TextTokenProblem}
use Rattle.redcode_text.specs.declared.fault.TextProblem.TheVariants.{BadToken, Duplicate, TooLong, UnclosedFor, RofAlone}
use Rattle.redcode_text.specs.declared.token.Token.{Token}
use Rattle.redcode_text.specs.declared.token.Span.{Span}
use Rattle.redcode_text.specs.Spans.{first_span}
use Rattle.redcode_text.specs.Expansion.{Head, ProgramValue, expansion, flat, head_line, in_round, nothing_read, program_of, rof_line, rounds, unpaired_line}
use Rattle.redcode_text.specs.Lines.{Reading, Step, Parts, Predefined, WithTokens, assert_line, before_comment, prepend_to_first, append_to_last, comment_line, directive_value, each_line, equated, is_equate, is_label, is_predefined, line_read, name_in_front, operation_lines, ordinary_line, ordinary_with, parts_of, parts_read, plain_line, printable, row_tokens, tokens_after, tokens_before, tokens_counted, tokens_line, unless_empty, unless_ended, with_line}
use Rattle.redcode_text.specs.Equates.{limit}
use Rattle.redcode_text.specs.Programs.{IsPrinted}
use Rattle.redcode_text.specs.Source as source
use Rattle.redcode_text.specs.Source.{SourceRow, loop_word, Items, Plain, Loop, LineKind, RofLine, ForLine, EquLine, OtherLine, directive_text, directive_text_at, has_directive_word, is_comment, line_kind, tree_of, without_blanks}
use Rattle.redcode_text.specs.Tokens.{Scanned, at_line, problem_at, tokens}
use Rattle.redcode_text.proofs.ForLaws.ResultValues.{HoldsOfValue, head-holds}
use Rattle.redcode_text.proofs.Printing.{all-printed, is-printed}

-- ---- Names

value-printed : (text : List ℕ) → IsPrinted (directive_value text)
value-printed text =
    let all = map printable (reverse (without_blanks (reverse (without_blanks text)))) in
    record {
      short = omega (arith, length-take 60 all);
      printed = All-take (λ b. (32 ≤ b) × (b ≤ 126)) 60 all (all-printed (reverse (without_blanks (reverse (without_blanks text)))));
    }

-- ---- Lines

-- The name and the author so far are printable.
abbrev pub ArePrinted : Reading → Type 0
ArePrinted st = IsPrinted st.name × IsPrinted st.author

abbrev Keeps : {E : Type 0} → Result Reading E → Type 0
Keeps (Ok a) = ArePrinted a
Keeps (Err e) = ⊤

keeps-then : (r : Result Reading TextTokenProblem) (g : Step) → Keeps r → ((a : Reading) → ArePrinted a → Keeps (g a)) → Keeps (r >>= g)
keeps-then (Ok a) g k h = h a k
keeps-then (Err e) g k h = tt

keeps-bind : {A : Type 0} (r : Result A TextTokenProblem) (g : A → Result Reading TextTokenProblem) → ((a : A) → Keeps (g a)) → Keeps (r >>= g)
keeps-bind (Ok a) g h = h a
keeps-bind (Err e) g h = tt

keeps-row : (st : Reading) (row : SourceRow) (at : ℕ) (g : WithTokens → Result Reading TextTokenProblem) → ArePrinted st → ((r : WithTokens) → ArePrinted r.1 → Keeps (g r)) → Keeps (row_tokens row at st >>= g)
keeps-row st row at g p h = go (tokens st.loops row.number (row.at + at) (limit - st.tokens_read) st.names (before_comment (drop at row.bytes)))
  where
    go : (r : Result Scanned TextTokenProblem) → Keeps ((r >>= λ s. Ok (s.tokens, record st { names = s.names; tokens_read = st.tokens_read + length s.tokens })) >>= g)
    go (Ok s) = h (s.tokens, record st { names = s.names; tokens_read = st.tokens_read + length s.tokens }) p
    go (Err e) = tt

keeps-unless : {E : Type 0} (step : Reading → Result Reading E) (st : Reading) → ArePrinted st → Keeps (step st) → Keeps (unless_ended st step)
keeps-unless {E} step st p h = go st.ended
  where
    go : (c : Bool) → Keeps (elim c as (λ _. Result Reading E) [ true ↦ Ok st | false ↦ step st ])
    go true = p
    go false = h

line-keeps : (st : Reading) → ArePrinted st → Keeps (line_read st)
line-keeps st p = go (nat_le limit st.lines_read)
  where
    go : (c : Bool) → Keeps (elim c as (λ _. Result Reading TextTokenProblem) [ true ↦ Err (problem_at None TooLong) | false ↦ Ok (record st { lines_read = st.lines_read + 1 }) ])
    go true = tt
    go false = p

counted-keeps : (ts : List Token) (st : Reading) → ArePrinted st → Keeps (tokens_counted ts st)
counted-keeps ts st p = go (nat_lt limit (st.tokens_read + length ts))
  where
    go : (c : Bool) → Keeps (elim c as (λ _. Result Reading TextTokenProblem) [ true ↦ Err (problem_at None TooLong) | false ↦ Ok (record st { tokens_read = st.tokens_read + length ts }) ])
    go true = tt
    go false = p

-- A step keeps the name and the author printable.
abbrev Steady : Step → Type 0
Steady step = (st : Reading) → ArePrinted st → Keeps (step st)

each-keeps : (o : List Token → Step) → ((ts : List Token) → Steady (o ts)) → (ls : List (List Token)) → Steady (each_line o ls)
each-keeps o d [] st p = p
each-keeps o d (l ∷ ls) st p =
    keeps-then (line_read st >>= tokens_counted l >>= o l) (λ a. unless_ended a (each_line o ls))
    (keeps-then (line_read st >>= tokens_counted l) (o l) (keeps-then (line_read st) (tokens_counted l) (line-keeps st p) (counted-keeps l)) (d l))
    (λ a q. keeps-unless (each_line o ls) a q (each-keeps o d ls a q))

abbrev Deeper : Option (List Token → Step) → Type 0
Deeper None = ⊤
Deeper (Some o) = (ts : List Token) → Steady (o ts)

parts-keep : (deeper : Option (List Token → Step)) → Deeper deeper → (number : ℕ) (p : Parts) (ls : Option (List (List Token))) → Steady (parts_read deeper number p ls)
parts-keep deeper d number p None st q = q
parts-keep None d number p (Some ls) st q = tt
parts-keep (Some o) d number p (Some ls) st q = each-keeps o d (append_to_last (prepend_to_first p.label_tokens ls) p.rest) st q

with-keeps : (ps : Predefined) (number : ℕ) (deeper : Option (List Token → Step)) → Deeper deeper → (ts : List Token) → Steady (ordinary_with ps number deeper ts)
with-keeps ps number deeper d ts st q = keeps-bind (parts_of ps st ts) (λ p. parts_read deeper number p (operation_lines st p.operation) st) (λ p. parts-keep deeper d number p (operation_lines st p.operation) st q)

ordinary-keeps : (ps : Predefined) (number depth : ℕ) (ts : List Token) → Steady (ordinary_line ps number depth ts)
ordinary-keeps ps number zero ts = with-keeps ps number None tt ts
ordinary-keeps ps number (suc depth) ts = with-keeps ps number (Some (ordinary_line ps number depth)) (ordinary-keeps ps number depth) ts

equated-keeps : (ps : Predefined) (span : Option Span) (ts : List Token) (name : Option ℕ) → Steady (equated ps span ts name)
equated-keeps ps span ts None st p = go st.equate_grows
  where
    go : (c : Bool) → Keeps (elim c as (λ _. Result Reading TextTokenProblem) [ true ↦ Ok (record st { equates = with_line st.equates ts }) | false ↦ Err (problem_at span BadToken) ])
    go true = p
    go false = tt
equated-keeps ps span ts (Some n) st p = go (is_equate st n || is_label st n || is_predefined ps st n)
  where
    go : (c : Bool) → Keeps (elim c as (λ _. Result Reading TextTokenProblem) [ true ↦ Err (problem_at span Duplicate) | false ↦ Ok (record st { equates = st.equates ++ record { name = n; lines = ts ∷ [] } ∷ []; equate_grows = true }) ])
    go true = tt
    go false = p

tokens-keep : (ps : Predefined) (kind : LineKind) (row : SourceRow) (ts : List Token) → Steady (tokens_line ps kind row ts)
tokens-keep ps kind row [] st p = p
tokens-keep ps (EquLine at) row (t ∷ ts) st p =
    keeps-bind (name_in_front (tokens_before (row.at + at) (t ∷ ts))) (λ name. equated ps (first_span (t ∷ ts)) (tokens_after (row.at + at) (t ∷ ts)) name st) (λ name. equated-keeps ps (first_span (t ∷ ts)) (tokens_after (row.at + at) (t ∷ ts)) name st p)
tokens-keep ps RofLine row (t ∷ ts) st p = ordinary-keeps ps row.number 32 (t ∷ ts) st p
tokens-keep ps (ForLine at) row (t ∷ ts) st p = ordinary-keeps ps row.number 32 (t ∷ ts) st p
tokens-keep ps OtherLine row (t ∷ ts) st p = ordinary-keeps ps row.number 32 (t ∷ ts) st p

-- A text that replaces an old text, unless the text is empty, gives a printable text if both texts are printable.
given-printed : (text old : List ℕ) → IsPrinted text → IsPrinted old → IsPrinted (unless_empty text old)
given-printed [] old t o = o
given-printed (b ∷ bs) old t o = t

comment-keeps : (row : SourceRow) → Steady (comment_line row)
comment-keeps row st p = go (has_directive_word (codes "name") row.bytes) (has_directive_word (codes "author") row.bytes) (has_directive_word (codes "assert") row.bytes)
  where
    go : (a b c : Bool) → Keeps (elim a as (λ _. Result Reading TextTokenProblem) [
      | true ↦ Ok (record st { name = unless_empty (directive_value (directive_text (codes "name") row.bytes)) st.name })
      | false ↦ elim b as (λ _. Result Reading TextTokenProblem) [
        | true ↦ Ok (record st { author = unless_empty (directive_value (directive_text (codes "author") row.bytes)) st.author })
        | false ↦ elim c as (λ _. Result Reading TextTokenProblem) [ true ↦ assert_line row st | false ↦ Ok st ]
      ]
    ])
    go true b c = (given-printed (directive_value (directive_text (codes "name") row.bytes)) st.name (value-printed (directive_text (codes "name") row.bytes)) p.0, p.1)
    go false true c = (p.0, given-printed (directive_value (directive_text (codes "author") row.bytes)) st.author (value-printed (directive_text (codes "author") row.bytes)) p.1)
    go false false true = keeps-row st row (directive_text_at (codes "assert") row.bytes) (λ r. Ok (record (r.1) { asserts = r.1.asserts ++ record { number = row.number; current_line = r.1.instructions; tokens = r.0 } ∷ [] })) p (λ r q. q)
    go false false false = p

plain-keeps : (ps : Predefined) (row : SourceRow) → Steady (plain_line ps row)
plain-keeps ps row st p = keeps-then (line_read st) (λ a. elim (is_comment row.bytes) as (λ _. Result Reading TextTokenProblem) [ true ↦ comment_line row a | false ↦ row_tokens row 0 a >>= λ r. tokens_line ps (line_kind row.bytes) row r.0 r.1 ])
    (line-keeps st p) (go (is_comment row.bytes))
  where
    go : (c : Bool) (a : Reading) → ArePrinted a → Keeps (elim c as (λ _. Result Reading TextTokenProblem) [ true ↦ comment_line row a | false ↦ row_tokens row 0 a >>= λ r. tokens_line ps (line_kind row.bytes) row r.0 r.1 ])
    go true a q = comment-keeps row a q
    go false a q = keeps-row a row 0 (λ r. tokens_line ps (line_kind row.bytes) row r.0 r.1) q (λ r s. tokens-keep ps (line_kind row.bytes) row r.0 r.1 s)

rof-keeps : (row : SourceRow) → Steady (rof_line row)
rof-keeps row st p = go (line_read st) (line-keeps st p)
  where
    go : (r : Result Reading TextTokenProblem) → Keeps r → Keeps (r >>= row_tokens row 0 >>= λ r. Ok (record (r.1) { equate_grows = false }))
    go (Ok a) q = keeps-row a row 0 (λ r. Ok (record (r.1) { equate_grows = false })) q (λ r s. s)
    go (Err e) q = tt

-- ---- Loops

abbrev HeadKeeps : {E : Type 0} → Result Head E → Type 0
HeadKeeps r = HoldsOfValue (λ (h : Head). ArePrinted h.reading) r

head-keeps : (ps : Predefined) (row : SourceRow) (st : Reading) → ArePrinted st → HeadKeeps (head_line ps row st)
head-keeps ps row st p = head-holds ps row st ArePrinted (λ a names n q. q) (λ a q. q) (line-keeps st p)

-- ---- The whole source

after-keeps : (r : Result Reading TextFault) (g : Reading → Result Reading TextFault) → Keeps r → ((a : Reading) → ArePrinted a → Keeps (g a)) → Keeps (r >>= g)
after-keeps (Ok a) g q h = h a q
after-keeps (Err e) g q h = tt

after-head : (n : ℕ) (r : Result Head TextTokenProblem) (g : Head → Result Reading TextFault) → HeadKeeps r → ((h : Head) → ArePrinted h.reading → Keeps (g h)) → Keeps (at_line n r >>= g)
after-head n (Ok h) g q k = k h q
after-head n (Err e) g q k = tt

at-line-keeps : (n : ℕ) (r : Result Reading TextTokenProblem) → Keeps r → Keeps (at_line n r)
at-line-keeps n (Ok a) q = q
at-line-keeps n (Err e) q = tt

rounds-keep : (body : Reading → Result Reading TextFault) → ((st : Reading) → ArePrinted st → Keeps (body st)) → (counter : Option (List ℕ)) (round n : ℕ) (st : Reading) → ArePrinted st → Keeps (rounds body counter round n st)
rounds-keep body k counter round zero st p = p
rounds-keep body k counter round (suc n) st p =
    after-keeps (body (in_round counter round st)) (λ a. unless_ended (record a { loops = st.loops }) (rounds body counter (round + 1) n)) (k (in_round counter round st) p)
    (λ a q. keeps-unless (rounds body counter (round + 1) n) (record a { loops = st.loops }) q (rounds-keep body k counter (round + 1) n (record a { loops = st.loops }) q))

unpaired-keeps : (problem : TextTokenProblem) (r : Result Reading TextTokenProblem) → Keeps (r >>= λ (a : Reading). Err problem)
unpaired-keeps problem (Ok a) = tt
unpaired-keeps problem (Err e) = tt

flat-keeps : (ps : Predefined) (items : Items) (st : Reading) → ArePrinted st → Keeps (flat ps items st)
flat-keeps ps source.Nothing st p = p
flat-keeps ps (Plain row rest) st p =
    after-keeps (at_line row.number (plain_line ps row st)) (λ a. unless_ended a (flat ps rest)) (at-line-keeps row.number (plain_line ps row st) (plain-keeps ps row st p))
    (λ a q. keeps-unless (flat ps rest) a q (flat-keeps ps rest a q))
flat-keeps ps (Loop head body rof rest) st p =
    after-head head.number (head_line ps head st) _ (head-keeps ps head st p) (λ h q.
    after-keeps (rounds (flat ps body) h.counter 1 h.count h.reading) _ (rounds-keep (flat ps body) (flat-keeps ps body) h.counter 1 h.count h.reading q) (λ a r.
    keeps-unless (λ b. at_line rof.number (rof_line rof b) >>= flat ps rest) a r
    (after-keeps (at_line rof.number (rof_line rof a)) (flat ps rest) (at-line-keeps rof.number (rof_line rof a) (rof-keeps rof a r)) (flat-keeps ps rest))))
flat-keeps ps (source.UnclosedFor row rest) st p = at-line-keeps row.number (unpaired_line UnclosedFor row st) (unpaired-keeps (problem_at (loop_word row) UnclosedFor) (line_read st))
flat-keeps ps (source.LoneRof row rest) st p = at-line-keeps row.number (unpaired_line RofAlone row st) (unpaired-keeps (problem_at (loop_word row) RofAlone) (line_read st))

pub program-printed : (ps : Predefined) (bytes : List ℕ) (p : ProgramValue) → expansion ps bytes ≡ Ok p → IsPrinted p.name × IsPrinted p.author
unfolding expansion
program-printed ps bytes p = go (flat ps (tree_of bytes) nothing_read) (flat-keeps ps (tree_of bytes) nothing_read (is-printed (codes "Unknown") (omega arith), is-printed (codes "Anonymous") (omega arith)))
  where
    go : (r : Result Reading TextFault) → Keeps r → (r >>= λ st. Ok (program_of st)) ≡ Ok p → IsPrinted p.name × IsPrinted p.author
    go (Ok st) q e = let same : program_of st ≡ p = cc in subst (λ (x : ProgramValue). IsPrinted x.name × IsPrinted x.author) same q
    go (Err f) q e = absurd (cc)
