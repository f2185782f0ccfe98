-- The lines after the END of a source have no effect.
use Rattle.std.proofs.Common.{◌≡◌, ◌∙◌, refl, ap, sym, ℕ, ◌+◌, Bool, true, false, ◌||◌, List, [], ◌∷◌, ◌++◌, length, Result, Ok, Err}
use Rattle.std.specs.Prelude.{⊤, codes, ◌==◌}
use Rattle.std.specs.List.{list_any, onto_first}
use Rattle.redcode_text.specs.Results.{◌>>=◌}
use Rattle.redcode_text.specs.declared.fault.TextFault.{TextFault}
use Rattle.redcode_text.specs.declared.fault.TextProblem.{TextProblem}
use Rattle.redcode_text.specs.declared.fault.TextTokenProblem.{TextTokenProblem}
use Rattle.redcode_text.specs.declared.fault.TextProblem.TheVariants.{UnclosedFor, RofAlone}
use Rattle.redcode_text.specs.Expansion.{expansion, flat, head_line, nothing_read, program_of, rof_line, rounds, unpaired_line}
use Rattle.redcode_text.specs.Lines.{Reading, Predefined, line_read, plain_line, unless_ended}
use Rattle.redcode_text.specs.Source as source
use Rattle.redcode_text.specs.Source.{SourceRow, loop_word, Items, Nothing, Plain, Loop, LoneRof, LineKind, RofLine, ForLine, EquLine, OtherLine, Pairing, begins_redcode, from_redcode, has_directive, line_kind, lines_of, opened, paired, paired_with, read_rows, rows_from, rows_of, then_lone, tree_of, tree_of_rows, with_lone}
use Rattle.redcode_text.specs.Tokens.{at_line, problem_at}
use Rattle.redcode_text.proofs.Kept.{Kept, rof-ended}

-- ---- Rows

-- Bytes that end in LF have at least one line.
some-line : (before : List ℕ) → (first : List ℕ) × (rest : List (List ℕ)) × (lines_of (before ++ 10 ∷ []) ≡ first ∷ rest)
some-line [] = ([], [], refl)
some-line (b ∷ bs) = go (b == 10) (some-line bs)
  where
    go : (t : Bool) → ((first : List ℕ) × (rest : List (List ℕ)) × (lines_of (bs ++ 10 ∷ []) ≡ first ∷ rest)) → (first : List ℕ) × (rest : List (List ℕ)) × ((elim t as (λ _. List (List ℕ)) [ true ↦ [] ∷ lines_of (bs ++ 10 ∷ []) | false ↦ onto_first b (lines_of (bs ++ 10 ∷ [])) ]) ≡ first ∷ rest)
    go true l = ([], lines_of (bs ++ 10 ∷ []), refl)
    go false l = (b ∷ l.0, l.1, ap (onto_first b) l.2)

lines-append : (before after : List ℕ) → lines_of (before ++ 10 ∷ after) ≡ lines_of (before ++ 10 ∷ []) ++ lines_of after
lines-append [] after = refl
lines-append (b ∷ bs) after = go (b == 10) (lines-append bs after)
  where
    lines : List ℕ → List (List ℕ)
    lines after = lines_of (bs ++ 10 ∷ after)

    go : (t : Bool) → lines after ≡ lines [] ++ lines_of after → (elim t as (λ _. List (List ℕ)) [ true ↦ [] ∷ lines after | false ↦ onto_first b (lines after) ]) ≡ (elim t as (λ _. List (List ℕ)) [ true ↦ [] ∷ lines [] | false ↦ onto_first b (lines []) ]) ++ lines_of after
    go true same = ap (λ l. [] ∷ l) same
    go false same =
        let l = some-line bs in
        ap (onto_first b) (same ∙ ap (λ l. l ++ lines_of after) l.2) ∙ ap (λ l. onto_first b l ++ lines_of after) (sym l.2)

pub any-rows : (number at : ℕ) (lines : List (List ℕ)) → list_any begins_redcode (rows_from number at lines) ≡ list_any (has_directive (codes "redcode")) lines
any-rows number at [] = refl
any-rows number at (l ∷ lines) = ap (λ b. has_directive (codes "redcode") l || b) (any-rows (number + 1) (at + length l + 1) lines)

-- The rows of more lines are the rows of the first lines, followed by other rows, which include a `;redcode` exactly if
-- the added lines do.
rows-append : (number at : ℕ) (before after : List (List ℕ)) →
    (rest : List SourceRow) × (rows_from number at (before ++ after) ≡ rows_from number at before ++ rest) × (list_any begins_redcode rest ≡ list_any (has_directive (codes "redcode")) after)
rows-append number at [] after = (rows_from number at after, refl, any-rows number at after)
rows-append number at (l ∷ before) after =
    let r = rows-append (number + 1) (at + length l + 1) before after in
    (r.0, ap (λ rows. record { number = number; at = at; bytes = l } ∷ rows) r.1, r.2)

module _ (rest : List SourceRow) (none : list_any begins_redcode rest ≡ false) where
  any-append : (rows : List SourceRow) → list_any begins_redcode (rows ++ rest) ≡ list_any begins_redcode rows
  any-append [] = none
  any-append (row ∷ rows) = ap (λ b. begins_redcode row || b) (any-append rows)

  from-append : (rows : List SourceRow) → list_any begins_redcode rows ≡ true → from_redcode (rows ++ rest) ≡ from_redcode rows ++ rest
  from-append [] some = cc
  from-append (row ∷ rows) some = go (begins_redcode row) some (from-append rows)
    where
      go : (t : Bool) → (t || list_any begins_redcode rows) ≡ true → (list_any begins_redcode rows ≡ true → from_redcode (rows ++ rest) ≡ from_redcode rows ++ rest)
          → (elim t as (λ _. List SourceRow) [ true ↦ row ∷ (rows ++ rest) | false ↦ from_redcode (rows ++ rest) ]) ≡ (elim t as (λ _. List SourceRow) [ true ↦ row ∷ rows | false ↦ from_redcode rows ]) ++ rest
      go true e h = refl
      go false e h = h e

  read-append : (rows : List SourceRow) → read_rows (rows ++ rest) ≡ read_rows rows ++ rest
  read-append rows =
      ap (λ t. elim t as (λ _. List SourceRow) [ true ↦ from_redcode (rows ++ rest) | false ↦ rows ++ rest ]) (any-append rows) ∙ go (list_any begins_redcode rows) refl
    where
      go : (t : Bool) → list_any begins_redcode rows ≡ t
          → (elim t as (λ _. List SourceRow) [ true ↦ from_redcode (rows ++ rest) | false ↦ rows ++ rest ]) ≡ (elim t as (λ _. List SourceRow) [ true ↦ from_redcode rows | false ↦ rows ]) ++ rest
      go true some = from-append rows some
      go false some = refl

-- ---- Trees

-- The items `more` begin like the first items, up to the end of the first items or to their first unpaired FOR or ROF.
Begins : Items → Items → Type 0
Begins Nothing more = ⊤
Begins (Plain row rest) more = (others : Items) × (more ≡ Plain row others) × Begins rest others
Begins (Loop head body rof rest) more = (others : Items) × (more ≡ Loop head body rof others) × Begins rest others
Begins (source.UnclosedFor row rest) more = ⊤
Begins (LoneRof row rest) more = ⊤

begins-itself : (items : Items) → Begins items items
unfolding Begins
begins-itself Nothing = tt
begins-itself (Plain row rest) = (rest, refl, begins-itself rest)
begins-itself (Loop head body rof rest) = (rest, refl, begins-itself rest)
begins-itself (source.UnclosedFor row rest) = tt
begins-itself (LoneRof row rest) = tt

begins-lone : (rof : SourceRow) (items more : Items) → Begins items more → Begins items (then_lone rof more)
unfolding Begins
begins-lone rof Nothing more b = tt
begins-lone rof (Plain row rest) more b = (then_lone rof b.0, ap (then_lone rof) b.1, begins-lone rof rest b.0 b.2)
begins-lone rof (Loop head body end rest) more b = (then_lone rof b.0, ap (then_lone rof) b.1, begins-lone rof rest b.0 b.2)
begins-lone rof (source.UnclosedFor row rest) more b = tt
begins-lone rof (LoneRof row rest) more b = tt

-- The pairing of rows is compared with the pairing of more rows. The items before each waiting ROF are the same, and
-- after the last one the items of the second pairing begin like the items of the first.
Extends : Items → List (SourceRow × Items) → Items → List (SourceRow × Items) → Type 0
Extends here [] more others = Begins here more
Extends here (w ∷ waiting) more others = (here ≡ more) × (behind : Items) × (rest : List (SourceRow × Items)) × (others ≡ (w.0, behind) ∷ rest) × Extends w.1 waiting behind rest

extends-plain : (row : SourceRow) (here more : Items) (waiting others : List (SourceRow × Items)) → Extends here waiting more others → Extends (Plain row here) waiting (Plain row more) others
unfolding Begins Extends
extends-plain row here more [] others e = (more, refl, e)
extends-plain row here more (w ∷ waiting) others e = (ap (Plain row) e.0, e.1, e.2, e.3, e.4)

extends-loop : (head rof : SourceRow) (body here more : Items) (waiting others : List (SourceRow × Items)) → Extends here waiting more others → Extends (Loop head body rof here) waiting (Loop head body rof more) others
unfolding Begins Extends
extends-loop head rof body here more [] others e = (more, refl, e)
extends-loop head rof body here more (w ∷ waiting) others e = (ap (Loop head body rof) e.0, e.1, e.2, e.3, e.4)

ExtendsPair : Pairing → Pairing → Type 0
ExtendsPair p q = Extends p.here p.waiting q.here q.waiting

extends-opened : (row : SourceRow) (here more : Items) (waiting others : List (SourceRow × Items)) → Extends here waiting more others → ExtendsPair (opened row here waiting) (opened row more others)
unfolding Begins Extends ExtendsPair
extends-opened row here more [] others e = tt
extends-opened row here more (w ∷ waiting) others e =
    rw (e.3, ← e.0) (extends-loop row w.0 here w.1 e.1 waiting e.2 e.4)

extends-row : (kind : LineKind) (row : SourceRow) (p q : Pairing) → ExtendsPair p q → ExtendsPair (paired_with kind row p) (paired_with kind row q)
unfolding Begins Extends ExtendsPair
extends-row (ForLine at) row p q e = extends-opened row p.here q.here p.waiting q.waiting e
extends-row RofLine row p q e = (refl, q.here, q.waiting, refl, e)
extends-row (EquLine at) row p q e = extends-plain row p.here q.here p.waiting q.waiting e
extends-row OtherLine row p q e = extends-plain row p.here q.here p.waiting q.waiting e

extends-paired : (rows rest : List SourceRow) → ExtendsPair (paired rows) (paired (rows ++ rest))
unfolding Begins Extends ExtendsPair
extends-paired [] rest = tt
extends-paired (row ∷ rows) rest = extends-row (line_kind row.bytes) row (paired rows) (paired (rows ++ rest)) (extends-paired rows rest)

begins-tree : (here more : Items) (waiting others : List (SourceRow × Items)) → Extends here waiting more others → Begins (with_lone here waiting) (with_lone more others)
unfolding Extends
begins-tree here more [] [] e = e
begins-tree here more [] (o ∷ others) e = begins-lone o.0 here more e
begins-tree here more (w ∷ waiting) others e = rw (e.3, ← e.0) (begins-itself (then_lone w.0 here))

-- ---- Reading

pub unpaired-refused : (n : ℕ) (problem : TextProblem) (row : SourceRow) (st read : Reading) → at_line n (unpaired_line problem row st) ≡ Ok read → ⊥
unpaired-refused n problem row st read = go (line_read st)
  where
    go : (r : Result Reading TextTokenProblem) → at_line n (r >>= λ (a : Reading). Err (problem_at (loop_word row) problem)) ≡ Ok read → ⊥
    go (Ok a) e = cc
    go (Err x) e = cc

module _ (read : Reading) (ends : read.ended ≡ true) where
  -- If the result `r` is `read`, which ends with an END, so is the result `s`.
  abbrev Same : Result Reading TextFault → Result Reading TextFault → Type 0
  Same r s = r ≡ Ok read → s ≡ Ok read

  after : {A : Type 0} (r : Result A TextFault) (f g : A → Result Reading TextFault) → ((a : A) → r ≡ Ok a → Same (f a) (g a)) → Same (r >>= f) (r >>= g)
  after (Ok a) f g h e = h a refl e
  after (Err x) f g h e = cc

  unless : (a : Reading) (f g : Reading → Result Reading TextFault) → (a.ended ≡ false → Same (f a) (g a)) → Same (unless_ended a f) (unless_ended a g)
  unless a f g h = go a.ended refl
    where
      go : (t : Bool) → a.ended ≡ t → Same (elim t as (λ _. Result Reading TextFault) [ true ↦ Ok a | false ↦ f a ]) (elim t as (λ _. Result Reading TextFault) [ true ↦ Ok a | false ↦ g a ])
      go true t e = e
      go false t e = h t e

  rof-goes-on : (rof : SourceRow) (a b : Reading) → a.ended ≡ false → at_line rof.number (rof_line rof a) ≡ Ok b → b.ended ≡ false
  rof-goes-on rof a b going = go (rof_line rof a) (rof-ended rof a)
    where
      go : (r : Result Reading TextTokenProblem) → Kept (λ st. st.ended) a.ended r → at_line rof.number r ≡ Ok b → b.ended ≡ false
      go (Ok x) k e = let same : x ≡ b = cc in ap (λ st. st.ended) (sym same) ∙ k ∙ going
      go (Err x) k e = cc

  reads-same : (ps : Predefined) (items more : Items) → Begins items more → (st : Reading) → st.ended ≡ false → Same (flat ps items st) (flat ps more st)
  unfolding Begins
  reads-same ps Nothing more b st going e = let same : st ≡ read = cc in let both : true ≡ false = sym ends ∙ ap (λ st. st.ended) (sym same) ∙ going in cc
  reads-same ps (Plain row rest) more b st going e =
      rw b.1 (after (at_line row.number (plain_line ps row st)) (λ a. unless_ended a (flat ps rest)) (λ a. unless_ended a (flat ps b.0))
      (λ a is. unless a (flat ps rest) (flat ps b.0) (reads-same ps rest b.0 b.2 a)) e)
  reads-same ps (Loop head body rof rest) more b st going e =
      let behind : Items → Reading → Result Reading TextFault = λ items a. at_line rof.number (rof_line rof a) >>= flat ps items in
      rw b.1 (after (at_line head.number (head_line ps head st))
      (λ h. rounds (flat ps body) h.counter 1 h.count h.reading >>= λ a. unless_ended a (behind rest))
      (λ h. rounds (flat ps body) h.counter 1 h.count h.reading >>= λ a. unless_ended a (behind b.0))
      (λ h is. after (rounds (flat ps body) h.counter 1 h.count h.reading) (λ a. unless_ended a (behind rest)) (λ a. unless_ended a (behind b.0))
      (λ a was. unless a (behind rest) (behind b.0)
      (λ on. after (at_line rof.number (rof_line rof a)) (flat ps rest) (flat ps b.0) (λ c closed. reads-same ps rest b.0 b.2 c (rof-goes-on rof a c on closed))))) e)
  reads-same ps (source.UnclosedFor row rest) more b st going e = absurd (unpaired-refused row.number UnclosedFor row st read e)
  reads-same ps (LoneRof row rest) more b st going e = absurd (unpaired-refused row.number RofAlone row st read e)

-- ---- The whole source

begins-source : (before after : List ℕ) → list_any (has_directive (codes "redcode")) (lines_of after) ≡ false → Begins (tree_of (before ++ 10 ∷ [])) (tree_of (before ++ 10 ∷ after))
unfolding ExtendsPair
begins-source before after none =
    let rows = rows-append 1 0 (lines_of (before ++ 10 ∷ [])) (lines_of after) in
    let read = read_rows (rows_of (before ++ 10 ∷ [])) in
    let same : tree_of (before ++ 10 ∷ after) ≡ tree_of_rows (read ++ rows.0) =
    ap tree_of_rows (ap (λ l. read_rows (rows_from 1 0 l)) (lines-append before after) ∙ ap read_rows rows.1 ∙ read-append rows.0 (rows.2 ∙ none) (rows_of (before ++ 10 ∷ []))) in
    rw same (begins-tree (paired read).here (paired (read ++ rows.0)).here (paired read).waiting (paired (read ++ rows.0)).waiting (extends-paired read rows.0))

pub behind-end : (ps : Predefined) (before after : List ℕ) (read : Reading) → flat ps (tree_of (before ++ 10 ∷ [])) nothing_read ≡ Ok read → read.ended ≡ true
    → list_any (has_directive (codes "redcode")) (lines_of after) ≡ false → expansion ps (before ++ 10 ∷ after) ≡ expansion ps (before ++ 10 ∷ [])
unfolding expansion
behind-end ps before after read is ends none =
    let same = reads-same read ends ps (tree_of (before ++ 10 ∷ [])) (tree_of (before ++ 10 ∷ after)) (begins-source before after none) nothing_read refl is in
    ap (λ r. r >>= λ st. Ok (program_of st)) (same ∙ sym is)
