-- The code builds the defined lines and labels of the instructions.
use Rattle.std.proofs.Common.{◌≡◌, ◌∙◌, ℕ, ◌+◌, ◌≤◌, ◌<◌, List, [], ◌∷◌, ◌++◌, Bool, true, false, cond, if◌then◌else◌, nat_lt, length, map, take, ap, sym, refl, arith, append_assoc}
use Rattle.std.proofs.lemmas.List.{append-nil, length-append, length-take-le, take-append-le, take_all}
use Rattle.std.proofs.lemmas.Grind.{flat_map-append}
use Rattle.std.specs.List.{flat_map, filter}
use Rattle.redcode_text.specs.Expansion.{ProgramValue}
use Rattle.redcode_text.specs.Lines.{Line, is_instruction}
use Rattle.redcode_asm.specs.declared.lines.CellLine.{CellLine}
use Rattle.redcode_asm.specs.Assembly.{Placed, index_after, placed_from}
use Rattle.redcode_asm.specs.SourceLines.{labels_text, program_lines}
use Rattle.redcode_asm.specs.Code.Lines.{labels_on, lines_on}

-- The labels of a line if `is_before` is true, or else no bytes.
abbrev text_if : Bool → List ℕ → List ℕ
text_if is_before text = if is_before then text else []

-- The labels of the lines among `ps` that have fewer than `count` instructions before them.
abbrev firsts : List (List ℕ) → List Placed → ℕ → List ℕ
firsts names ps count = flat_map (λ p. text_if (nat_lt p.index count) (labels_text names p.line.labels)) ps

firsts_of_both : (names : List (List ℕ)) (ps qs : List Placed) (count : ℕ) → firsts names (ps ++ qs) count ≡ firsts names ps count ++ firsts names qs count
firsts_of_both names ps qs count = flat_map-append (λ (p : Placed). text_if (nat_lt p.index count) (labels_text names p.line.labels)) ps qs

included : (index count : ℕ) (text : List ℕ) → index < count → text_if (nat_lt index count) text ≡ text
included index count text less = let same : nat_lt index count ≡ true = grind arith in rw same refl

excluded : (index count : ℕ) (text : List ℕ) → count ≤ index → text_if (nat_lt index count) text ≡ []
excluded index count text up = let other : nat_lt index count ≡ false = grind arith in rw other refl

further : (b : Bool) (index count : ℕ) → count ≤ index → count ≤ (elim b [ true ↦ index + 1 | false ↦ index ])
further true index count up = omega arith
further false index count up = up

-- Lines from the index `index` on have no labels of the first `count` instructions.
none_after : (names : List (List ℕ)) (index count : ℕ) (ls : List Line) → count ≤ index → firsts names (placed_from names index ls) count ≡ []
none_after names index count [] up = refl
none_after names index count (l ∷ ls) up =
    let rest = none_after names (index_after names index l) count ls (further (is_instruction names l.operation l.rest) index count up) in
    rw (excluded index count (labels_text names l.labels) up) rest

abbrev one : ℕ → Line → Placed
one index l = record { index = index; line = l }

-- `text` has the labels of the lines `before`. The labels from the offset `begin` on belong to the instruction `index`.
record Reaches (names : List (List ℕ)) (before : List Placed) (index begin : ℕ) (text : List ℕ) : Type 0 where
  inside : begin ≤ length text
  finished : firsts names before index ≡ take begin text
  all : (count : ℕ) → index < count → firsts names before count ≡ text

and_one : (names : List (List ℕ)) (before : List Placed) (index count : ℕ) (l : Line) → index < count
    → firsts names (before ++ one index l ∷ []) count ≡ firsts names before count ++ labels_text names l.labels
and_one names before index count l less =
    rw (firsts_of_both names before (one index l ∷ []) count, included index count (labels_text names l.labels) less, append-nil (labels_text names l.labels)) refl

not_one : (names : List (List ℕ)) (before : List Placed) (index : ℕ) (l : Line) → firsts names (before ++ one index l ∷ []) index ≡ firsts names before index
not_one names before index l =
    rw (firsts_of_both names before (one index l ∷ []) index, excluded index index (labels_text names l.labels) (omega arith), append-nil (firsts names before index)) refl

-- Lines from the index `index` on don't change the labels of the instructions before `index`.
firsts_stay : (names : List (List ℕ)) (before : List Placed) (index count : ℕ) (ls : List Line) → count ≤ index
    → firsts names (before ++ placed_from names index ls) count ≡ firsts names before count
firsts_stay names before index count ls up =
    firsts_of_both names before (placed_from names index ls) count ∙ ap (λ more. firsts names before count ++ more) (none_after names index count ls up)
    ∙ append-nil (firsts names before count)

longer : (names : List (List ℕ)) (before : List Placed) (index begin : ℕ) (text : List ℕ) (l : Line) → Reaches names before index begin text
    → (count : ℕ) → index < count → firsts names (before ++ one index l ∷ []) count ≡ text ++ labels_text names l.labels
longer names before index begin text l at = λ count less.
    and_one names before index count l less ∙ ap (λ front. front ++ labels_text names l.labels) (at.all count less)

after_instruction : (names : List (List ℕ)) (before : List Placed) (index begin : ℕ) (text : List ℕ) (l : Line) → Reaches names before index begin text
    → Reaches names (before ++ one index l ∷ []) (index + 1) (length (text ++ labels_text names l.labels)) (text ++ labels_text names l.labels)
after_instruction names before index begin text l at =
    let more = text ++ labels_text names l.labels in
    record {
      inside = omega arith;
      finished = longer names before index begin text l at (index + 1) (omega arith) ∙ sym (take_all (length more) more (omega arith));
      all = λ count less. longer names before index begin text l at count (omega arith);
    }

after_other : (names : List (List ℕ)) (before : List Placed) (index begin : ℕ) (text : List ℕ) (l : Line) → Reaches names before index begin text
    → Reaches names (before ++ one index l ∷ []) index begin (text ++ labels_text names l.labels)
after_other names before index begin text l at =
    let t = labels_text names l.labels in
    let up : begin ≤ length text = at.inside in
    record {
      inside = omega (arith, length-append text t);
      finished = not_one names before index l ∙ at.finished ∙ sym (take-append-le begin text t up);
      all = longer names before index begin text l at;
    }

-- The instructions among `ps`.
abbrev found : List (List ℕ) → List Placed → List Placed
found names ps = filter (λ p. is_instruction names p.line.operation p.line.rest) ps

-- The line of the instruction `p` among the lines `all`.
abbrev row : List (List ℕ) → List Placed → Placed → CellLine
row names all p = record { line = p.line.number; begin = length (firsts names all p.index); end = length (firsts names all (p.index + 1)) }

abbrev AreBuilt : List (List ℕ) → List Line → Type 0
AreBuilt names ls = (before : List Placed) (index begin : ℕ) (text : List ℕ) → Reaches names before index begin text
    → (map (row names (before ++ placed_from names index ls)) (found names (placed_from names index ls)) ≡ lines_on names begin text ls)
    × (firsts names (before ++ placed_from names index ls) (index + length (found names (placed_from names index ls))) ≡ labels_on names begin text ls)

-- The lines `ls` after a line with the index `index`, which is an instruction if `b` is true.
abbrev rest_by : Bool → List (List ℕ) → ℕ → List Line → List Placed
rest_by b names index ls = placed_from names (elim b as (λ _. ℕ) [ true ↦ index + 1 | false ↦ index ]) ls

-- The instructions from the line `l` on, which is an instruction if `b` is true.
abbrev found_by : Bool → List (List ℕ) → ℕ → Line → List Line → List Placed
found_by b names index l ls = cond b (one index l ∷ found names (rest_by b names index ls)) (found names (rest_by b names index ls))

abbrev AreBuiltBy : List (List ℕ) → List Placed → ℕ → ℕ → List ℕ → Line → List Line → Bool → Type 0
AreBuiltBy names before index begin text l ls b =
    (map (row names (before ++ one index l ∷ rest_by b names index ls)) (found_by b names index l ls) ≡ (elim b as (λ _. List CellLine) [
      | true ↦ record { line = l.number; begin = begin; end = length (text ++ labels_text names l.labels) }
          ∷ lines_on names (length (text ++ labels_text names l.labels)) (text ++ labels_text names l.labels) ls
      | false ↦ lines_on names begin (text ++ labels_text names l.labels) ls
    ]))
    × (firsts names (before ++ one index l ∷ rest_by b names index ls) (index + length (found_by b names index l ls)) ≡ (elim b as (λ _. List ℕ) [
      | true ↦ labels_on names (length (text ++ labels_text names l.labels)) (text ++ labels_text names l.labels) ls
      | false ↦ labels_on names begin (text ++ labels_text names l.labels) ls
    ]))

built_by : (b : Bool) (names : List (List ℕ)) (l : Line) (ls : List Line) → AreBuilt names ls
    → (before : List Placed) (index begin : ℕ) (text : List ℕ) → Reaches names before index begin text → AreBuiltBy names before index begin text l ls b
built_by true names l ls inner before index begin text at =
    let p = one index l in
    let rest = placed_from names (index + 1) ls in
    let now = before ++ p ∷ [] in
    let more = text ++ labels_text names l.labels in
    let next = after_instruction names before index begin text l at in
    let split : before ++ p ∷ rest ≡ now ++ rest = sym (append_assoc before (p ∷ []) rest) in
    let later = inner now (index + 1) (length more) more next in
    let up : begin ≤ length text = at.inside in
    let begins : length (firsts names (now ++ rest) index) ≡ begin =
    ap length (firsts_stay names now (index + 1) index ls (omega arith) ∙ not_one names before index l ∙ at.finished) ∙ length-take-le begin text up in
    let ends : length (firsts names (now ++ rest) (index + 1)) ≡ length more =
    ap length (firsts_stay names now (index + 1) (index + 1) ls (omega arith) ∙ longer names before index begin text l at (index + 1) (omega arith)) in
    let count : index + length (p ∷ found names rest) ≡ index + 1 + length (found names rest) = omega arith in (
      ap (λ all. row names all p ∷ map (row names all) (found names rest)) split
          ∙ ap (λ n. record { line = l.number; begin = n; end = length (firsts names (now ++ rest) (index + 1)) } ∷ map (row names (now ++ rest)) (found names rest)) begins
          ∙ ap (λ n. record { line = l.number; begin = begin; end = n } ∷ map (row names (now ++ rest)) (found names rest)) ends
          ∙ ap (λ others. record { line = l.number; begin = begin; end = length more } ∷ others) later.0,
      ap (λ all. firsts names all (index + length (p ∷ found names rest))) split ∙ ap (firsts names (now ++ rest)) count ∙ later.1,
    )
built_by false names l ls inner before index begin text at =
    let p = one index l in
    let rest = placed_from names index ls in
    let now = before ++ p ∷ [] in
    let split : before ++ p ∷ rest ≡ now ++ rest = sym (append_assoc before (p ∷ []) rest) in
    let later = inner now index begin (text ++ labels_text names l.labels) (after_other names before index begin text l at) in
    (ap (λ all. map (row names all) (found names rest)) split ∙ later.0, ap (λ all. firsts names all (index + length (found names rest))) split ∙ later.1)

built : (names : List (List ℕ)) (ls : List Line) → AreBuilt names ls
built names [] before index begin text at =
    let count : index + 0 ≡ index = omega arith in
    (refl, ap (λ all. firsts names all (index + 0)) (append-nil before) ∙ ap (firsts names before) count ∙ at.finished)
built names (l ∷ ls) before index begin text at = built_by (is_instruction names l.operation l.rest) names l ls (built names ls) before index begin text at

-- The lines and labels of a program are the lines and labels that the code builds.
pub lines_are : (source : ProgramValue)
    → program_lines source ≡ record { lines = lines_on source.names 0 [] source.lines; labels = labels_on source.names 0 [] source.lines }
lines_are source =
    let whole = built source.names source.lines [] 0 0 [] (record { inside = omega arith; finished = refl; all = λ count less. refl }) in
    let count : 0 + length (found source.names (placed_from source.names 0 source.lines)) ≡ length (found source.names (placed_from source.names 0 source.lines)) = omega arith in
    let labels = ap (firsts source.names (placed_from source.names 0 source.lines)) (sym count) ∙ whole.1 in
    ap (λ lines. record { lines = lines; labels = firsts source.names (placed_from source.names 0 source.lines) (length (found source.names (placed_from source.names 0 source.lines))) }) whole.0
    ∙ ap (λ text. record { lines = lines_on source.names 0 [] source.lines; labels = text }) labels
