-- The rows of a source are inside the source.
use Rattle.std.proofs.Common.{◌≡◌, ◌∙◌, ℕ, suc, ◌+◌, ◌<◌, ◌≤◌, ◌^◌, List, [], ◌∷◌, length, map, Bool, true, false, ◌==◌, ap, subst, sym, arith}
use Rattle.std.proofs.lemmas.List.Elements.{All-cons, All-get_or, All-nil}
use Rattle.std.specs.List.{All, list_any, onto_first}
use Rattle.std.specs.Prelude.{⊤}
use Rattle.redcode_text.specs.declared.source.row.SourceRow as code
use Rattle.redcode_text.specs.Code.Loops.{RowsFit}
use Rattle.redcode_text.specs.Code.Rows.{row_of}
use Rattle.redcode_text.specs.Source.{SourceRow, begins_redcode, from_redcode, lines_of, read_rows, rows_from, rows_of}

-- Each row ends at `limit` or before.
abbrev Within : ℕ → List SourceRow → Type 0
Within limit [] = ⊤
Within limit (row ∷ rows) = (row.at + length row.bytes ≤ limit) × Within limit rows

within-onto : (limit number at b : ℕ) (ls : List (List ℕ)) → at + 1 ≤ limit → Within limit (rows_from number (at + 1) ls) → Within limit (rows_from number at (onto_first b ls))
within-onto limit number at b [] room h = (room, tt)
within-onto limit number at b (l ∷ ls) room h =
    let next : at + 1 + length l + 1 ≡ at + suc (length l) + 1 = omega arith in
    (let here = h.0 in omega (arith, here), subst (λ n. Within limit (rows_from (number + 1) n ls)) next h.1)

within-from : (limit number at : ℕ) (bs : List ℕ) → at + length bs ≤ limit → Within limit (rows_from number at (lines_of bs))
within-from limit number at [] room = tt
within-from limit number at (b ∷ bs) room =
    go (b == 10) (within-from limit (number + 1) (at + 0 + 1) bs (omega (arith, room))) (within-from limit number (at + 1) bs (omega (arith, room)))
  where
    go : (t : Bool) → Within limit (rows_from (number + 1) (at + 0 + 1) (lines_of bs)) → Within limit (rows_from number (at + 1) (lines_of bs))
        → Within limit (rows_from number at (elim t as (λ _. List (List ℕ)) [ true ↦ [] ∷ lines_of bs | false ↦ onto_first b (lines_of bs) ]))
    go true next here = (omega (arith, room), next)
    go false next here = within-onto limit number at b (lines_of bs) (omega (arith, room)) here

within-redcode : (limit : ℕ) (rows : List SourceRow) → Within limit rows → Within limit (from_redcode rows)
within-redcode limit [] h = tt
within-redcode limit (row ∷ rows) h = go (begins_redcode row) (within-redcode limit rows h.1)
  where
    go : (t : Bool) → Within limit (from_redcode rows) → Within limit (elim t as (λ _. List SourceRow) [ true ↦ row ∷ rows | false ↦ from_redcode rows ])
    go true later = h
    go false later = later

within-read : (limit : ℕ) (rows : List SourceRow) → Within limit rows → Within limit (read_rows rows)
within-read limit rows h = go (list_any begins_redcode rows)
  where
    go : (t : Bool) → Within limit (elim t as (λ _. List SourceRow) [ true ↦ from_redcode rows | false ↦ rows ])
    go true = within-redcode limit rows h
    go false = h

-- The code's rows end at `limit` or before.
held-within : (limit : ℕ) (rows : List code.SourceRow) → Within limit (map row_of rows) → All (λ row. row.at + length row.bytes.now ≤ limit) rows
held-within limit [] h = All-nil (λ row. row.at + length row.bytes.now ≤ limit)
held-within limit (row ∷ rows) h = All-cons (λ row. row.at + length row.bytes.now ≤ limit) row rows h.0 (held-within limit rows h.1)

pub rows_fit : (source : List ℕ) (all rows : List code.SourceRow) → length source < 2 ^ 64 → map row_of all ≡ rows_of source → map row_of rows ≡ read_rows (map row_of all) → RowsFit rows
rows_fit source all rows few e f i d inside =
    let within : Within (length source) (map row_of rows) = subst (Within (length source)) (sym (f ∙ ap read_rows e)) (within-read (length source) (rows_of source) (within-from (length source) 1 0 source (omega arith))) in
    let here = All-get_or (λ row. row.at + length row.bytes.now ≤ length source) rows i d inside (held-within (length source) rows within) in
    omega (arith, here, few)
