-- The pairs of FOR and ROF, one row at a time.
use Rattle.std.proofs.Common.{◌≡◌, ℕ, suc, ◌+◌, ◌<◌, List, [], ◌∷◌, length, get_or, refl, ap, sym, ◌∙◌, arith, add-one}
use Rattle.std.proofs.Math.Seq.{drop-cons}
use Rattle.redcode_text.specs.declared.source.row.SourceRow as code
use Rattle.redcode_text.specs.Code.Rows.{row_of}
use Rattle.redcode_text.specs.Code.Pairs.{paired_from, here_from, EndsAt}
use Rattle.redcode_text.specs.Source.{SourceRow, LineKind, RofLine, ForLine, EquLine, OtherLine, line_kind, Items, Nothing, Loop, Pairing, opened, paired_with}

pub paired-drop : (rows : List code.SourceRow) (i : ℕ) (d : code.SourceRow) (kind : LineKind) → i < length rows → kind ≡ line_kind (row_of (get_or rows i d)).bytes
    → paired_from rows i ≡ paired_with kind (row_of (get_or rows i d)) (paired_from rows (i + 1))
paired-drop rows i d kind h is = rw (drop-cons rows i d h, add-one) (ap (λ k. paired_with k (row_of (get_or rows i d)) (paired_from rows (suc i))) (sym is))

rof-first : (kind : LineKind) (r : SourceRow) (p : Pairing) → (paired_with kind r p).here ≡ Nothing → (paired_with kind r p).waiting ≡ (r, p.here) ∷ p.waiting
rof-first (ForLine at) r p e = go p.here p.waiting e
  where
    go : (here : Items) (waiting : List (SourceRow × Items)) → (opened r here waiting).here ≡ Nothing → (opened r here waiting).waiting ≡ (r, here) ∷ waiting
    go here [] e = cc
    go here (rof ∷ waiting) e = cc
rof-first RofLine r p e = refl
rof-first (EquLine at) r p e = cc
rof-first OtherLine r p e = cc

pub rof-at : (rows : List code.SourceRow) (j : ℕ) (d : code.SourceRow) → j < length rows → here_from rows j ≡ Nothing
    → (paired_from rows j).waiting ≡ (row_of (get_or rows j d), here_from rows (j + 1)) ∷ (paired_from rows (j + 1)).waiting
rof-at rows j d h e =
    let s = paired-drop rows j d _ h refl in
    ap (λ p. p.waiting) s ∙ rof-first (line_kind (row_of (get_or rows j d)).bytes) (row_of (get_or rows j d)) (paired_from rows (j + 1)) (ap (λ p. p.here) (sym s) ∙ e)

-- A FOR whose items end at a ROF opens a loop.
pub for-at : (rows : List code.SourceRow) (i j at : ℕ) (d : code.SourceRow) → i < length rows → j < length rows → ForLine at ≡ line_kind (row_of (get_or rows i d)).bytes → EndsAt rows (i + 1) j
    → paired_from rows i ≡ record { here = Loop (row_of (get_or rows i d)) (here_from rows (i + 1)) (row_of (get_or rows j d)) (here_from rows (j + 1)); waiting = (paired_from rows (j + 1)).waiting }
for-at rows i j at d hi hj row ends =
    paired-drop rows i d (ForLine at) hi row
    ∙ ap (opened (row_of (get_or rows i d)) (here_from rows (i + 1))) (ends.waiting ∙ rof-at rows j d hj ends.at_end)

-- ---- Where items end

pub ends-rof : (rows : List code.SourceRow) (i : ℕ) (d : code.SourceRow) → i < length rows → RofLine ≡ line_kind (row_of (get_or rows i d)).bytes → EndsAt rows i i
ends-rof rows i d h row = record { from = omega arith; within = omega arith; at_end = ap (λ p. p.here) (paired-drop rows i d RofLine h row); waiting = refl }

pub ends-for : (rows : List code.SourceRow) (i j k at : ℕ) (d : code.SourceRow) → i < length rows → j < length rows → ForLine at ≡ line_kind (row_of (get_or rows i d)).bytes → EndsAt rows (i + 1) j → EndsAt rows (j + 1) k → EndsAt rows i k
ends-for rows i j k at d hi hj row e f = record { from = omega (arith, e.from, f.from); within = f.within; at_end = f.at_end; waiting = ap (λ p. p.waiting) (for-at rows i j at d hi hj row e) ∙ f.waiting }
