-- The text of a directive, without the whitespace at both ends.
use Rattle.std.proofs.Common.{◌≡◌, ℕ, suc, ◌+◌, ◌-◌, ◌<◌, ◌≤◌, List, [], ◌∷◌, length, drop, get_or, map, min, reverse, take, true, cond, ap, sym, ◌∙◌, arith}
use Rattle.std.proofs.lemmas.List.{reverse-append, take_more, take_min, take-map}
use Rattle.std.specs.List.{prefix_len}
use Rattle.redcode_text.specs.Lines.{printable}
use Rattle.redcode_text.specs.Code.Comments.{printed_value}
use Rattle.redcode_text.specs.Source.{without_blanks}
use Rattle.redcode_text.specs.Tokens.{is_blank}

without-one : (b : ℕ) (bs : List ℕ) → is_blank b ≡ true → without_blanks (b ∷ bs) ≡ without_blanks bs
without-one b bs e =
    let n : cond true (1 + prefix_len is_blank bs) 0 ≡ suc (prefix_len is_blank bs) = omega arith in
    ap (λ t. drop (cond t (1 + prefix_len is_blank bs) 0) (b ∷ bs)) e ∙ ap (λ m. drop m (b ∷ bs)) n

-- A whitespace byte at the end is removed.
pub trim-one : (text : List ℕ) (len : ℕ) → 0 < len → len ≤ length text → is_blank (get_or text (len - 1) 0) ≡ true
    → reverse (without_blanks (reverse (take (len - 1) text))) ≡ reverse (without_blanks (reverse (take len text)))
trim-one text len some within e =
    let n : len - 1 + 1 ≡ len = omega arith in
    let x = get_or text (len - 1) 0 in
    let back : reverse (take len text) ≡ x ∷ reverse (take (len - 1) text) = ap (λ m. reverse (take m text)) (sym n) ∙ ap reverse (take_more text (len - 1) 0 (omega arith)) ∙ reverse-append (take (len - 1) text) (x ∷ []) in
    sym (ap reverse (ap without_blanks back ∙ without-one x (reverse (take (len - 1) text)) e))

-- The value is the printable form of at most 60 bytes of a text.
pub value-is : (text : List ℕ) (n : ℕ) → n ≡ min (length text) 60 → map printable (take n text) ≡ printed_value text
value-is text n m =
    let same : n ≡ min 60 (length text) = omega (arith, m) in
    ap (map printable) (ap (λ k. take k text) same ∙ take_min 60 text) ∙ sym (take-map printable 60 text)
