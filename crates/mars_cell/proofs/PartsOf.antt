-- The parts of a line, one by one.
use Rattle.std.proofs.Common.{◌≡◌, refl, ℕ, ◌+◌, true, false, List, [], ◌∷◌, length, take, drop, sym, ap, ◌∙◌, arith, add-one, one-add}
use Rattle.std.specs.List.{take_while}
use Rattle.std.specs.Char.{is_ascii_alphanumeric}
use Rattle.mars_cell.specs.Parts.{begins_word, is_blank, joins, onto_first, parts}

-- Whitespace at the front of a line does not change its parts.
pub parts-blanks : (xs : List ℕ) → parts xs ≡ parts (drop (length (take_while is_blank xs)) xs)
unfolding parts
parts-blanks [] = refl
parts-blanks (b ∷ bs) =
    elim (is_blank b) as (λ t. is_blank b ≡ t → parts (b ∷ bs) ≡ parts (drop (length (take_while is_blank (b ∷ bs))) (b ∷ bs))) [
      | true ↦ λ e. rw (e, one-add) (parts-blanks bs)
      | false ↦ λ e. rw e (rw e refl)
    ] refl

pub no_blank : (xs : List ℕ) (b : ℕ) (bs : List ℕ) → drop (length (take_while is_blank xs)) xs ≡ b ∷ bs → is_blank b ≡ false
no_blank [] b bs = λ h. cc
no_blank (x ∷ xs) b bs =
    elim (is_blank x) as (λ t. is_blank x ≡ t → drop (length (take_while is_blank (x ∷ xs))) (x ∷ xs) ≡ b ∷ bs → is_blank b ≡ false) [
      | true ↦ λ e h. no_blank xs b bs (rw (e, one-add) at h)
      | false ↦ λ e h. let same : x ≡ b = cc (rw e at h) in rw (← same) e
    ] refl

word_bytes_join : (b : ℕ) → is_ascii_alphanumeric b ≡ true → joins b ≡ true
unfolding joins
word_bytes_join b e = rw e refl

word_bytes_show : (b : ℕ) → is_ascii_alphanumeric b ≡ true → is_blank b ≡ false
word_bytes_show b e = grind arith

-- A byte that joins forms one part with the letters and digits after it.
pub parts-joined : (bs : List ℕ) (b : ℕ) → is_blank b ≡ false → joins b ≡ true
    → parts (b ∷ bs) ≡ (b ∷ take_while is_ascii_alphanumeric bs) ∷ parts (drop (length (take_while is_ascii_alphanumeric bs)) bs)
unfolding parts begins_word
parts-joined [] b shows joining = rw (shows, joining) refl
parts-joined (c ∷ cs) b shows joining =
    elim (is_ascii_alphanumeric c) as (λ t. is_ascii_alphanumeric c ≡ t → parts (b ∷ c ∷ cs) ≡ (b ∷ take_while is_ascii_alphanumeric (c ∷ cs)) ∷ parts (drop (length (take_while is_ascii_alphanumeric (c ∷ cs))) (c ∷ cs))) [
      | true ↦ λ e. rw (shows, joining, e, one-add) (ap (onto_first b) (parts-joined cs c (word_bytes_show c e) (word_bytes_join c e)))
      | false ↦ λ e. rw (shows, joining, e) refl
    ] refl

-- A byte that does not join is a part of its own.
pub parts-single : (b : ℕ) (bs : List ℕ) → is_blank b ≡ false → joins b ≡ false → parts (b ∷ bs) ≡ (b ∷ []) ∷ parts bs
unfolding parts
parts-single b bs shows alone = rw (shows, alone) refl

-- The longest prefix of letters and digits is given by its length.
take_prefix : (xs : List ℕ) → take (length (take_while is_ascii_alphanumeric xs)) xs ≡ take_while is_ascii_alphanumeric xs
take_prefix [] = refl
take_prefix (x ∷ xs) =
    elim (is_ascii_alphanumeric x) as (λ t. is_ascii_alphanumeric x ≡ t → take (length (take_while is_ascii_alphanumeric (x ∷ xs))) (x ∷ xs) ≡ take_while is_ascii_alphanumeric (x ∷ xs)) [
      | true ↦ λ e. rw (e, one-add) (ap (λ w. x ∷ w) (take_prefix xs))
      | false ↦ λ e. rw e refl
    ] refl

-- ---- The first part of a line

pub parts-end : (line rest : List ℕ) → rest ≡ drop (length (take_while is_blank line)) line → length rest ≡ 0 → parts line ≡ []
unfolding parts
parts-end line [] e h = parts-blanks line ∙ rw (← e) refl
parts-end line (b ∷ bs) e h = cc

pub part_joined : (line : List ℕ) (b : ℕ) (bs : List ℕ) → drop (length (take_while is_blank line)) line ≡ b ∷ bs → joins b ≡ true
    → parts line ≡ take (length (take_while is_ascii_alphanumeric bs) + 1) (b ∷ bs) ∷ parts (drop (length (take_while is_ascii_alphanumeric bs) + 1) (b ∷ bs))
part_joined line b bs e joining =
    let n = length (take_while is_ascii_alphanumeric bs) in
    rw add-one (parts-blanks line ∙ ap parts e ∙ parts-joined bs b (no_blank line b bs e) joining ∙ ap (λ w. (b ∷ w) ∷ parts (drop n bs)) (sym (take_prefix bs)))

pub part_single : (line : List ℕ) (b : ℕ) (bs : List ℕ) → drop (length (take_while is_blank line)) line ≡ b ∷ bs → joins b ≡ false
    → parts line ≡ take 1 (b ∷ bs) ∷ parts (drop 1 (b ∷ bs))
part_single line b bs e alone = parts-blanks line ∙ ap parts e ∙ parts-single b bs (no_blank line b bs e) alone
