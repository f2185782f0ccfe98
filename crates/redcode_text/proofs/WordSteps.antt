-- The length of a word, one byte at a time, and the bytes of a word are ASCII.
use Rattle.std.proofs.Common.{◌≡◌, ℕ, ◌+◌, ◌<◌, List, [], ◌∷◌, length, drop, Bool, true, false, refl, ap, ◌∙◌, arith, length-drop, drop-drop, ◌≤◌, take, IsAscii, add-one}
use Rattle.std.proofs.lemmas.Bool.Decides.{nat_tests}
use Rattle.std.proofs.lemmas.Str.Ascii.{IsAscii-nil, IsAscii-cons}
use Rattle.redcode_text.specs.Tokens.{word_len, begins_word}

pub word_len-more : (bs : List ℕ) → begins_word bs ≡ true → (0 < length bs) × (word_len bs ≡ word_len (drop 1 bs) + 1)
word_len-more [] e = cc
word_len-more (b ∷ bs) e = (omega arith, ap (λ (t : Bool). elim t as (λ _. ℕ) [ true ↦ word_len bs + 1 | false ↦ 0 ]) e)

pub word_len-none : (bs : List ℕ) → begins_word bs ≡ false → word_len bs ≡ 0
word_len-none [] e = refl
word_len-none (b ∷ bs) e = ap (λ (t : Bool). elim t as (λ _. ℕ) [ true ↦ word_len bs + 1 | false ↦ 0 ]) e

-- If a word begins at the offset `n`, its length is one more than the length of the word at the next offset.
pub word_len-drop : (bs : List ℕ) (n : ℕ) → begins_word (drop n bs) ≡ true → (n < length bs) × (word_len (drop n bs) ≡ word_len (drop (n + 1) bs) + 1)
word_len-drop bs n e =
    let m = word_len-more (drop n bs) e in
    (omega (arith, m.0, length-drop n bs), m.1 ∙ ap (λ l. word_len l + 1) (drop-drop 1 n bs))

pub word_len-some : (bs : List ℕ) → begins_word bs ≡ true → 1 ≤ word_len bs
word_len-some bs e = omega (arith, (word_len-more bs e).1)

byte-ascii : (b : ℕ) (bs : List ℕ) → begins_word (b ∷ bs) ≡ true → b < 128
byte-ascii b bs e = grind (arith, nat_tests)

pub word-ascii : (bs : List ℕ) → IsAscii (take (word_len bs) bs)
word-ascii [] = IsAscii-nil
word-ascii (b ∷ bs) = go (begins_word (b ∷ bs)) (λ e. byte-ascii b bs e) (word-ascii bs)
  where
    go : (t : Bool) → (t ≡ true → b < 128) → IsAscii (take (word_len bs) bs) → IsAscii (take (elim t as (λ _. ℕ) [ true ↦ word_len bs + 1 | false ↦ 0 ]) (b ∷ bs))
    go true small h = rw add-one (IsAscii-cons b (take (word_len bs) bs) (small refl) h)
    go false small h = IsAscii-nil
