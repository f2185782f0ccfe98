-- Examples: the tokens at which texts have their errors.
use Rattle.std.specs.Prelude.{◌≡◌, ℕ, ◌-◌, List, [], ◌∷◌, ◌++◌, drop, take, Option, None, Some, Ok, Err, codes, option_map, replicate, refl}
use Rattle.std.specs.Fmt.{digits}
use Rattle.redcode_text.specs.declared.token.Span.{Span}
use Rattle.redcode_text.specs.Expression.{value_of, tree_within}
use Rattle.redcode_text.specs.Expansion.{expansion}
use Rattle.redcode_text.specs.Tokens.{tokens}
use Rattle.redcode_text.specs.Examples.Expansion.{predefined, text}

-- The bytes of the token of the error in a source with the lines `ls`.
abbrev pub token : List (List ℕ) → Option Span
unfolding expansion
token ls = elim (expansion predefined (text ls)) [ Ok st ↦ None | Err e ↦ e.token ]

-- The text of the token of the error in a source with the lines `ls`.
abbrev pub word : List (List ℕ) → Option (List ℕ)
word ls = option_map (λ span. take (span.to - span.from) (drop span.from (text ls))) (token ls)

abbrev pub at : ℕ → ℕ → Option Span
at from to = Some (record { from = from; to = to })

-- An error in the bytes of a text has one byte, or a whole word.
pub words_of_texts :
    (token ((97 ∷ 32 ∷ 200 ∷ 200 ∷ []) ∷ []) ≡ at 2 3)
    × (token (codes "NOP" ∷ codes " ?? 1" ∷ []) ≡ at 5 6)
    × (word (codes "NOP 12ab + 1" ∷ []) ≡ Some (codes "12ab"))
    × (word (codes "NOP x&i+1" ∷ []) ≡ Some (codes "x&i"))
    × (word (codes "NOP 9223372036854775808" ∷ []) ≡ Some (codes "9223372036854775808"))
unfolding expansion value_of tree_within digits
words_of_texts = (refl, refl, refl, refl, refl)

-- The token beyond the maximum number of tokens.
pub tokens_beyond : elim (tokens [] 1 7 1 [] (codes "a bc d")) [ Ok s ↦ None | Err e ↦ e.token ] ≡ at 9 11
unfolding digits
tokens_beyond = refl

-- An error of a loop has the word FOR or ROF, also after a counter.
pub words_of_loops :
    (token (codes "NOP" ∷ codes " i: for 2" ∷ []) ≡ at 8 11)
    × (token (codes "NOP" ∷ codes " Rof" ∷ []) ≡ at 5 8)
    × (word (replicate 32 (codes "FOR 1") ++ codes "i FOR 1" ∷ replicate 33 (codes "ROF")) ≡ Some (codes "FOR"))
unfolding expansion value_of tree_within digits
words_of_loops = (refl, refl, refl)

-- An error before FOR or EQU has the first token that is not allowed there, or the word EQU if the line continues no
-- definition.
pub words_in_front :
    (token (codes "5 FOR 1" ∷ codes "ROF" ∷ []) ≡ at 0 1)
    × (token (codes "i FOR 1" ∷ codes "i FOR 1" ∷ codes "ROF" ∷ codes "ROF" ∷ []) ≡ at 8 9)
    × (token (codes ": EQU 2" ∷ []) ≡ at 0 1)
    × (token (codes "NOP" ∷ codes " EQU 1" ∷ []) ≡ at 5 8)
unfolding expansion value_of tree_within digits
words_in_front = (refl, refl, refl, refl)

-- An error of a count has the first token of the count, the first name that is a label, or the token of the
-- expression's error. The token may be in a definition. A count without tokens has the word FOR.
pub words_of_counts :
    (token (codes "FOR -1" ∷ codes "ROF" ∷ []) ≡ at 4 5)
    × (token (codes "n EQU 5-9" ∷ codes "FOR n" ∷ codes "ROF" ∷ []) ≡ at 6 7)
    × (word (codes "FOR 2+CORESIZE+lab+b" ∷ codes "ROF" ∷ []) ≡ Some (codes "lab"))
    × (token (codes "FOR 1 + * 2" ∷ codes "ROF" ∷ []) ≡ at 8 9)
    × (token (codes "FOR 2+1/0" ∷ codes "ROF" ∷ []) ≡ at 4 5)
    × (token (codes "i FOR" ∷ codes "ROF" ∷ []) ≡ at 2 5)
unfolding expansion value_of tree_within digits
words_of_counts = (refl, refl, refl, refl, refl, refl)

-- An error of names has the second of two equal names, or the name that is nested too deep or has several lines, which
-- may be in a definition.
pub words_of_names :
    (token (codes "a NOP" ∷ codes "b a NOP" ∷ []) ≡ at 8 9)
    × (token (codes "a NOP" ∷ codes "a EQU 1" ∷ []) ≡ at 6 7)
    × (token (codes "x EQU x" ∷ codes "a x 1" ∷ []) ≡ at 6 7)
    × (token (codes "x EQU 1-x" ∷ codes "FOR 2+x" ∷ codes "ROF" ∷ []) ≡ at 8 9)
    × (token (codes "n EQU 2" ∷ codes " EQU 3" ∷ codes "FOR n" ∷ codes "ROF" ∷ []) ≡ at 19 20)
unfolding expansion value_of tree_within digits
words_of_names = (refl, refl, refl, refl, refl)
