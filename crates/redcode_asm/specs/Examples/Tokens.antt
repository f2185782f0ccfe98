-- Examples: the token at which a source has its error.
use Rattle.std.specs.Prelude.{◌≡◌, ℕ, ◌-◌, List, [], ◌∷◌, Option, Some, None, Ok, Err, codes, drop, option_map, refl, take}
use Rattle.std.specs.Fmt.{digits}
use Rattle.mars_cell.specs.Grammar.{default_modifier}
use Rattle.mars_cell.specs.Words.{op_of, modifier_of}
use Rattle.redcode_text.specs.declared.token.Span.{Span}
use Rattle.redcode_text.specs.Expansion.{expansion}
use Rattle.redcode_text.specs.Expression.{value_of, tree_within}
use Rattle.redcode_asm.specs.Assembly.{assembly}
use Rattle.redcode_asm.specs.Examples.Warriors.{parameters, text}

-- The bytes of the token of the error in a source with the lines `ls`.
abbrev pub token : List (List ℕ) → Option Span
unfolding assembly
token ls = elim (assembly (parameters 8000) 2 3 (text ls)) [ Ok w ↦ None | Err e ↦ e.token ]

-- The text of the token of the error in a source with the lines `ls`.
abbrev pub word : List (List ℕ) → Option (List ℕ)
word ls = option_map (λ span. take (span.to - span.from) (drop span.from (text ls))) (token ls)

abbrev pub at : ℕ → ℕ → Option Span
at from to = Some (record { from = from; to = to })

-- An unknown opcode has its word, also if it was read as a label, or else the first token. An unknown modifier has its
-- word, or the dot before it.
pub words_of_operations :
    (word (codes "STP 1, 2" ∷ []) ≡ Some (codes "STP"))
    × (word (codes "here MVO 1, 2" ∷ []) ≡ Some (codes "MVO"))
    × (word (codes "5 NOP" ∷ []) ≡ Some (codes "5"))
    × (word (codes "MOV.Q 1, 2" ∷ []) ≡ Some (codes "Q"))
    × (word (codes "MOV." ∷ []) ≡ Some (codes "."))
unfolding assembly expansion value_of tree_within digits default_modifier op_of modifier_of
words_of_operations = (refl, refl, refl, refl, refl)

-- An error of the operands has the second comma, or else the first one, or else the opcode.
pub words_of_operands :
    (token (codes "JMP" ∷ []) ≡ at 0 3)
    × (token (codes "NOP 1," ∷ []) ≡ at 5 6)
    × (token (codes "NOP ,1" ∷ []) ≡ at 4 5)
    × (token (codes "NOP ,1," ∷ []) ≡ at 6 7)
    × (token (codes "NOP 1, 2, 3" ∷ []) ≡ at 8 9)
unfolding assembly expansion value_of tree_within digits default_modifier op_of modifier_of
words_of_operands = (refl, refl, refl, refl, refl)

-- An error of an expression has the token that does not fit, or the last token, or the mode or operation before an
-- empty expression. An unknown name has its word, and a wrong value the first token of the expression.
pub words_of_expressions :
    (token (codes "NOP 3 + + 3 3" ∷ []) ≡ at 12 13)
    × (token (codes "NOP 3 +, 3" ∷ []) ≡ at 6 7)
    × (word (codes "NOP 1, #" ∷ []) ≡ Some (codes "#"))
    × (word (codes "NOP 1, 2+x+y" ∷ []) ≡ Some (codes "x"))
    × (token (codes "NOP 2, 1*(3/0)" ∷ []) ≡ at 7 8)
    × (word (codes "NOP" ∷ codes "ORG" ∷ []) ≡ Some (codes "ORG"))
    × (word (codes "NOP" ∷ codes "END 1+1" ∷ []) ≡ Some (codes "1"))
    × (word (codes "NOP" ∷ codes ";assert 5-5" ∷ []) ≡ Some (codes "5"))
unfolding assembly expansion value_of tree_within digits default_modifier op_of modifier_of
words_of_expressions = (refl, refl, refl, refl, refl, refl, refl, refl)

-- A token that comes from EQU has its bytes in the definition, and a token of a loop has its bytes in the loop.
pub words_of_definitions :
    (token (codes "x EQU 1+y" ∷ codes "NOP 7, x" ∷ []) ≡ at 8 9)
    × (token (codes "x EQU NOP" ∷ codes " EQU JMP" ∷ codes "x" ∷ []) ≡ at 15 18)
    × (token (codes "i FOR 2" ∷ codes "NOP y&i" ∷ codes "ROF" ∷ []) ≡ at 12 15)
unfolding assembly expansion value_of tree_within digits default_modifier op_of modifier_of
words_of_definitions = (refl, refl, refl)

-- TooLong has the first instruction beyond the maximum length, and Empty has no token. An error of the text has the
-- token of the text.
pub words_of_sources :
    (token (codes "NOP" ∷ codes "NOP" ∷ codes "NOP" ∷ codes "NOP" ∷ codes "a NOP" ∷ codes "NOP" ∷ []) ≡ at 18 21)
    × (token ([] ∷ []) ≡ None)
    × (token (codes "NOP 1x" ∷ []) ≡ at 4 6)
    × (token (codes "x EQU 1-x" ∷ codes "NOP 1+x" ∷ []) ≡ at 8 9)
unfolding assembly expansion value_of tree_within digits default_modifier op_of modifier_of
words_of_sources = (refl, refl, refl, refl)
