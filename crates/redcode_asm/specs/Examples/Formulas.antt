-- Examples: score formulas and their values.
use Rattle.std.specs.Prelude.{◌≡◌, ◌++◌, ℕ, List, ℤ, pos, Result, Ok, Err, codes, replicate, refl}
use Rattle.redcode_text.specs.declared.fault.ExprFault.{ExprFault}
use Rattle.redcode_text.specs.declared.fault.ExprFault.TheVariants.{Syntax, Unknown, DivideByZero, Range}
use Rattle.redcode_text.specs.Expression.{value_of, tree_within}
use Rattle.redcode_text.specs.Tokens.{scanned}
use Rattle.redcode_asm.specs.Formula.{formula_of, score_of}

-- The value of the formula `t` for `w` warriors and `s` survivors.
abbrev pub scored : List ℕ → ℕ → ℕ → Result ℤ ExprFault
scored t w s = elim (formula_of t) [ Ok f ↦ score_of f (pos w) (pos s) | Err e ↦ Err e ]

-- The default formula, and formulas without a value.
pub row_scores :
    (scored (codes "(W*W-1)/S") 2 1 ≡ Ok (pos 3))
    × (scored (codes "(W*W-1)/S") 2 2 ≡ Ok (pos 1))
    × (scored (codes "(W*W-1)/S") 3 1 ≡ Ok (pos 8))
    × (scored (codes "(W*W-1)/S") 3 2 ≡ Ok (pos 4))
    × (scored (codes "(W*W-1)/S") 3 3 ≡ Ok (pos 2))
    × (scored (codes "1/(S-2)") 2 2 ≡ Err DivideByZero)
    × (scored (codes "9223372036854775807+W") 1 1 ≡ Err Range)
unfolding scanned value_of tree_within
row_scores = (refl, refl, refl, refl, refl, refl, refl)

-- Texts that are not formulas.
pub row_no_formulas :
    (scored (codes "1+") 2 1 ≡ Err Syntax)
    × (scored (codes "") 2 1 ≡ Err Syntax)
    × (scored (codes "W;") 2 1 ≡ Err Syntax)
    × (scored (codes "x+") 2 1 ≡ Err Syntax)
    × (scored (codes "x+1") 2 1 ≡ Err Unknown)
    × (scored (codes "w") 2 1 ≡ Err Unknown)
unfolding scanned value_of tree_within
row_no_formulas = (refl, refl, refl, refl, refl, refl)

-- Only the names W and S, in upper case, are allowed, and a text has at most 256 bytes.
pub texts_are_checked :
    (formula_of (codes "w") ≡ Err Unknown)
    × (formula_of (codes "S+s") ≡ Err Unknown)
    × (scored (replicate 255 32 ++ codes "7") 2 1 ≡ Ok (pos 7))
    × (scored (replicate 256 32 ++ codes "7") 2 1 ≡ Err Syntax)
unfolding scanned value_of tree_within
texts_are_checked = (refl, refl, refl, refl)
