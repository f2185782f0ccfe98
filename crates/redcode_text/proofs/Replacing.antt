-- An EQU name is replaced by the line of its definition, in which names are replaced one level deeper.
use Rattle.std.proofs.Common.{◌≡◌, ℕ, zero, suc, ◌-◌, List, Ok, refl, arith}
use Rattle.redcode_text.specs.declared.token.Token.{Token}
use Rattle.redcode_text.specs.Equates.{Equate, Replaced, one_line, one_more, replaced_name, replacing, each_replaced}

pub replaced-deeper : (equates : List Equate) (depth : ℕ) (r s : Replaced) (t : Token) (lines : List (List Token)) (line : List Token)
    → ¬ (depth ≡ 0) → one_line t lines ≡ Ok line → one_more t r ≡ Ok s
    → replaced_name (replacing depth equates) r t lines ≡ each_replaced equates (replacing (depth - 1) equates) s line
replaced-deeper equates zero r s t lines line positive a b = absurd (positive refl)
replaced-deeper equates (suc depth) r s t lines line positive a b = let e : suc depth - 1 ≡ depth = omega arith in rw (a, b, e) refl
