-- The evaluation with a stack gives an expression its value.
use Rattle.std.proofs.Common.{◌≡◌, ℕ, List, [], length, Option, ℤ, Ok, Err, ap, sym, subst, ◌∙◌, append-nil, arith}
use Rattle.redcode_text.specs.Results.{◌>>=◌}
use Rattle.redcode_text.specs.declared.token.TokenKind.{TokenKind}
use Rattle.redcode_text.specs.declared.fault.ExprFault.{ExprFault}
use Rattle.redcode_text.specs.Expression.{shape, start, value, value_of, tree_within}
use Rattle.redcode_text.specs.Code.Climbing.{wants, run}
use Rattle.redcode_text.specs.Trees.{spelling}
use Rattle.redcode_text.proofs.Trees.{rank-≤5}
use Rattle.redcode_text.proofs.Shapes.{shaped}
use Rattle.redcode_text.proofs.Splits.{tree-spelled}
use Rattle.redcode_text.proofs.Climbs.{climbs, fits, unit}

pub evaluates : (names : ℕ → Option ℤ) (xs : List TokenKind) (v : ℤ) → shape start xs ≡ Ok tt → run names (wants v [] []) xs ≡ value_of names xs
unfolding value_of
evaluates names xs v h =
    let t = shaped xs h in
    let tree_is : tree_within (length xs) 5 xs ≡ t.tree =
    subst (λ l. tree_within (length l) 5 l ≡ t.tree) t.spelled (tree-spelled t.tree (length (spelling t.tree)) 5 t.levelled (omega arith) (rank-≤5 t.tree)) in
    ap (run names (wants v [] [])) (sym t.spelled ∙ sym (append-nil (spelling t.tree)))
    ∙ climbs names t.tree v [] [] [] t.levelled (fits t.tree [] [] tt tt)
    ∙ unit (value names t.tree)
    ∙ ap (value names) (sym tree_is)
    ∙ sym (ap (λ r. r >>= λ _. value names (tree_within (length xs) 5 xs)) h)

-- An error of the shape is the error of the expression.
pub value_of-misshapen : (names : ℕ → Option ℤ) (xs : List TokenKind) (f : ExprFault) → shape start xs ≡ Err f → value_of names xs ≡ Err f
unfolding value_of
value_of-misshapen names xs f h = ap (λ r. r >>= λ _. value names (tree_within (length xs) 5 xs)) h
