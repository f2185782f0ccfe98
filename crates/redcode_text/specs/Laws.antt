-- Laws of sources and of expressions: lines and loop bodies without effect, and the shapes and trees of expressions.
use Rattle.std.specs.Prelude.{◌≡◌, ◌⊎◌, ℕ, pos, List, [], ◌∷◌, ◌++◌, length, Bool, false, true, Ok, Err, IfOk, codes}
use Rattle.std.specs.List.{list_any}
use Rattle.redcode_text.specs.declared.token.TokenKind.{TokenKind}
use Rattle.redcode_text.specs.declared.token.TokenKind.TheVariants.{Number}
use Rattle.redcode_text.specs.declared.token.TokenKind.TheVariants as token
use Rattle.redcode_text.specs.declared.token.Sign.TheVariants.{Plus, Minus, Bang, OpenParen}
use Rattle.redcode_text.specs.declared.fault.ExprFault.{ExprFault}
use Rattle.redcode_text.specs.declared.fault.ExprFault.TheVariants.{Syntax, Depth}
use Rattle.redcode_text.specs.Expression.{Tree, shape, start, tree_within}
use Rattle.redcode_text.specs.Trees.{IsLevelled, IsWithin, spelling}
use Rattle.redcode_text.specs.Source.{SourceRow, Items, Loop, begins_redcode, has_directive, lines_of, read_rows, tree_of, tree_of_rows}
use Rattle.redcode_text.specs.Lines.{Reading, Predefined}
use Rattle.redcode_text.specs.Expansion.{Head, expansion, flat, head_line, nothing_read}

-- Lines before the first `;redcode` have no effect.
abbrev pub LinesBeforeRedcodeAreIgnored : Type 0
LinesBeforeRedcodeAreIgnored = (before rows : List SourceRow) → list_any begins_redcode before ≡ false → list_any begins_redcode rows ≡ true
    → tree_of_rows (read_rows (before ++ rows)) ≡ tree_of_rows (read_rows rows)

-- The lines `behind` after END have no effect, unless one of them begins with `;redcode`, since the lines before the
-- first `;redcode` are not read. `source` is a source that reads up to an END, and 10 (LF) ends its last line.
abbrev pub LinesAfterEndAreIgnored : Type 0
LinesAfterEndAreIgnored = (ps : Predefined) (source behind : List ℕ) (read : Reading)
    → flat ps (tree_of (source ++ 10 ∷ [])) nothing_read ≡ Ok read → read.ended ≡ true → list_any (has_directive (codes "redcode")) (lines_of behind) ≡ false
    → expansion ps (source ++ 10 ∷ behind) ≡ expansion ps (source ++ 10 ∷ [])

-- The body of a loop with no iterations has no effect: replacing it by another body changes nothing. Both bodies are given
-- as items, since a FOR without its ROF, or a ROF without its FOR, would change which lines are the body.
abbrev pub ZeroIterationBodiesAreIgnored : Type 0
ZeroIterationBodiesAreIgnored = (ps : Predefined) (head rof : SourceRow) (body other rest : Items) (st : Reading)
    → IfOk (head_line ps head st) (λ (h : Head). h.count ≡ 0)
    → flat ps (Loop head body rof rest) st ≡ flat ps (Loop head other rof rest) st

-- ---- The shape of an expression

-- Tokens with a valid shape are the spelling of their tree. Nothing is missing in the tree, its operators are arranged by
-- precedence, and its unary operators and parentheses are within their limits.
abbrev pub ShapesAreTrees : Type 0
ShapesAreTrees = (xs : List TokenKind) → shape start xs ≡ Ok tt →
    let tree = tree_within (length xs) 5 xs in
    (spelling tree ≡ xs) × IsLevelled tree × IsWithin 0 0 tree

-- If a tree is arranged by precedence and within the limits, its spelling has a valid shape, whose tree is this tree.
abbrev pub TreesHaveShapes : Type 0
TreesHaveShapes = (tree : Tree) → IsLevelled tree → IsWithin 0 0 tree →
    let xs = spelling tree in
    (shape start xs ≡ Ok tt) × (tree_within (length xs) 5 xs ≡ tree)

-- The tokens `xs` can be continued to an expression.
abbrev pub IsBegun : List TokenKind → Type 0
IsBegun xs = (rest : List TokenKind) × (shape start (xs ++ rest) ≡ Ok tt)

-- The token may begin an operand: it is +, -, ! or (.
abbrev pub leads_operand : TokenKind → Bool
leads_operand (token.Sign Plus) = true
leads_operand (token.Sign Minus) = true
leads_operand (token.Sign Bang) = true
leads_operand (token.Sign OpenParen) = true
leads_operand _ = false

-- `token` is the first token of `xs` with which the tokens cannot be continued to an expression. The error `fault` is
-- `Depth` if the token may begin an operand and an operand was possible in its place, or else `Syntax`.
pub record Misplaced (xs : List TokenKind) (fault : ExprFault) : Type 0 where
  pub before : List TokenKind
  pub token : TokenKind
  pub behind : List TokenKind
  pub parts : xs ≡ before ++ token ∷ behind
  pub begun : IsBegun before
  pub refused : IsBegun (before ++ token ∷ []) → ⊥
  pub kind :
      ((fault ≡ Depth) × (leads_operand token ≡ true) × IsBegun (before ++ Number (pos 0) ∷ []))
      ⊎ ((fault ≡ Syntax) × (leads_operand token ≡ true → IsBegun (before ++ Number (pos 0) ∷ []) → ⊥))

-- The error of a shape is the error of the first misplaced token. If there is none, the expression ends too early and
-- the error is `Syntax`.
abbrev pub MisshapenAtFirst : Type 0
MisshapenAtFirst = (xs : List TokenKind) (fault : ExprFault) → shape start xs ≡ Err fault → (IsBegun xs × (fault ≡ Syntax)) ⊎ Misplaced xs fault
