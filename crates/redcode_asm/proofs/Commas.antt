-- The parts of tokens at commas, and the operands or the error that the parts give.
use Rattle.std.proofs.Common.{◌≡◌, List, [], ◌∷◌, ◌++◌, length, Bool, true, false, refl, ap, ◌∙◌, ◌==◌, ◌||◌, if◌then◌else◌, Result, Err, arith}
use Rattle.std.specs.List.{list_any, onto_first}
use Rattle.mars_cell.specs.declared.instruction.Op.{Op}
use Rattle.redcode_asm.specs.declared.fault.AsmProblem.{AsmProblem}
use Rattle.redcode_asm.specs.declared.fault.AsmProblem.TheVariants.{Operand}
use Rattle.redcode_text.specs.declared.token.Token.{Token}
use Rattle.redcode_asm.specs.Assembly.{Operands, full_operands, given_operands, is_comma, operands_of, parts_at_commas}

-- Parts of tokens, with `ts` put before the first part.
abbrev pub prepend : List Token → List (List Token) → List (List Token)
prepend ts [] = ts ∷ []
prepend ts (p ∷ ps) = (ts ++ p) ∷ ps

-- The parts from the token `t` on. `b` is true if `t` is a comma, and `ps` are the parts after `t`.
abbrev parts_by : Bool → Token → List (List Token) → List (List Token)
parts_by b t ps = elim b [ true ↦ [] ∷ ps | false ↦ onto_first t ps ]

whole-by : (b : Bool) (t : Token) (ps : List (List Token)) → parts_by b t ps ≡ prepend [] (parts_by b t ps)
whole-by true t ps = refl
whole-by false t [] = refl
whole-by false t (p ∷ ps) = refl

pub parts-whole : (ts : List Token) → parts_at_commas ts ≡ prepend [] (parts_at_commas ts)
parts-whole [] = refl
parts-whole (t ∷ ts) = whole-by (is_comma t.kind) t (parts_at_commas ts)

-- ---- Operands

abbrev refused : Result Operands AsmProblem
refused = Err Operand

pub given-full : (o : Op) (ts : List Token) → ¬ (length ts ≡ 0) → given_operands o ts ≡ full_operands o (parts_at_commas ts)
given-full o [] full = absurd (full refl)
given-full o (t ∷ ts) full = refl

pub first-empty : (o : Op) (a : List Token) (ps : List (List Token)) → length a ≡ 0 → full_operands o (a ∷ ps) ≡ Err Operand
first-empty o [] ps none = refl
first-empty o (t ∷ a) ps none = absurd (omega (arith, none))

rest-by : (b : Bool) (o : Op) (a : List Token) → (if b || true then refused else operands_of o (a ∷ [] ∷ [])) ≡ refused
rest-by true o a = refl
rest-by false o a = refl

pub rest-empty : (o : Op) (a : List Token) (b : List Token) → length b ≡ 0 → full_operands o (a ∷ parts_at_commas b) ≡ Err Operand
rest-empty o a [] none = rest-by (length a == 0) o a
rest-empty o a (t ∷ b) none = absurd (omega (arith, none))

three-by : (b : Bool) (o : Op) (x y p : List Token) (ps : List (List Token)) → (if b then refused else operands_of o (x ∷ y ∷ p ∷ ps)) ≡ refused
three-by true o x y p ps = refl
three-by false o x y p ps = refl

three-or-more : (o : Op) (x y : List Token) (ps : List (List Token)) → ps ≡ prepend [] ps → full_operands o (x ∷ y ∷ ps) ≡ Err Operand
three-or-more o x y [] whole = cc
three-or-more o x y (p ∷ ps) whole = three-by (list_any (λ q. length q == 0) (x ∷ y ∷ p ∷ ps)) o x y p ps

-- A second comma means a third operand, which is an error.
pub third-operand : (o : Op) (a b rest : List Token) (c : List Token) → parts_at_commas rest ≡ b ∷ parts_at_commas c → full_operands o (a ∷ parts_at_commas rest) ≡ Err Operand
third-operand o a b rest c second = ap (λ ps. full_operands o (a ∷ ps)) second ∙ three-or-more o a b (parts_at_commas c) (parts-whole c)
