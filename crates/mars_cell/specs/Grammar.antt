-- How the line of a cell is read, `OP[.MODIFIER] [mode]number , [mode]number`, and the default modifiers.
use Rattle.std.specs.Prelude.{ℕ, ℤ, ◌==◌, List, [], ◌∷◌, length, Option, None, Some, option_map, unwrap_or, if◌then◌else◌, codes}
use Rattle.std.specs.Str.{bytes_eq}
use Rattle.mars_cell.specs.declared.instruction.Op.{Op}
use Rattle.mars_cell.specs.declared.instruction.Op.TheVariants as op
use Rattle.mars_cell.specs.declared.instruction.Modifier.{Modifier}
use Rattle.mars_cell.specs.declared.instruction.Modifier.TheVariants as modifier
use Rattle.mars_cell.specs.declared.instruction.Mode.{Mode}
use Rattle.mars_cell.specs.declared.instruction.Mode.TheVariants as mode
use Rattle.mars_cell.specs.declared.instruction.Cell.{Cell}
use Rattle.mars_cell.specs.Words.{op_of, modifier_of, mode_of}
use Rattle.mars_cell.specs.Numbers.{parse_number, by_value}
use Rattle.mars_cell.specs.Parts.{parts}

infixl 10 ◌>>=◌
-- The result of `f` on the value of an option, or `None` if there is none.
abbrev pub ◌>>=◌ : {A B : Type 0} → Option A → (A → Option B) → Option B
None >>= f = None
(Some x) >>= f = f x

-- Each definition whose name ends in `_at` reads its part at the front of a list of parts `p ∷ ps`, and returns its
-- value with the parts that follow; `comma_at` returns only these parts.

unfoldable pub op_at : List (List ℕ) → Option (Op × List (List ℕ))
op_at [] = None
op_at (p ∷ ps) = option_map (λ o. (o, ps)) (op_of p)

unfoldable pub modifier_at : List (List ℕ) → Option (Modifier × List (List ℕ))
modifier_at [] = None
modifier_at (p ∷ ps) = option_map (λ o. (o, ps)) (modifier_of p)

-- `.` and a modifier, or neither.
unfoldable pub suffix_at : List (List ℕ) → Option (Option Modifier × List (List ℕ))
suffix_at [] = Some (None, [])
suffix_at (p ∷ ps) = if bytes_eq p (codes ".") then option_map (λ r. (Some r.0, r.1)) (modifier_at ps) else Some (None, p ∷ ps)

-- A mode; if there is none, the mode is `$`.
unfoldable pub mode_at : List (List ℕ) → Mode × List (List ℕ)
mode_at [] = (mode.Direct, [])
mode_at (p ∷ ps) = elim (mode_of p) [ Some o ↦ (o, ps) | None ↦ (mode.Direct, p ∷ ps) ]

unfoldable pub number_at : List (List ℕ) → Option (ℤ × List (List ℕ))
number_at [] = None
number_at (p ∷ ps) = option_map (λ n. (n, ps)) (parse_number p)

-- An operand. The text was written for a core of `written` cells and is read for a core of `m` cells.
unfoldable pub operand_at : ℕ → ℕ → List (List ℕ) → Option (Mode × ℕ × List (List ℕ))
operand_at written m ps = let o = mode_at ps in option_map (λ r. (o.0, by_value written m r.0, r.1)) (number_at o.1)

unfoldable pub comma_at : List (List ℕ) → Option (List (List ℕ))
comma_at [] = None
comma_at (p ∷ ps) = if bytes_eq p (codes ",") then Some ps else None

-- The modifier AB if the A-mode is immediate, else B if the B-mode `b` is immediate, else `other`.
abbrev pub by_operands : Modifier → Mode → Mode → Modifier
by_operands other mode.Immediate b = modifier.Ab
by_operands other _ mode.Immediate = modifier.B
by_operands other _ _ = other

-- The modifier of an instruction that names none, by its opcode, its A-mode `a` and its B-mode `b`.
unfoldable pub default_modifier : Op → Mode → Mode → Modifier
default_modifier op.Dat a b = modifier.F
default_modifier op.Nop a b = modifier.F
default_modifier op.Mov a b = by_operands modifier.I a b
default_modifier op.Seq a b = by_operands modifier.I a b
default_modifier op.Sne a b = by_operands modifier.I a b
default_modifier op.Add a b = by_operands modifier.F a b
default_modifier op.Sub a b = by_operands modifier.F a b
default_modifier op.Mul a b = by_operands modifier.F a b
default_modifier op.Div a b = by_operands modifier.F a b
default_modifier op.Mod a b = by_operands modifier.F a b
default_modifier op.Slt a b = by_operands modifier.B a b
default_modifier op.Jmp a b = modifier.B
default_modifier op.Jmz a b = modifier.B
default_modifier op.Jmn a b = modifier.B
default_modifier op.Djn a b = modifier.B
default_modifier op.Spl a b = modifier.B

-- The cell that the parts `ps` of a whole line describe, if they describe a cell. The parts were written for a core of
-- `written` cells and are read for a core of `m` cells.
unfoldable pub cell_of : ℕ → ℕ → List (List ℕ) → Option Cell
cell_of written m ps = do
  head ← op_at ps
  suffix ← suffix_at head.1
  a ← operand_at written m suffix.1
  after ← comma_at a.2
  b ← operand_at written m after
  if length b.2 == 0 then Some (record { op = head.0; modifier = unwrap_or suffix.0 (default_modifier head.0 a.0 b.0); a_mode = a.0; a = a.1; b_mode = b.0; b = b.1 }) else None

-- The cell that `text`, which has no comment, describes in a core of `m` cells. The text counts as written for this
-- core, so each number is taken modulo `m`.
abbrev pub read_cell : ℕ → List ℕ → Option Cell
read_cell m text = cell_of m m (parts text)
