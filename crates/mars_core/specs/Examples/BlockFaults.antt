-- Words that are not a block, by their error, and words without such an error.
use Rattle.std.specs.Prelude.{◌-◌, ℕ, List, [], ◌∷◌, ◌++◌, length, refl}
use Rattle.std.proofs.Common.{arith, inl, inr, replicate}
use Rattle.mars_cell.specs.Cells.{empty_cell}
use Rattle.mars_cell.specs.declared.parameters.ParamFault.TheVariants.{CoreSize}
use Rattle.mars_core.specs.Block.{block_mark, cell_words}
use Rattle.mars_core.specs.BlockFaults.{IsFirstWrongCell, IsFirstWrongQueue, IsWrong}
use Rattle.mars_core.specs.Examples.{of_eight}
use Rattle.mars_core.specs.declared.battle.block.BlockFault.TheVariants as fault

-- A header that begins with `first` and continues with zeros.
abbrev header : List ℕ → List ℕ
header first = first ++ replicate (64 - length first) 0

-- The header of a battle of `count` warriors without processes, in a core of eight cells.
abbrev of_warriors : ℕ → List ℕ
of_warriors count = header (block_mark ∷ 88 ∷ 8 ∷ 8 ∷ 8 ∷ 8 ∷ 8 ∷ 8 ∷ 8 ∷ count ∷ [])

pub no_words : IsWrong [] fault.Short
no_words = inl (omega arith)

pub no_cells : IsWrong (of_warriors 1) fault.Short
no_cells = inr (omega arith)

pub another_mark : IsWrong (header []) fault.Mark
another_mark = λ e. omega (arith, e)

pub the_mark : IsWrong (of_warriors 1) fault.Mark → ⊥
the_mark w = w refl

pub no_core : IsWrong (header (block_mark ∷ [])) (fault.Parameters CoreSize)
no_core = refl

pub no_warriors : IsWrong (of_warriors 0) fault.Warriors
no_warriors = inl (omega arith)

pub sixteen_warriors : IsWrong (of_warriors 16) fault.Warriors → ⊥
sixteen_warriors (inl few) = omega (arith, few)
sixteen_warriors (inr many) = omega (arith, many)

pub seventeen_warriors : IsWrong (of_warriors 17) fault.Warriors
seventeen_warriors = inr (omega arith)

-- An empty cell is not wrong.
pub a_cell : IsFirstWrongCell 8 (cell_words empty_cell) 0 → ⊥
a_cell w = w.wrong empty_cell (record { a = omega arith; b = omega arith }) refl

-- A warrior without a process is not wrong.
pub no_process : IsFirstWrongQueue of_eight (0 ∷ []) [] 0 → ⊥
no_process w = w.wrong (record { addresses = λ i default inside. omega (arith, inside); room = omega arith })
