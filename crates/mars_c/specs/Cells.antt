-- Cells as numbers: opcode, modifier and modes are numbered in the order of the enumerations in `include/mars.h`.
use Rattle.mars_cell.specs.Cells.{op_index, modifier_index, mode_index}
use Rattle.mars_cell.specs.declared.instruction.Cell.{Cell}
use Rattle.mars_c.specs.declared.cells.MarsCell.{MarsCell}

-- The numbers of a cell.
abbrev pub plain_cell : Cell → MarsCell
plain_cell cell = record {
  op = op_index cell.op;
  modifier = modifier_index cell.modifier;
  a_mode = mode_index cell.a_mode;
  b_mode = mode_index cell.b_mode;
  a = cell.a;
  b = cell.b;
}
