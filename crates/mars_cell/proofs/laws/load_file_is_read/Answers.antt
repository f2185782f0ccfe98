use Rattle.std.proofs.Common.{◌∙◌, Ok, ap, arith}
use Rattle.mars_cell.proofs.ForLaws.WrittenLines.{cells-same, load-written}
use Rattle.mars_cell.proofs.laws.load_file_is_read.Goals as goal

pub returns : goal.returns
returns c p w range is few all = load-written p.core_size p.core_size p.max_length w range.core_most (omega (arith, range)) is few all ∙ ap Ok (cells-same p.core_size w all)
