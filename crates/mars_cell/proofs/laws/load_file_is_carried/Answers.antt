use Rattle.std.proofs.Common.{arith}
use Rattle.mars_cell.proofs.ForLaws.WrittenLines.{load-written}
use Rattle.mars_cell.proofs.laws.load_file_is_carried.Goals as goal

pub returns : goal.returns
returns c m p w most range is few all = load-written m p.core_size p.max_length w most (omega (arith, range)) is few all
