use Rattle.std.proofs.Common.{ap}
use Rattle.redcode_text.specs.Source.{tree_of_rows}
use Rattle.redcode_text.proofs.ForLaws.Unread.{read-behind}
use Rattle.redcode_text.proofs.laws.lines_before_redcode_are_ignored.Goals as goal

pub returns : goal.returns
returns c before rows none some = ap tree_of_rows (read-behind before rows none some)
