use Rattle.redcode_text.proofs.ForLaws.BehindEnd.{behind-end}
use Rattle.redcode_text.proofs.laws.lines_after_end_are_ignored.Goals as goal

pub returns : goal.returns
returns c = behind-end
