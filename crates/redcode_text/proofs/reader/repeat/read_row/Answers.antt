use Rattle.std.proofs.Common.{subst}
use Rattle.redcode_text.specs.Views.{predefined_of}
use Rattle.redcode_text.specs.Code.Readings.{reading_of}
use Rattle.redcode_text.specs.Code.Rows.{row_of}
use Rattle.redcode_text.proofs.Kept.{Kept, plain-kept, loops_of}
use Rattle.redcode_text.proofs.reader.repeat.read_row.Goals as goal

pub returns-in-Ok-clause-loops : goal.returns-in-Ok-clause-loops
returns-in-Ok-clause-loops c =
    subst (Kept loops_of (reading_of c.args.reading.now).loops) c.in-Ok.ensures.value (plain-kept (predefined_of c.args.names.now) (row_of c.index-rows-at.result) (reading_of c.args.reading.now))
