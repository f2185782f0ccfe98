use Rattle.redcode_text.specs.Views.{predefined_of}
use Rattle.redcode_asm.specs.Assembly.{instructions}
use Rattle.redcode_asm.proofs.Counts.{each_counted}
use Rattle.redcode_asm.proofs.sources.Source.cells.Goals as goal

pub returns-clause-each : goal.returns-clause-each
returns-clause-each c = each_counted (predefined_of c.args.self.now.predefined.now) c.args.core_size c.args.self.now.program.now (instructions c.args.self.now.program.now) c.cells_among.result (rw c.lines.ensures.value at c.cells_among.ensures.value)
