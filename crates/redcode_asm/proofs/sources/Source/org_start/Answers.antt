use Rattle.std.proofs.Common.{rules}
use Rattle.redcode_text.specs.Views.{predefined_of}
use Rattle.redcode_asm.specs.Code.Sources.{placed_of}
use Rattle.redcode_asm.proofs.Failing.{gives-same}
use Rattle.redcode_asm.proofs.Makes.{org-made}
use Rattle.redcode_asm.proofs.sources.Source.org_start.Goals as goal

pub returns-clause-value : goal.returns-clause-value
returns-clause-value c =
    gives-same c.start_at.result _
    (org-made (predefined_of c.args.self.now.predefined.now) c.args.self.now.program.now c.args.count (placed_of c.args.place) c.in_ok-tokens.tokens.items c.start_at.result
    (search rules) (search rules))
