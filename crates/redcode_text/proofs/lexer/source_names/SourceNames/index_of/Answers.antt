use Rattle.std.proofs.Common.{◌∙◌, ap}
use Rattle.redcode_text.specs.Code.Counters.{open_loops}
use Rattle.redcode_text.proofs.Counters.{loops-kept}
use Rattle.redcode_text.proofs.lexer.source_names.SourceNames.index_of.Goals as goal

pub returns-clause-loops : goal.returns-clause-loops
returns-clause-loops c =
    let names = c.args.self.now in
    ap (λ table. open_loops table names.loops.items) c.in-Ok.ensures.names ∙ loops-kept names.table c.args.name.now names.loops.items names.are_there
