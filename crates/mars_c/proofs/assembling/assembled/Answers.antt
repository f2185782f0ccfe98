use Rattle.std.proofs.Common.{◌∙◌, sym}
use Rattle.mars_c.proofs.Sources.{refuses}
use Rattle.mars_c.proofs.assembling.assembled.Goals as goal

pub returns-in-Err-assemble_with_lines-clause-refused : goal.returns-in-Err-assemble_with_lines-clause-refused
returns-in-Err-assemble_with_lines-clause-refused c =
    let fault = c.in-Err-assemble_with_lines.fault in
    rw c.refused_source.ensures (refuses c.args.settings.now c.in-Ok.params c.args.warriors c.args.source.now fault.problem fault
    (sym c.parameters.ensures ∙ c.in-Ok.is) c.in-Err-assemble_with_lines.ensures.warrior)
