use Rattle.std.proofs.Common.{◌∙◌, ap, sym}
use Rattle.mars_c.specs.declared.faults.MarsFault.{MarsFault}
use Rattle.mars_c.proofs.Given.{fits, is_short}
use Rattle.mars_c.proofs.exports.mars_assemble.Goals as goal

pub returns-in-Ok-clause-done : goal.returns-in-Ok-clause-done
returns-in-Ok-clause-done c = λ zero.
    let all = fits c.give_mapped.result (sym (c.answer.ensures.code ∙ ap (λ (fault : MarsFault). fault.code) c.given.ensures) ∙ zero) in
    (c.in-Ok.mapped.made.warrior, c.in-Ok.ensures.made.0, c.give_mapped.ensures.program ∙ c.in-Ok.ensures.made.1, c.give_mapped.ensures.fits all, c.give_mapped.ensures.cells all)

pub returns-in-Ok-clause-mapped : goal.returns-in-Ok-clause-mapped
returns-in-Ok-clause-mapped c = λ zero.
    let all = fits c.give_mapped.result (sym (c.answer.ensures.code ∙ ap (λ (fault : MarsFault). fault.code) c.given.ensures) ∙ zero) in
    (record { lines = c.in-Ok.mapped.lines.items; labels = c.in-Ok.mapped.labels.items }, c.in-Ok.ensures.lines, c.give_mapped.ensures.length, c.give_mapped.ensures.lines all, c.give_mapped.ensures.labels all)

pub returns-in-Ok-clause-room : goal.returns-in-Ok-clause-room
returns-in-Ok-clause-room c = λ ten.
    let short = is_short c.give_mapped.result (sym (c.answer.ensures.code ∙ ap (λ (fault : MarsFault). fault.code) c.given.ensures) ∙ ten) in (
      c.in-Ok.mapped.made.warrior,
      record { lines = c.in-Ok.mapped.lines.items; labels = c.in-Ok.mapped.labels.items },
      c.in-Ok.ensures.made.0,
      c.in-Ok.ensures.lines,
      c.give_mapped.ensures.program ∙ c.in-Ok.ensures.made.1,
      c.give_mapped.ensures.length,
      c.give_mapped.ensures.short short,
    )
