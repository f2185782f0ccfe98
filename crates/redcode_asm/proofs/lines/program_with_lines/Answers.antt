use Rattle.std.proofs.Common.{◌∙◌, ap, length, refl, sym}
use Rattle.redcode_text.specs.Views.{predefined_of}
use Rattle.redcode_asm.specs.SourceLines.{CellLines}
use Rattle.redcode_asm.proofs.Rows.{one_each}
use Rattle.redcode_asm.proofs.SourceLines.{lines_are}
use Rattle.redcode_asm.proofs.lines.program_with_lines.Goals as goal

pub returns-in-Ok-clause-lines : goal.returns-in-Ok-clause-lines
returns-in-Ok-clause-lines c =
    let lines = rw (c.new-lines.ensures.items, c.new-labels.ensures.items, c.names.ensures, c.lines.ensures.value) at c.in-Ok.ensures.lines in
    let labels = rw (c.new-labels.ensures.items, c.names.ensures, c.lines.ensures.value) at c.in-Ok.ensures.labels in
    rw (c.in_ok-warrior.ensures.value, lines_are c.args.program.now, lines, labels) refl

pub returns-in-Ok-clause-rows : goal.returns-in-Ok-clause-rows
returns-in-Ok-clause-rows c =
    let lines = rw (c.new-lines.ensures.items, c.new-labels.ensures.items, c.names.ensures, c.lines.ensures.value) at c.in-Ok.ensures.lines in
    ap length lines ∙ ap (λ (made : CellLines). length made.lines) (sym (lines_are c.args.program.now))
    ∙ one_each (predefined_of c.args.predefined.now) c.args.params.now c.args.program.now c.in_ok-warrior.warrior c.in_ok-warrior.ensures.value
