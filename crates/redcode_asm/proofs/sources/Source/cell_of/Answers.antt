use Rattle.std.proofs.Common.{◌∙◌, ap, rules}
use Rattle.redcode_asm.specs.declared.sources.LineNames.{LineNames}
use Rattle.redcode_text.specs.Views.{predefined_of}
use Rattle.redcode_asm.specs.Assembly.{cell_from, name_value}
use Rattle.redcode_asm.specs.Code.Sources.{placed_of}
use Rattle.redcode_asm.proofs.Failing.{gives-same}
use Rattle.redcode_asm.proofs.Makes.{cell-made}
use Rattle.redcode_asm.proofs.sources.Source.cell_of.Goals as goal

pub returns-clause-value : goal.returns-clause-value
returns-clause-value c =
    gives-same c.make_cell.result _
    (cell-made (predefined_of c.args.self.now.predefined.now) c.args.core_size c.args.self.now.program.now (placed_of c.args.place) c.in_ok-op.op
    (c.in_ok-modifier.modifier, c.in_ok-modifier.rest.now) c.in_ok-operands.operands.items c.make_cell.result (search rules) (search rules) (search rules)
    (c.make_cell.ensures.value
    ∙ ap (λ (e : LineNames). cell_from c.args.core_size (name_value (predefined_of e.source.predefined.now) e.source.program.now e.origin e.index) c.args.place.line.now.operation_span c.in_ok-op.op c.in_ok-modifier.modifier c.deref-2.result.now) c.instruction_names-line_names.ensures
    ∙ ap (cell_from c.args.core_size (name_value (predefined_of c.args.self.now.predefined.now) c.args.self.now.program.now c.args.place.index c.args.place.index) c.args.place.line.now.operation_span c.in_ok-op.op c.in_ok-modifier.modifier) c.deref-2.ensures.value))
