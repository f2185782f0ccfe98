use Rattle.std.proofs.Common.{◌≡◌, ◌∙◌, sym, ap, Some, None, nat_eq, [], rules, w64}
use Rattle.std.proofs.lemmas.Int.{to_z-of_z}
use Rattle.std.specs.Map.{lookup}
use Rattle.redcode_text.specs.Views.{predefined_of}
use Rattle.redcode_text.specs.Lines.{name_at, predefined_value, with_current_line}
use Rattle.redcode_asm.specs.Assembly.{label_among, placed}
use Rattle.redcode_asm.proofs.Tables.{lookup-table}
use Rattle.redcode_asm.proofs.sources.LineNamesEnv.value.Goals as goal

pub returns-in-Some : goal.returns-in-Some
returns-in-Some c =
    let found : label_among (placed c.args.self.now.source.program.now) c.args.name ≡ Some c.in-Some.index
    = sym (lookup-table [] c.args.name (placed c.args.self.now.source.program.now)) ∙ ap (lookup (nat_eq c.args.name)) (sym c.args.self.now.source.table) ∙ sym c.index_of.ensures ∙ c.in-Some.is in
    rw found (ap Some (to_z-of_z w64 c.distance.result (search rules) ∙ c.distance.ensures))

pub returns-in-None : goal.returns-in-None
returns-in-None c =
    let found : label_among (placed c.args.self.now.source.program.now) c.args.name ≡ None
    = sym (lookup-table [] c.args.name (placed c.args.self.now.source.program.now)) ∙ ap (lookup (nat_eq c.args.name)) (sym c.args.self.now.source.table) ∙ sym c.index_of.ensures ∙ c.in-None.is in
    rw found (c.known_value.ensures
    ∙ ap (λ names. predefined_value (with_current_line (predefined_of c.args.self.now.source.predefined.now) c.args.self.now.index) (name_at names c.args.name)) c.names.ensures)
