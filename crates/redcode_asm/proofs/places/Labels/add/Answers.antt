use Rattle.std.proofs.Common.{◌≡◌, ◌∙◌, sym, ap, nat_eq, None, rules}
use Rattle.std.specs.Map.{lookup}
use Rattle.indexmap.proofs.CallerLemmas.{insert_entry-new}
use Rattle.redcode_asm.specs.Code.Labels.{with_label}
use Rattle.redcode_asm.proofs.Tables.{with-new}
use Rattle.redcode_asm.proofs.places.Labels.add.Goals as goal

pub returns-in_ok-insert : goal.returns-in_ok-insert
returns-in_ok-insert c =
    let none : lookup (nat_eq c.args.label) c.self.inside.indices.entries ≡ None = search rules in
    c.in_ok-insert.ensures.entries ∙ insert_entry-new nat_eq c.self.inside.indices c.args.label c.args.index none
    ∙ sym (with-new c.args.index c.self.inside.indices.entries c.args.label none)
    ∙ ap (λ t. with_label c.args.index t c.args.label) c.self.view_is
