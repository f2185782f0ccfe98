use Rattle.std.proofs.Common.{◌∙◌, ap, sym, map, string_bytes}
use Rattle.std.specs.Str.{bytes_eq}
use Rattle.std.proofs.lemmas.Str.{IsUtf8-from_ascii}
use Rattle.redcode_text.specs.Tokens.{name_index, with_name}
use Rattle.redcode_text.proofs.NameSteps.{position-map, insert-map, present, position-some}
use Rattle.redcode_text.proofs.names.NameTable.index_of.Goals as goal

pub unreachable-requires : goal.unreachable-requires
unreachable-requires c = c.in_default.ensures.cases.0 (IsUtf8-from_ascii c.args.name.now c.requires.ascii)

pub returns-in-Some-clause-index : goal.returns-in-Some-clause-index
returns-in-Some-clause-index c =
    position-some (λ k. bytes_eq c.in-Ok.name.now (string_bytes k)) c.self.inside.names.keys c.in-Some.index c.in-Some.ensures.index
    ∙ position-map (λ k. string_bytes k) c.in-Ok.name.now c.self.inside.names.keys
    ∙ (λ i. name_index (c.self.view_is i) (c.in-Ok.ensures.cases.0 i))

pub returns-in-Some-clause-names : goal.returns-in-Some-clause-names
returns-in-Some-clause-names c =
    sym c.self.view_is
    ∙ sym (present (λ k. string_bytes k) c.in-Ok.name.now c.self.inside.names.keys (sym c.in-Some.ensures.found))
    ∙ (λ i. with_name (c.self.view_is i) (c.in-Ok.ensures.cases.0 i))

pub returns-clause-index : goal.returns-clause-index
returns-clause-index c =
    c.in_ok-index.ensures.index
    ∙ position-map (λ k. string_bytes k) (string_bytes c.in_ok-from_str.field-0) c.self.inside.names.keys
    ∙ (λ i. name_index (c.self.view_is i) ((c.in_ok-from_str.ensures.ok ∙ c.in-Ok.ensures.cases.0) i))

pub returns-clause-names : goal.returns-clause-names
returns-clause-names c =
    ap (map (λ k. string_bytes k)) c.in_ok-index.ensures.keys
    ∙ insert-map (λ k. string_bytes k) c.in_ok-from_str.field-0 c.self.inside.names.keys
    ∙ (λ i. with_name (c.self.view_is i) ((c.in_ok-from_str.ensures.ok ∙ c.in-Ok.ensures.cases.0) i))
