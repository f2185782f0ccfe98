use Rattle.std.proofs.Common.{◌∙◌, ◌++◌, ◌∷◌, [], ap, map, sym, Ok}
use Rattle.redcode_text.specs.Equates.{equate_lines}
use Rattle.redcode_text.proofs.EquateLookup.{equates, insert-equate}
use Rattle.redcode_text.proofs.equates.Equates.define.Goals as goal

pub returns : goal.returns
returns c =
    let entries = c.self.inside.lines.entries in
    ap Ok (sym (
    ap (equates (λ lines. map (λ line. line.items) lines.items)) c.in_ok-insert.ensures.entries
    ∙ insert-equate (λ lines. map (λ line. line.items) lines.items) c.args.name c.push.new.self entries (ap (λ es. equate_lines es c.args.name) c.self.view_is ∙ c.requires)
    ∙ (λ i. c.self.view_is i ++ record { name = c.args.name; lines = map (λ line. line.items) ((c.in_ok-push.ensures.items ∙ ap (λ l. l ++ c.args.line ∷ []) c.new-lines.ensures.items) i) } ∷ [])
    ))
