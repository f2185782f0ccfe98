use Rattle.std.proofs.Common.{◌∙◌, ap, map, option_map}
use Rattle.redcode_text.specs.Equates.{equate_lines}
use Rattle.redcode_text.proofs.EquateLookup.{lookup-equate}
use Rattle.redcode_text.proofs.equates.Equates.lines_of.Goals as goal

pub returns-in_err-lines : goal.returns-in_err-lines
returns-in_err-lines c =
    rw c.from_residual.ensures
    (ap (option_map (λ lines. map (λ line. line.items) lines.items)) c.in_err-lines.ensures.value
    ∙ lookup-equate (λ lines. map (λ line. line.items) lines.items) c.args.name c.self.inside.lines.entries
    ∙ ap (λ es. equate_lines es c.args.name) c.self.view_is)

pub returns : goal.returns
returns c =
    rw c.deref.ensures.value
    (ap (option_map (λ lines. map (λ line. line.items) lines.items)) c.in_ok-lines.ensures.value
    ∙ lookup-equate (λ lines. map (λ line. line.items) lines.items) c.args.name c.self.inside.lines.entries
    ∙ ap (λ es. equate_lines es c.args.name) c.self.view_is)
