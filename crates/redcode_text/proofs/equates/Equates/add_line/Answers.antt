use Rattle.std.proofs.Common.{◌∙◌, ap, map, sym, Ok}
use Rattle.redcode_text.specs.Lines.{with_line}
use Rattle.redcode_text.proofs.EquateLookup.{map-last, put-back}
use Rattle.redcode_text.proofs.equates.Equates.add_line.Goals as goal

pub returns : goal.returns
returns c =
    ap Ok (
    ap (λ es. with_line es c.args.line.items) (sym c.self.view_is)
    ∙ put-back (λ lines. map (λ line. line.items) lines.items) c.in-Some.name c.in-Some.lines c.push.new.self c.self.inside.lines.entries c.pop.new.self.entries c.insert.new.self.entries c.args.line.items
    c.in-Some.ensures.entries c.in-Some.ensures.updates.1 c.in_ok-insert.ensures.entries (ap (map (λ line. line.items)) c.in_ok-push.ensures.items ∙ map-last (λ line. line.items) c.in-Some.lines.items c.args.line)
    )
