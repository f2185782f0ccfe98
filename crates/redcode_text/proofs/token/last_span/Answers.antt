use Rattle.std.proofs.Common.{◌∙◌, ap, sym, Some}
use Rattle.redcode_text.proofs.LastTokens.{last-there}
use Rattle.redcode_text.proofs.token.last_span.Goals as goal

pub returns-in-Some : goal.returns-in-Some
returns-in-Some c = ap Some c.span.ensures ∙ last-there c.args.before c.args.tokens.now _ (sym c.in-Some.ensures.value)
