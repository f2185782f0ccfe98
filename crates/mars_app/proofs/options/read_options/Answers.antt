use Rattle.std.proofs.Common.{◌∙◌, ap, inr, refl, sym}
use Rattle.mars_app.specs.Options.{are_allowed, options_of}
use Rattle.mars_app.proofs.options.read_options.Goals as goal

pub returns-then-are_allowed-clause-value : goal.returns-then-are_allowed-clause-value
returns-then-are_allowed-clause-value c =
    let said = ap options_of (sym c.in_ok-matches.ensures.ok.1) ∙ sym c.in_ok-options.ensures in
    record { taken = c.in_ok-matches.ensures.ok.0; said = said; allowed = sym c.if-are_allowed.ensures.value }

pub returns-then-are_allowed-clause-range : goal.returns-then-are_allowed-clause-range
returns-then-are_allowed-clause-range c = c.if-are_allowed.ensures.used refl

pub returns-clause-value : goal.returns-clause-value
returns-clause-value c =
    let said = ap options_of (sym c.in_ok-matches.ensures.ok.1) ∙ sym c.in_ok-options.ensures in
    inr (c.in_ok-matches.ensures.ok.0, ap are_allowed said ∙ sym c.if-are_allowed.ensures.value)
