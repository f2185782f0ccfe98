use Rattle.std.proofs.Common.{◌≡◌, ◌∙◌, false, true, ap, length, arith}
use Rattle.mars_core.specs.State.{State, is_over_of}
use Rattle.mars_core.specs.Turn.{turn_of}
use Rattle.mars_core.specs.Leads.{Leads}
use Rattle.mars_session.specs.History.{append, following}
use Rattle.mars_session.specs.Tapes.{TapeValue}
use Rattle.mars_session.specs.Code.Journals.{journal_history}
use Rattle.mars_session.proofs.Ends.{journal_ends_append}
use Rattle.mars_session.proofs.Stepping.{journal_append, append_kept, journal_following}
use Rattle.mars_session.proofs.deltas.DeltaTapeTape.turn.Goals as goal

pub invariant_of-self : goal.invariant_of-self
invariant_of-self c =
    let s = c.self.inside in
    let rest : following (journal_history true s.entries.items s.at s.battle) ≡ 0 = ap (λ (t : TapeValue). following t.history) c.self.view_is ∙ ap length c.requires.last in
    let at_end : length s.entries.items ≡ s.at = omega (arith, rest, journal_following true s.entries.items s.at s.battle, c.self.invariant.0.inside) in
    let leads : Leads s.battle c.in-Ok.atom c.turn.new.self = rw c.in-Ok.is at c.turn.ensures.leads in
    rw (c.push_reserved.ensures.items, c.turns-self-inside.ensures) (
      append_kept s.entries.items s.at s.battle c.turn.new.self c.in-Ok.atom at_end leads c.self.invariant.0,
      journal_ends_append true s.entries.items s.at s.battle s.first_turns s.last_turns c.self.invariant.1 c.turn.new.self c.in-Ok.atom at_end leads,
    )

pub returns-clause-places : goal.returns-clause-places
returns-clause-places c =
    let s = c.self.inside in
    let rest : following (journal_history true s.entries.items s.at s.battle) ≡ 0 = ap (λ (t : TapeValue). following t.history) c.self.view_is ∙ ap length c.requires.last in
    let at_end : length s.entries.items ≡ s.at = omega (arith, rest, journal_following true s.entries.items s.at s.battle, c.self.invariant.0.inside) in
    let leads : Leads s.battle c.in-Ok.atom c.turn.new.self = rw c.in-Ok.is at c.turn.ensures.leads in
    let may : is_over_of s.battle ≡ false = ap (λ (t : TapeValue). is_over_of t.history.present.state) c.self.view_is ∙ c.requires.runs in
    let made : c.turn.new.self ≡ turn_of s.battle = rw may at c.turn.ensures.state in
    rw c.push_reserved.ensures.items
    (journal_append true s.entries.items s.at s.battle c.turn.new.self c.in-Ok.atom at_end leads
    ∙ ap (λ (x : State). append (journal_history true s.entries.items s.at s.battle) x) made
    ∙ ap (λ (t : TapeValue). append t.history (turn_of t.history.present.state)) c.self.view_is)
