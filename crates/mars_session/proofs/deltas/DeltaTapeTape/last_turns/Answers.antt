use Rattle.std.proofs.Common.{◌∙◌, ap, sym, true}
use Rattle.mars_session.specs.History.{last_turns}
use Rattle.mars_session.specs.Tapes.{TapeValue}
use Rattle.mars_session.proofs.Rising.{journal_rises}
use Rattle.mars_session.proofs.deltas.DeltaTapeTape.last_turns.Goals as goal

pub returns-clause-value : goal.returns-clause-value
returns-clause-value c = c.self.invariant.1.last ∙ ap (λ (t : TapeValue). last_turns t.history) c.self.view_is

pub returns-clause-rises : goal.returns-clause-rises
returns-clause-rises c =
    let s = c.self.inside in
    rw (sym (ap (λ (t : TapeValue). t.history) c.self.view_is)) (journal_rises true s.entries.items s.at s.battle c.self.invariant.0)
