use Rattle.std.proofs.Common.{◌≡◌}
use Rattle.std.specs.Prelude.{IsSome}
use Rattle.mars_session.specs.History.{following, first_at_turn}
use Rattle.mars_session.proofs.moves.forward_to.Given as goal

-- The place exists, and it is the one that was found from the start.
abbrev pub invariant-on : goal.invariant-on
invariant-on g l = record {
  there : IsSome (first_at_turn l.turns (g.T.Tape.history l.tape));
  retention : g.T.Tape.retention l.tape ≡ g.T.Tape.retention l.fn.tape;
  sought : first_at_turn l.turns (g.T.Tape.history l.tape) ≡ first_at_turn l.turns (g.T.Tape.history l.fn.tape);
}

abbrev pub decreases-on : goal.decreases-on
decreases-on g l = following (g.T.Tape.history l.tape)
