use Rattle.std.proofs.Common.{◌≡◌, ◌≤◌}
use Rattle.mars_session.specs.History.{position_of, rewound}
use Rattle.mars_session.proofs.moves.go_back.Given as goal

abbrev pub invariant-back : goal.invariant-back
invariant-back g l = record {
  places : rewound (g.T.Tape.history l.tape) ≡ rewound (g.T.Tape.history l.fn.tape);
  retention : g.T.Tape.retention l.tape ≡ g.T.Tape.retention l.fn.tape;
  above : l.position ≤ position_of (g.T.Tape.history l.tape);
}

abbrev pub decreases-back : goal.decreases-back
decreases-back g l = position_of (g.T.Tape.history l.tape)
