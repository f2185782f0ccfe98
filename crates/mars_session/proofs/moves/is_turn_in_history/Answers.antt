use Rattle.mars_session.proofs.Between.{met_up_to}
use Rattle.mars_session.proofs.moves.is_turn_in_history.Goals as goal

pub returns-then-turns-last_turns : goal.returns-then-turns-last_turns
returns-then-turns-last_turns g c =
    met_up_to c.args.turns c.first_turns.result c.last_turns.result (g.T.Tape.history c.args.tape.now) c.last_turns.ensures.rises c.first_turns.ensures c.last_turns.ensures.value c.if-turns-last_turns.true
