use Rattle.std.proofs.Common.{◌∙◌, sym, arith}
use Rattle.mars_session.proofs.Walking.{turned_here}
use Rattle.mars_session.proofs.moves.forward_to.Goals as goal

pub returns-clause-found : goal.returns-clause-found
returns-clause-found g c = sym c.on.invariant.sought ∙ turned_here c.args.turns (g.T.Tape.history c.on.tape) (omega (arith, c.on-test.false, c.turns_now.ensures))
