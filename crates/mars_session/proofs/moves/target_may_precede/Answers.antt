use Rattle.std.proofs.Common.{◌<◌, arith}
use Rattle.std.proofs.lemmas.Bool.{leb-false}
use Rattle.mars_session.proofs.Between.{none_before}
use Rattle.mars_session.proofs.moves.target_may_precede.Goals as goal

pub returns-then-position-gt0-clause-here : goal.returns-then-position-gt0-clause-here
returns-then-position-gt0-clause-here g c below =
    let history = g.T.Tape.history in
    let fewer : (history c.args.tape.now).present.state.turns < c.args.turns = omega (arith, leb-false c.args.turns c.turns_now.result below, c.turns_now.ensures) in
    none_before c.args.turns (history c.args.tape.now) c.position.ensures.rises fewer
