-- The command executes the first turn, and then the others.
use Rattle.std.proofs.Common.{◌≡◌, ◌-◌, List, false, refl, ap}
use Rattle.mars_core.specs.State.{State}
use Rattle.mars_core.specs.Turn.{turn_of}
use Rattle.mars_session.specs.History.{cut, marked}
use Rattle.mars_session.specs.Commands.{turns_until, stops_at}
use Rattle.mars_session.specs.Script.{room_refusal}
use Rattle.mars_session.specs.Code.Appending.{Kept, go_on, go_on_all}
use Rattle.mars_session.proofs.Appending.{command_made}
use Rattle.mars_session.proofs.commands.make_turns.Goals as goal

pub returns-clause-answer : goal.returns-clause-answer
returns-clause-answer g c =
    let history = g.T.Tape.history in
    let retention = g.T.Tape.retention in
    let h = history c.args.tape.now in
    let m = retention c.args.tape.now in
    let next : State = turn_of h.present.state in
    let one : Kept = record { history = history c.turn.new.self; retention = retention c.turn.new.self } in
    let all : Kept = record { history = history c.turn_until.new.tape; retention = retention c.turn_until.new.tape } in
    let first : one ≡ go_on (record { history = cut (marked h); retention = m }) next =
    rw (c.turn.ensures.places, c.turn.ensures.retention, c.in_ok-prepare.ensures.ok, c.prepare.ensures.kept) refl in
    let here : (history c.turn.new.self).present.state ≡ next = ap (λ (k : Kept). k.history.present.state) first in
    let rest : List State = turns_until (stops_at c.args.cycle) (c.args.count - 1) next in
    let others : all ≡ go_on_all one rest = rw here at c.turn_until.ensures in
    command_made m (retention c.set_mark.new.self) h (history c.set_mark.new.self) next rest (room_refusal m c.args.limit c.args.count false h) one all c.standing.result
    c.in_ok-prepare.ensures.room first others c.set_mark.ensures.places c.set_mark.ensures.retention c.standing.ensures
