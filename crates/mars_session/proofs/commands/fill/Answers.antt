-- A fill sets the first cell, and then the others.
use Rattle.std.proofs.Common.{◌≡◌, ◌+◌, ◌-◌, ◌<◌, List, None, false, refl, ap, arith, rules}
use Rattle.mars_core.specs.State.{State}
use Rattle.mars_core.specs.Edit.{edit_fault, edited}
use Rattle.mars_core.specs.declared.battle.edit.Edit.TheVariants as edits
use Rattle.mars_session.specs.History.{cut, marked}
use Rattle.mars_session.specs.Commands.{command_limit, fills, cells_between}
use Rattle.mars_session.specs.Script.{room_refusal}
use Rattle.mars_session.specs.Code.Appending.{Kept, go_on, go_on_all}
use Rattle.mars_session.proofs.Appending.{command_made}
use Rattle.mars_session.proofs.Turns.{filled}
use Rattle.mars_session.proofs.commands.fill.Goals as goal
use Rattle.mars_session.proofs.commands.fill.Goals.{else-from-to-via-then-from-to+else-to-from-ge-COMMAND_LIMIT, else-from-to-via-else-from-to}

pub returns-clause-answer : goal.returns-clause-answer
returns-clause-answer g c =
    let history = g.T.Tape.history in
    let retention = g.T.Tape.retention in
    let h = history c.args.tape.now in
    let m = retention c.args.tape.now in
    let next : State = edited h.present.state (edits.SetCell c.args.from c.args.cell) in
    let one : Kept = record { history = history c.edit.new.self; retention = retention c.edit.new.self } in
    let all : Kept = record { history = history c.fill_cells.new.tape; retention = retention c.fill_cells.new.tape } in
    let first : one ≡ go_on (record { history = cut (marked h); retention = m }) next =
    rw (c.edit.ensures.places, c.edit.ensures.retention, c.in_ok-prepare.ensures.ok, c.prepare.ensures.kept) refl in
    let here : (history c.edit.new.self).present.state ≡ next = ap (λ (k : Kept). k.history.present.state) first in
    let rest : List State = fills (c.args.to - c.args.from) (c.args.from + 1) c.args.cell next in
    let others : all ≡ go_on_all one rest = rw here at c.fill_cells.ensures in
    let count : c.args.to - c.args.from + 1 ≡ cells_between c.args.from c.args.to = omega (arith, c.if-to-from.false) in
    let room : room_refusal m c.args.limit (cells_between c.args.from c.args.to) false h ≡ None = rw count at c.in_ok-prepare.ensures.room in
    let few : c.args.to - c.args.from < command_limit =
    elim c.else-from-to.branch [
      | else-from-to-via-then-from-to+else-to-from-ge-COMMAND_LIMIT w ↦ omega (arith, w.if-to-from-ge-COMMAND_LIMIT)
      | else-from-to-via-else-from-to w ↦ absurd (omega (arith, w.if-from-to, c.if-to-from.false))
    ] in
    let none : edit_fault h.present.state (edits.SetCell c.args.to c.args.cell) ≡ None = search rules in
    rw (filled c.args.from c.args.to c.args.cell h.present.state c.if-to-from.false few none)
    (command_made m (retention c.set_mark.new.self) h (history c.set_mark.new.self) next rest (room_refusal m c.args.limit (cells_between c.args.from c.args.to) false h) one all c.standing.result
    room first others c.set_mark.ensures.places c.set_mark.ensures.retention c.standing.ensures)
