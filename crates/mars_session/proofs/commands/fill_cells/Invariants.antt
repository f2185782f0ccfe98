use Rattle.std.proofs.Common.{◌≡◌, ◌≤◌, ◌+◌, ◌-◌, []}
use Rattle.std.specs.Prelude.{None}
use Rattle.mars_core.specs.Edit.{edit_fault}
use Rattle.mars_core.specs.declared.battle.edit.Edit.TheVariants as edits
use Rattle.mars_session.specs.Commands.{fills}
use Rattle.mars_session.specs.Code.Appending.{Kept, go_on_all}
use Rattle.mars_session.proofs.commands.fill_cells.Given as goal

-- The places so far, followed by the cells that are left, are those of the whole fill.
abbrev pub invariant-loop-address : goal.invariant-loop-address
invariant-loop-address g l =
    let history = g.T.Tape.history in
    let now : Kept = record { history = history l.tape; retention = g.T.Tape.retention l.tape } in
    let start : Kept = record { history = history l.fn.tape; retention = g.T.Tape.retention l.fn.tape } in
    record {
      filled : go_on_all now (fills (l.last - l.address) (l.address + 1) l.cell (history l.tape).present.state)
          ≡ go_on_all start (fills (l.last - l.first) (l.first + 1) l.cell (history l.fn.tape).present.state);
      last : (history l.tape).after ≡ [];
      room : l.last - l.address ≤ g.T.Tape.room l.tape;
      accepted : edit_fault (history l.tape).present.state (edits.SetCell l.last l.cell) ≡ None;
    }

abbrev pub decreases-loop-address : goal.decreases-loop-address
decreases-loop-address g l = l.last - l.address
