use Rattle.std.proofs.Common.{◌++◌, take}
use Rattle.std.specs.List.{flat_map}
use Rattle.mars_core.specs.State.{queue_of}
use Rattle.mars_app.specs.Debugger.Readings.{queue_head, process_text}
use Rattle.mars_app.specs.Code.Waiting.{Waits}
use Rattle.mars_app.proofs.debugger.readings.write_processes.Given as goal

abbrev pub invariant-loop-place : goal.invariant-loop-place
invariant-loop-place g l =
    Waits (g.W.Write.contents l.initial.writer) (g.W.Write.contents l.writer) l.pending
    (queue_head l.warrior ++ flat_map process_text (take l.place (queue_of l.battle.queues l.warrior)))
