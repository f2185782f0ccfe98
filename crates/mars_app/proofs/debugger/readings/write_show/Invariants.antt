use Rattle.std.proofs.Common.{◌++◌}
use Rattle.mars_app.specs.Debugger.Readings.{texts, warrior_text}
use Rattle.mars_app.specs.Debugger.Replies.{standing_text}
use Rattle.mars_app.specs.Code.Waiting.{Waits}
use Rattle.mars_app.proofs.debugger.readings.write_show.Given as goal

abbrev pub invariant-loop-warrior : goal.invariant-loop-warrior
invariant-loop-warrior g l =
    Waits (g.W.Write.contents l.initial.writer) (g.W.Write.contents l.writer) l.pending (standing_text l.fn.standing ++ texts (warrior_text l.battle) l.warrior)
