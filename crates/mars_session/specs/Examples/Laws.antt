-- Examples of commands that are undone one by one, and redone.
use Rattle.std.specs.Prelude.{◌≡◌, false, List, [], ◌∷◌, Some, replicate, refl}
use Rattle.mars_core.specs.Examples.{the_machine}
use Rattle.mars_session.specs.declared.calls.Call.{Call}
use Rattle.mars_session.specs.declared.calls.Call.TheVariants.{Step, Run, Undo}
use Rattle.mars_session.specs.History.{History, beginning}
use Rattle.mars_session.specs.Laws.{UndoRedoRoundTrip, total_appended}
use Rattle.mars_session.specs.Retention.{Retention, never}
use Rattle.mars_session.specs.Script.{ScriptResult, script}
use Rattle.mars_session.specs.Examples.{imp}

-- A step and a run of two turns.
abbrev calls : List Call
calls = Step ∷ Run 2 ∷ []

-- The result of `calls` on the imp with the retention `m`; `back` is the history after two undos of these commands.
abbrev done : Retention → ScriptResult
done m = script m 100 calls [] (beginning imp)

abbrev back : Retention → History
back m = (script (done m).retention 100 (replicate 2 Undo) [] (done m).history).history

pub two_commands_are_undone : UndoRedoRoundTrip never 100 2 [] [] (beginning imp) (back never) (done never).history
unfolding the_machine
two_commands_are_undone = record { undone = refl; retention = refl; state = refl; redone = refl; same = refl }

-- The commands append three places together. If three places are kept, they can be undone and redone.
abbrev three : Retention
three = record { most = Some 3; forgotten = false }

pub three_places_are_appended : total_appended three 100 calls [] (beginning imp) ≡ 3
unfolding the_machine
three_places_are_appended = refl

pub kept_commands_are_undone : UndoRedoRoundTrip (done three).retention 100 2 [] [] (beginning imp) (back three) (done three).history
unfolding the_machine
kept_commands_are_undone = record { undone = refl; retention = refl; state = refl; redone = refl; same = refl }

-- If only two places are kept, the second undo would need a place that was evicted, so the commands cannot be undone.
pub forgotten_commands_are_not : let two : Retention = record { most = Some 2; forgotten = false } in
    UndoRedoRoundTrip (done two).retention 100 2 [] [] (beginning imp) (back two) (done two).history → ⊥
unfolding the_machine
forgotten_commands_are_not goes = cc (goes.undone)
