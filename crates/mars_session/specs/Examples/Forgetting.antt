-- Examples of calls if two places are kept beside the last one.
use Rattle.std.specs.Prelude.{[], ◌∷◌, Err, refl}
use Rattle.mars_core.specs.Examples.{the_machine}
use Rattle.mars_session.specs.declared.calls.Call.TheVariants.{Step, Run, Undo, Redo, Goto}
use Rattle.mars_session.specs.declared.calls.Refusal.TheVariants.{NothingToUndo, NothingToRedo, NotInHistory, Forgotten}
use Rattle.mars_session.specs.Examples.{stands, RepliesKeeping}

-- A place that a command drops after the present one does not count as evicted.
pub nothing_is_forgotten : RepliesKeeping 2
    (Step ∷ Undo ∷ Run 2 ∷ Undo ∷ Undo ∷ [])
    (stands 1 1 1 ∷ stands 0 0 1 ∷ stands 2 2 2 ∷ stands 0 0 2 ∷ Err NothingToUndo ∷ [])
unfolding the_machine
nothing_is_forgotten = refl

-- The run evicts its start, so the first place that is kept is not marked and the run cannot be undone.
pub a_run_of_more_places : RepliesKeeping 2
    (Run 3 ∷ Undo ∷ Goto 0 ∷ Goto 1 ∷ Step ∷ Undo ∷ Undo ∷ Redo ∷ [])
    (stands 3 2 2 ∷ Err Forgotten ∷ Err (NotInHistory 1 3) ∷ stands 1 0 2 ∷ stands 2 1 1 ∷ stands 1 0 1 ∷ Err Forgotten ∷ stands 2 1 1 ∷ [])
unfolding the_machine
a_run_of_more_places = refl

pub commands_one_after_another : RepliesKeeping 2
    (Run 3 ∷ Run 2 ∷ Step ∷ Undo ∷ Undo ∷ [])
    (stands 3 2 2 ∷ stands 5 2 2 ∷ stands 6 2 2 ∷ stands 5 1 2 ∷ Err Forgotten ∷ [])
unfolding the_machine
commands_one_after_another = refl

-- A place keeps its mark if it becomes the first one.
pub the_first_place_is_marked : RepliesKeeping 2
    (Step ∷ Run 2 ∷ Undo ∷ Undo ∷ Redo ∷ Redo ∷ [])
    (stands 1 1 1 ∷ stands 3 2 2 ∷ stands 1 0 2 ∷ Err Forgotten ∷ stands 3 2 2 ∷ Err NothingToRedo ∷ [])
unfolding the_machine
the_first_place_is_marked = refl
