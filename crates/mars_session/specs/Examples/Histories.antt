-- Examples of calls if all places are kept.
use Rattle.std.specs.Prelude.{◌≡◌, false, true, [], ◌∷◌, Err, refl}
use Rattle.mars_core.specs.Examples.{the_machine}
use Rattle.mars_session.specs.declared.calls.Call.TheVariants.{Step, Run, Until, Kill, Undo, Redo, Goto}
use Rattle.mars_session.specs.declared.calls.Refusal.TheVariants.{Count, NoSuchProcess, CyclePassed, NothingToUndo, NothingToRedo, NotInHistory, JournalFull, OutOfMemory}
use Rattle.mars_session.specs.History.{beginning}
use Rattle.mars_session.specs.Retention.{never}
use Rattle.mars_session.specs.Script.{script}
use Rattle.mars_session.specs.Examples.{imp, stands, RepliesWithin}

pub steps_are_undone_and_redone : RepliesWithin 100
    (Step ∷ Step ∷ Undo ∷ Undo ∷ Undo ∷ Redo ∷ Redo ∷ Redo ∷ [])
    (stands 1 1 1 ∷ stands 2 2 2 ∷ stands 1 1 2 ∷ stands 0 0 2 ∷ Err NothingToUndo ∷ stands 1 1 2 ∷ stands 2 2 2 ∷ Err NothingToRedo ∷ [])
unfolding the_machine
steps_are_undone_and_redone = refl

pub undo_from_the_middle_of_a_run : RepliesWithin 100
    (Run 4 ∷ Goto 2 ∷ Goto 9 ∷ Undo ∷ Redo ∷ Goto 9 ∷ [])
    (stands 4 4 4 ∷ stands 2 2 4 ∷ Err (NotInHistory 0 4) ∷ stands 0 0 4 ∷ stands 4 4 4 ∷ Err (NotInHistory 0 4) ∷ [])
unfolding the_machine
undo_from_the_middle_of_a_run = refl

pub a_command_drops_what_follows : RepliesWithin 100
    (Run 4 ∷ Goto 2 ∷ Step ∷ Undo ∷ Redo ∷ [])
    (stands 4 4 4 ∷ stands 2 2 4 ∷ stands 3 3 3 ∷ stands 2 2 3 ∷ stands 3 3 3 ∷ [])
unfolding the_machine
a_command_drops_what_follows = refl

pub a_history_of_two_places : RepliesWithin 2
    (Run 3 ∷ Run 2 ∷ Step ∷ Undo ∷ Step ∷ [])
    (Err (JournalFull 2) ∷ stands 2 2 2 ∷ Err (JournalFull 0) ∷ stands 0 0 2 ∷ stands 1 1 1 ∷ [])
unfolding the_machine
a_history_of_two_places = refl

pub refused_calls : RepliesWithin 100
    (Until 3 ∷ Until 3 ∷ Run 0 ∷ Kill 0 1 ∷ [])
    (stands 3 3 3 ∷ Err (CyclePassed 3) ∷ Err Count ∷ Err NoSuchProcess ∷ [])
unfolding the_machine
refused_calls = refl

-- If an allocation fails, a run that needs more places than follow the present one is refused, and nothing is lost. A
-- run that needs no more places is executed.
pub memory_runs_out : (script never 100 (Step ∷ Step ∷ Undo ∷ Undo ∷ Run 3 ∷ Redo ∷ Redo ∷ Goto 0 ∷ Run 2 ∷ []) (false ∷ false ∷ false ∷ false ∷ true ∷ false ∷ false ∷ false ∷ true ∷ []) (beginning imp)).replies
    ≡ stands 1 1 1 ∷ stands 2 2 2 ∷ stands 1 1 2 ∷ stands 0 0 2 ∷ Err OutOfMemory ∷ stands 1 1 2 ∷ stands 2 2 2 ∷ stands 0 0 2 ∷ stands 2 2 2 ∷ []
unfolding the_machine
memory_runs_out = refl

pub full_journal_comes_before_out_of_memory : (script never 2 (Run 3 ∷ []) (true ∷ []) (beginning imp)).replies ≡ Err (JournalFull 2) ∷ []
unfolding the_machine
full_journal_comes_before_out_of_memory = refl
