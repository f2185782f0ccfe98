-- Examples of calls one after another, each executed on the session that the previous one left, and of the room of a
-- tape.
use Rattle.std.specs.Prelude.{◌≡◌, ℕ, [], ◌∷◌, Err, refl}
use Rattle.std.proofs.Common.{arith}
use Rattle.mars_core.specs.Examples.{the_machine}
use Rattle.mars_session.specs.declared.calls.Call.TheVariants.{Step, Run, Undo}
use Rattle.mars_session.specs.declared.calls.Refusal.TheVariants.{NothingToUndo, OutOfMemory}
use Rattle.mars_session.specs.History.{History, beginning}
use Rattle.mars_session.specs.Retention.{never}
use Rattle.mars_session.specs.Script.{CallsMeetSpec, SessionValue, script}
use Rattle.mars_session.specs.Examples.{imp, stands}

-- A session of the imp with the history `h`, over a tape that keeps all places and has room for `room` places.
abbrev session : History → ℕ → SessionValue
session h room = record { state = record { history = h; limit = 100; retention = never }; room = room }

-- The history after the imp executed `n` turns.
abbrev after_steps : ℕ → History
after_steps n = (script never 100 (Run n ∷ []) [] (beginning imp)).history

pub the_second_step_follows_the_first : CallsMeetSpec (session (beginning imp) 100)
    (Step ∷ Undo ∷ Undo ∷ Step ∷ [])
    (stands 1 1 1 ∷ stands 0 0 1 ∷ Err NothingToUndo ∷ stands 1 1 1 ∷ [])
    (session (after_steps 1) 100)
unfolding the_machine
the_second_step_follows_the_first =
    let stepped = session (after_steps 1) 100 in
    let undone = session (script never 100 (Step ∷ Undo ∷ []) [] (beginning imp)).history 100 in
    (stepped, (refl, refl, λ e. cc), (undone, (refl, refl, λ e. cc), (undone, (refl, refl, λ e. cc), (stepped, (refl, refl, λ e. cc), refl))))

-- An allocation may fail if the tape has less room than the call needs.
pub a_step_that_finds_no_room : CallsMeetSpec (session (beginning imp) 0) (Step ∷ []) (Err OutOfMemory ∷ []) (session (beginning imp) 0)
unfolding the_machine
a_step_that_finds_no_room = (session (beginning imp) 0, (refl, refl, λ e. omega arith), refl)

-- No allocation fails if the tape has as much room as the call needs.
pub a_step_that_finds_room : (new : SessionValue) → CallsMeetSpec (session (beginning imp) 1) (Step ∷ []) (Err OutOfMemory ∷ []) new → ⊥
unfolding the_machine
a_step_that_finds_room new answers = let less = answers.1.2 refl in omega (arith, less)

pub each_call_has_a_reply : (old new : SessionValue) → CallsMeetSpec old (Step ∷ []) [] new → ⊥
each_call_has_a_reply old new answers = answers

pub each_reply_has_a_call : (old new : SessionValue) → CallsMeetSpec old [] (Err NothingToUndo ∷ []) new → ⊥
each_reply_has_a_call old new answers = answers

-- An empty list of calls leaves the session as it was.
pub no_call_leaves_the_session : (old new : SessionValue) → CallsMeetSpec old [] [] new → new ≡ old
no_call_leaves_the_session old new answers = answers
