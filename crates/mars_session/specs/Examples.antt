-- Examples, as theorems: the check computes what the definitions return. This file has the abbreviations that the examples use.
pub mod Histories
pub mod Commands
pub mod Forgetting
pub mod Scripts
pub mod Laws
use Rattle.std.specs.Prelude.{◌≡◌, ℕ, false, List, [], ◌∷◌, Some, Result, Ok}
use Rattle.mars_cell.specs.declared.instruction.Op.TheVariants.{Mov}
use Rattle.mars_cell.specs.declared.instruction.Modifier.TheVariants.{I}
use Rattle.mars_cell.specs.declared.instruction.Mode.TheVariants.{Direct}
use Rattle.mars_core.specs.Examples.{cell_of, of_eight, eight, lone}
use Rattle.mars_core.specs.State.{State}
use Rattle.mars_session.specs.declared.calls.Call.{Call}
use Rattle.mars_session.specs.declared.calls.Standing.{Standing}
use Rattle.mars_session.specs.declared.calls.Refusal.{Refusal}
use Rattle.mars_session.specs.History.{beginning}
use Rattle.mars_session.specs.Retention.{never}
use Rattle.mars_session.specs.Script.{script}

-- A battle of a single imp, which copies itself to the next cell in each turn.
abbrev pub imp : State
imp = lone of_eight (eight (cell_of Mov I Direct 0 Direct 1 ∷ [])) (0 ∷ [])

-- The reply after `turns` turns of the imp, at place `position` of a history whose last place is `last`.
abbrev pub stands : ℕ → ℕ → ℕ → Result Standing Refusal
stands turns position last = Ok (record { turns = turns; cycle = turns; next = 0; alive = 1; position = position; last = last })

-- `replies` are the replies to `calls` over the imp if all places are kept and the limit is `limit`.
abbrev pub RepliesWithin : ℕ → List Call → List (Result Standing Refusal) → Type 0
RepliesWithin limit calls replies = (script never limit calls [] (beginning imp)).replies ≡ replies

-- `replies` are the replies to `calls` over the imp if `k` places are kept beside the last one.
abbrev pub RepliesKeeping : ℕ → List Call → List (Result Standing Refusal) → Type 0
RepliesKeeping k calls replies = (script (record { most = Some k; forgotten = false }) 0 calls [] (beginning imp)).replies ≡ replies
