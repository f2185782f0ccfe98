-- A battle after equal steps of turns: the cells and processes of each warrior, and the number of turns that were
-- found.
use Rattle.std.specs.Prelude.{ℕ, zero, suc, ◌==◌, List, [], ◌∷◌, length, map, filter}
use Rattle.std.specs.List.{range_with_len}
use Rattle.mars_core.specs.Block.{lengths_of, padded}
use Rattle.mars_core.specs.Limits.{max_warriors}
use Rattle.mars_core.specs.Past.{followed}
use Rattle.mars_core.specs.Search.{found_in}
use Rattle.mars_core.specs.State.{State}
use Rattle.mars_core.specs.Turn.{after_turns}
use Rattle.mars_core.specs.declared.battle.moments.Moment.{Moment}
use Rattle.mars_core.specs.declared.past.Past.{Past}
use Rattle.mars_core.specs.declared.search.Condition.{Condition}

-- The number of cells that `warrior` owns, where `pasts` are the pasts of all cells.
abbrev pub owned_by : List Past → ℕ → ℕ
owned_by pasts warrior = length (filter (λ (past : Past). past.owner == warrior) pasts)

-- The moment of the state `s`, after a step in which `found` turns met conditions. Each list has `max_warriors`
-- entries.
abbrev pub moment_of : State → List Past → ℕ → Moment
moment_of s pasts found = record {
  turns = s.turns;
  found = found;
  cells = map (owned_by pasts) (range_with_len 0 max_warriors);
  processes = padded max_warriors (lengths_of s.queues);
}

-- The moments after 1 to `n` steps from `s` on, each of `step` turns, or of as many as are left in the battle.
abbrev pub moments_after : ℕ → ℕ → List Condition → State → List Past → List Moment
moments_after zero step conditions s pasts = []
moments_after (suc n) step conditions s pasts =
    let after = after_turns step s in
    let pasts_after = followed step s pasts in
    moment_of after pasts_after (length (found_in conditions step s pasts)) ∷ moments_after n step conditions after pasts_after
