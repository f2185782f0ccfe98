use Rattle.std.proofs.Common.{◌≡◌, drop}
use Rattle.std.specs.List.{list_all}
use Rattle.mars_core.specs.Code.Searches.{IsSeen}
use Rattle.mars_core.specs.Search.{holds, on}
use Rattle.mars_core.specs.State.{State}
use Rattle.mars_core.proofs.search.all_hold.Given as goal

abbrev pub invariant-loop-condition : goal.invariant-loop-condition
invariant-loop-condition l = (s : State) → IsSeen s l.seen.core.now l.seen.atom.now
    → list_all (holds s l.seen.pasts.now l.address) (on l.way l.conditions)
    ≡ list_all (holds s l.seen.pasts.now l.address) (on l.way (drop l.condition-index l.conditions))
