use Rattle.std.proofs.Common.{◌≡◌, drop}
use Rattle.std.specs.List.{list_all, list_any}
use Rattle.mars_core.specs.Code.Searches.{IsSeen}
use Rattle.mars_core.specs.Search.{holds, on}
use Rattle.mars_core.specs.State.{State}
use Rattle.mars_core.proofs.search.one_meets.Given as goal

abbrev pub invariant-loop-address : goal.invariant-loop-address
invariant-loop-address l = (s : State) → IsSeen s l.seen.core.now l.seen.atom.now
    → list_any (λ a. list_all (holds s l.seen.pasts.now a) (on l.way l.conditions)) l.used
    ≡ list_any (λ a. list_all (holds s l.seen.pasts.now a) (on l.way l.conditions)) (drop l.address-index l.used)
