-- The errors of the state of a block are errors of the words of the block.
use Rattle.std.proofs.Common.{◌≡◌, ◌*◌, ℕ, List, inr, subst, sym, take, drop}
use Rattle.std.specs.Prelude.{slice_index_or}
use Rattle.std.specs.List.{concat}
use Rattle.mars_cell.specs.Parameters.{Parameters}
use Rattle.mars_core.specs.Block.{death_words, lengths_of, params_in}
use Rattle.mars_core.specs.BlockFaults.{IsWrong, counts_in, head_in, processes_in}
use Rattle.mars_core.specs.Code.Blocks.{IsStateFault}
use Rattle.mars_core.specs.Validity.{IsClock}
use Rattle.mars_core.specs.declared.battle.block.BlockFault.{BlockFault}
use Rattle.mars_core.specs.declared.battle.block.BlockFault.TheVariants as fault
use Rattle.mars_core.specs.declared.deaths.Death.{Death}
use Rattle.mars_core.specs.declared.machine.clock.Clock.{Clock}

-- The clock in a header.
abbrev clock_in : List ℕ → Clock
clock_in head = record { next = slice_index_or head 12 0; cycle = slice_index_or head 11 0 }

pub state_wrong : (words head : List ℕ) (p : Parameters) (queues : List (List ℕ)) (deaths : List Death) (problem : BlockFault)
    → head ≡ head_in words → p ≡ params_in head → lengths_of queues ≡ counts_in words → concat queues ≡ processes_in words
    → death_words deaths ≡ take (2 * slice_index_or head 14 0) (drop 32 head)
    → IsStateFault p.cycles queues (record { next = slice_index_or head 12 0; cycle = slice_index_or head 11 0 }) (slice_index_or head 10 0) deaths problem
    → IsWrong words problem
state_wrong words head p queues deaths fault.Deaths same params counts processes died wrong =
    inr (queues, deaths, (counts, processes), subst (λ (h : List ℕ). death_words deaths ≡ take (2 * slice_index_or h 14 0) (drop 32 h)) same died, wrong)
state_wrong words head p queues deaths fault.Clock same params counts processes died wrong = (
  queues,
  (counts, processes),
  λ is. wrong (subst (λ (q : Parameters). IsClock q.cycles queues (clock_in head) (slice_index_or head 10 0)) (sym params)
      (subst (λ (h : List ℕ). IsClock (params_in h).cycles queues (clock_in h) (slice_index_or h 10 0)) (sym same) is)),
)
state_wrong words head p queues deaths other same params counts processes died wrong = absurd wrong
