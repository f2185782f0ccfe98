use Rattle.std.proofs.Common.{◌≡◌, ◌≤◌, length, take, All, vec_len, vec_capacity}
use Rattle.std.specs.Prelude.{sum}
use Rattle.std.specs.List.{concat}
use Rattle.mars_core.specs.Queue.{Queue, addresses_of}
use Rattle.mars_core.specs.Validity.{IsQueue}
use Rattle.mars_core.specs.Block.{lengths_of}
use Rattle.mars_core.proofs.battle.block.queues.read_queues.Given as goal

abbrev pub invariant-loop-i : goal.invariant-loop-i
invariant-loop-i l = record {
  counts : lengths_of (addresses_of l.queues.items) ≡ take l.i l.counts;
  place : l.place ≡ sum (take l.i l.counts);
  words : concat (addresses_of l.queues.items) ≡ take l.place l.words;
  limits : All (λ (q : Queue). q.limit ≡ l.params.processes) l.queues.items;
  queues : All (IsQueue l.params.core_size l.params.processes) (addresses_of l.queues.items);
  many : vec_len l.queues ≡ l.i;
  room : length l.counts ≤ vec_capacity l.queues;
}
