use Rattle.std.proofs.Common.{◌≡◌, ◌≤◌, length, drop, map, All, ◌++◌, ◌∷◌, [], vec_len, vec_capacity}
use Rattle.mars_core.specs.Queue.{Queue, addresses_of}
use Rattle.mars_core.specs.Start.{first_processes}
use Rattle.mars_core.proofs.battle.start.first_queues.Given as goal

abbrev pub invariant-loop-i : goal.invariant-loop-i
invariant-loop-i l = record {
  made : addresses_of l.queues.items ++ map (λ address. address ∷ []) (first_processes l.params.core_size (drop l.i l.warriors) (drop l.i l.starts)) ≡ map (λ address. address ∷ []) (first_processes l.params.core_size l.warriors l.starts);
  limits : All (λ (q : Queue). q.limit ≡ l.params.processes) l.queues.items;
  count : vec_len l.queues ≡ l.i;
  room : length l.warriors ≤ vec_capacity l.queues;
}
