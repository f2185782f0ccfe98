use Rattle.std.proofs.Common.{◌≡◌, ◌≤◌, take, length, vec_len, vec_capacity}
use Rattle.mars_core.proofs.queue.copy_queues.Given as goal

abbrev pub invariant-loop-queue : goal.invariant-loop-queue
invariant-loop-queue l = record {
  copied : l.copies.items ≡ take l.queue-index l.queues;
  count : vec_len l.copies ≡ l.queue-index;
  room : length l.queues ≤ vec_capacity l.copies;
}
