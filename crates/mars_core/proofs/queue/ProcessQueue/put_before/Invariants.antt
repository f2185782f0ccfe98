use Rattle.std.proofs.Common.{◌≡◌, ◌-◌, ◌++◌, length, drop}
use Rattle.mars_core.proofs.queue.ProcessQueue.put_before.Given as goal

-- The last `i` processes are put before the queue.
abbrev pub invariant-loop-i : goal.invariant-loop-i
invariant-loop-i l = record {
  items : l.self-inside.ring.items ≡ drop (length l.addresses - l.i) l.addresses ++ l.fn.self.addresses;
  capacity : l.self-inside.ring.capacity ≡ l.fn.self.limit;
}
