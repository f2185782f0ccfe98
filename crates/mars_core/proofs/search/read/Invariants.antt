use Rattle.std.proofs.Common.{◌≡◌, ◌≤◌, ◌<◌, ℕ, ◌==◌, ◌&&◌, not, All, length, take}
use Rattle.std.specs.List.{list_any}
use Rattle.mars_core.specs.Start.{is_in}
use Rattle.mars_core.specs.declared.machine.writes.CellChange.{CellChange}
use Rattle.mars_core.proofs.search.read.Given as goal

-- The addresses are those that were touched so far and not written.
abbrev pub invariant-loop-address : goal.invariant-loop-address
invariant-loop-address l = record {
  few : length l.addresses.items ≤ l.address-index;
  inside : All (λ address. address < length l.seen.core.now) l.addresses.items;
  found : (a : ℕ) → is_in l.addresses.items a
      ≡ (is_in (take l.address-index l.touched) a && not (list_any (λ (write : CellChange). write.address == a) l.writes));
}
