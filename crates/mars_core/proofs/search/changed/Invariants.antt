use Rattle.std.proofs.Common.{◌≡◌, ◌≤◌, ◌<◌, ℕ, ◌==◌, ◌&&◌, All, length, take}
use Rattle.std.specs.List.{list_any}
use Rattle.mars_core.specs.Start.{is_in}
use Rattle.mars_core.specs.declared.machine.writes.CellChange.{CellChange}
use Rattle.mars_core.proofs.Pasts.{differs}
use Rattle.mars_core.proofs.search.changed.Given as goal

-- The addresses are those of the writes so far whose cells the turn changed.
abbrev pub invariant-loop-write : goal.invariant-loop-write
invariant-loop-write l = record {
  few : length l.addresses.items ≤ l.write-index;
  inside : All (λ address. address < length l.seen.core.now) l.addresses.items;
  found : (a : ℕ) → is_in l.addresses.items a
      ≡ (list_any (λ (write : CellChange). write.address == a) (take l.write-index l.writes) && differs l.writes l.seen.core.now a);
}
