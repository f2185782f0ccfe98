use Rattle.std.proofs.Common.{◌≡◌, ◌+◌, ◌-◌, ◌/◌, ◌≤◌, arith, length, refl}
use Rattle.std.proofs.lemmas.List.{replicate-append-replicate, take-replicate}
use Rattle.mars_cell.specs.Cells.{empty_cell}
use Rattle.mars_core.proofs.battle.start.+clear.Goals as goal

pub returns : goal.returns
returns t c =
    let n = length c.args.cells.now in
    let copied = n / 2 in
    let less : copied ≤ n - copied = omega arith in
    let all : n - copied + copied ≡ n = omega arith in
    rw (c.copy_from_slice.ensures.after, c.clear.ensures, c.split_at_mut-first.ensures.front_len, take-replicate copied (n - copied) empty_cell less, replicate-append-replicate, all) refl
