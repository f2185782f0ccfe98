use Rattle.std.proofs.Common.{◌≡◌, true, false}
use Rattle.mars_core.specs.Past.{copy_by, copies}
use Rattle.mars_core.specs.State.{cell_at}
use Rattle.mars_core.proofs.machine.copy.copy_by.Goals as goal

pub returns-then-not-copies-clause-copy : goal.returns-then-not-copies-clause-copy
unfolding copy_by
returns-then-not-copies-clause-copy c = λ p core pc is at.
    let i = cell_at core pc in
    let copied : copies i.op i.modifier ≡ false = cc in
    rw copied

pub returns-clause-copy : goal.returns-clause-copy
unfolding copy_by
returns-clause-copy c = λ p core pc is at.
    let i = cell_at core pc in
    let copied : copies i.op i.modifier ≡ true = cc in
    rw (copied, at.a_read, at.b_write)
