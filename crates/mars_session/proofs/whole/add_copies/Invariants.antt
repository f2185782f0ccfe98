use Rattle.std.proofs.Common.{◌-◌, ◌+◌, vec_len}
use Rattle.mars_session.specs.Code.Whole.{IsGrown}
use Rattle.mars_session.proofs.whole.add_copies.Given as goal

abbrev pub invariant-copies : goal.invariant-copies
invariant-copies l = IsGrown l.fn.copies.items l.copies.items l.at

abbrev pub decreases-copies : goal.decreases-copies
decreases-copies l = l.n - (vec_len l.copies - (l.at + 1))
