use Rattle.std.proofs.Common.{◌∙◌, ap}
use Rattle.mars_match.specs.Code.Deeds.{counts_in}
use Rattle.mars_match.proofs.Deeds.{counts_are}
use Rattle.mars_match.proofs.counts.Deeds.counts.Goals as goal

pub returns : goal.returns
returns c =
    let d = c.self.inside in
    let m = c.count_marked-marked in
    counts_are d.turns d.spawned m.result.executed m.result.written m.result.touched d.marks.items
    (rw c.deref.ensures.value at m.ensures.executed) (rw c.deref.ensures.value at m.ensures.written) (rw c.deref.ensures.value at m.ensures.touched)
    ∙ ap counts_in c.self.view_is
