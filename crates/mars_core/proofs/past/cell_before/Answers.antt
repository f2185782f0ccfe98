use Rattle.std.proofs.Common.{sym, ◌∙◌, arith}
use Rattle.mars_core.proofs.Pasts.{first_write, other_write}
use Rattle.mars_core.proofs.past.cell_before.Goals as goal

pub returns-then-write-address : goal.returns-then-write-address
returns-then-write-address c =
    let i = c.loop-write.write-index in
    sym (c.loop-write.invariant ∙ first_write c.args.writes.now c.args.core.now i c.args.address c.write-item.result
    (omega arith) (sym c.write-item.is) c.if-write-address.true c.requires.inside)

pub loop-write-preserved : goal.loop-write-preserved
loop-write-preserved c =
    let i = c.loop-write.write-index in
    c.loop-write.invariant ∙ other_write c.args.writes.now c.args.core.now i c.args.address c.write-item.result
    (omega arith) (sym c.write-item.is) c.if-write-address.false
