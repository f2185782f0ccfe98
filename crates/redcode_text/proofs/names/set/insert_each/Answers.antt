use Rattle.std.proofs.Common.{arith}
use Rattle.redcode_text.proofs.NameSets.{one-more}
use Rattle.redcode_text.proofs.names.set.insert_each.Goals as goal

pub loop-name-preserved : goal.loop-name-preserved
loop-name-preserved c = record {
  room = omega (arith, c.loop-name.invariant.room, c.insert.ensures.spare, c.loop-name-test.true);
  same = one-more c.args.set.now.keys c.args.names.now c.loop-name.set.keys c.insert.new.self.keys c.loop-name.name-index 0 c.loop-name-test.true c.loop-name.invariant.same c.in-Ok.ensures.keys;
}
