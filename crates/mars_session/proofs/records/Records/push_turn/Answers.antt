use Rattle.std.proofs.Common.{ap, false}
use Rattle.circular_buffer.specs.Buffer.{buffer}
use Rattle.mars_core.specs.Turn.{turn_record}
use Rattle.mars_session.proofs.Replacing.{replaced}
use Rattle.mars_session.proofs.records.Records.push_turn.Goals as goal

pub returns-clause-ring : goal.returns-clause-ring
returns-clause-ring c =
    rw (c.len-last.ensures.len, c.push.ensures.ring, c.turn_into.ensures.record)
    (ap (λ items. buffer items c.args.self.now.ring.capacity)
    (replaced c.args.self.now.ring.capacity c.args.self.now.ring.items (c.default.result, false) (turn_record c.args.battle.now, false) c.requires.some))
