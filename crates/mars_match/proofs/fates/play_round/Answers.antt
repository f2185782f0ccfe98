use Rattle.mars_match.proofs.Ends.{room_started}
use Rattle.mars_match.proofs.fates.play_round.Goals as goal

pub returns-clause-room : goal.returns-clause-room
returns-clause-room c = rw (c.in_ok-counts.ensures.battle, c.deref_mut.ensures.value) (room_started c.args.params.now c.args.round.lineup.now c.args.round.starts.now c.args.round.number c.in_ok-battle.battle.value c.args.round.same_length c.args.round.some c.in_ok-battle.ensures.state)
