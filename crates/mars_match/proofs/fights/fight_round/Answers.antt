use Rattle.mars_match.proofs.Ends.{ended_from_started, fought_from_started, room_started}
use Rattle.mars_match.proofs.fights.fight_round.Goals as goal

pub returns-clause-survivors : goal.returns-clause-survivors
returns-clause-survivors c = rw (c.end.ensures, c.deref_mut.ensures.value) (fought_from_started c.args.params.now c.args.round.lineup.now c.args.round.starts.now c.args.round.number c.in_ok-battle.battle.value c.in_ok-battle.ensures.state)

pub returns-clause-state : goal.returns-clause-state
returns-clause-state c = rw (c.end.ensures, c.deref_mut.ensures.value) (ended_from_started c.args.params.now c.args.round.lineup.now c.args.round.starts.now c.args.round.number c.in_ok-battle.battle.value c.in_ok-battle.ensures.state)

pub returns-clause-room : goal.returns-clause-room
returns-clause-room c = rw (c.end.ensures, c.deref_mut.ensures.value) (room_started c.args.params.now c.args.round.lineup.now c.args.round.starts.now c.args.round.number c.in_ok-battle.battle.value c.args.round.same_length c.args.round.some c.in_ok-battle.ensures.state)
