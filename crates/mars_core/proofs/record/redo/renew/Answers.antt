use Rattle.mars_core.proofs.record.redo.renew.Goals as goal

pub take_round-requires-clause-alive : goal.take_round-requires-clause-alive
take_round-requires-clause-alive c = (rw c.in-Turn.is at c.requires).0

pub take_round-requires-clause-room : goal.take_round-requires-clause-room
take_round-requires-clause-room c = (rw c.in-Turn.is at c.requires).1

pub replace-requires : goal.replace-requires
replace-requires c = rw c.in-MoveProcess.is at c.requires

pub remove-requires : goal.remove-requires
remove-requires c = rw c.in-KillProcess.is at c.requires

pub push-requires : goal.push-requires
push-requires c = rw c.in-Spawn.is at c.requires
