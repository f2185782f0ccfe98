use Rattle.mars_core.proofs.record.undo.restore.Goals as goal

pub put_back-requires-clause-queued : goal.put_back-requires-clause-queued
put_back-requires-clause-queued c = (rw c.in-Turn.is at c.requires).0

pub put_back-requires-clause-room : goal.put_back-requires-clause-room
put_back-requires-clause-room c = (rw c.in-Turn.is at c.requires).1

pub replace-requires : goal.replace-requires
replace-requires c = rw c.in-MoveProcess.is at c.requires

pub insert-requires-clause-place : goal.insert-requires-clause-place
insert-requires-clause-place c = (rw c.in-KillProcess.is at c.requires).0

pub insert-requires-clause-room : goal.insert-requires-clause-room
insert-requires-clause-room c = (rw c.in-KillProcess.is at c.requires).1
