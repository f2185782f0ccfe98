use Rattle.std.proofs.Common.{arith}
use Rattle.mars_core.proofs.Accepted.{accepted_set_cell, accepted_move, accepted_kill, accepted_spawn, small_place, small_warrior}
use Rattle.mars_core.proofs.battle.Battle.make_edit.Goals as goal

pub overflow_cast-address : goal.overflow_cast-address
overflow_cast-address c =
    omega (arith, (accepted_set_cell c.args.self.now c.in-SetCell.address c.in-SetCell.cell (rw c.in-SetCell.is at c.requires.accepted)).0, c.requires.valid.params.core_most)

pub set_cell-requires-clause-address : goal.set_cell-requires-clause-address
set_cell-requires-clause-address c =
    (accepted_set_cell c.args.self.now c.in-SetCell.address c.in-SetCell.cell (rw c.in-SetCell.is at c.requires.accepted)).0

pub set_cell-requires-clause-cell : goal.set_cell-requires-clause-cell
set_cell-requires-clause-cell c =
    (accepted_set_cell c.args.self.now c.in-SetCell.address c.in-SetCell.cell (rw c.in-SetCell.is at c.requires.accepted)).1

pub overflow_cast-warrior : goal.overflow_cast-warrior
overflow_cast-warrior c =
    omega (arith, small_warrior c.args.self.now c.requires.valid c.in-MoveProcess.warrior (accepted_move c.args.self.now c.in-MoveProcess.warrior c.in-MoveProcess.place c.in-MoveProcess.address (rw c.in-MoveProcess.is at c.requires.accepted)).1.warrior)

pub overflow_cast-place : goal.overflow_cast-place
overflow_cast-place c =
    omega (arith, small_place c.args.self.now c.requires.valid c.in-MoveProcess.warrior c.in-MoveProcess.place (accepted_move c.args.self.now c.in-MoveProcess.warrior c.in-MoveProcess.place c.in-MoveProcess.address (rw c.in-MoveProcess.is at c.requires.accepted)).1)

pub overflow_cast-address-in-MoveProcess : goal.overflow_cast-address-in-MoveProcess
overflow_cast-address-in-MoveProcess c =
    omega (arith, (accepted_move c.args.self.now c.in-MoveProcess.warrior c.in-MoveProcess.place c.in-MoveProcess.address (rw c.in-MoveProcess.is at c.requires.accepted)).0, c.requires.valid.params.core_most)

pub move_process-requires-clause-process : goal.move_process-requires-clause-process
move_process-requires-clause-process c =
    (accepted_move c.args.self.now c.in-MoveProcess.warrior c.in-MoveProcess.place c.in-MoveProcess.address (rw c.in-MoveProcess.is at c.requires.accepted)).1

pub move_process-requires-clause-address : goal.move_process-requires-clause-address
move_process-requires-clause-address c =
    (accepted_move c.args.self.now c.in-MoveProcess.warrior c.in-MoveProcess.place c.in-MoveProcess.address (rw c.in-MoveProcess.is at c.requires.accepted)).0

pub overflow_cast-warrior-in-KillProcess : goal.overflow_cast-warrior-in-KillProcess
overflow_cast-warrior-in-KillProcess c =
    omega (arith, small_warrior c.args.self.now c.requires.valid c.in-KillProcess.warrior (accepted_kill c.args.self.now c.in-KillProcess.warrior c.in-KillProcess.place (rw c.in-KillProcess.is at c.requires.accepted)).warrior)

pub overflow_cast-place-in-KillProcess : goal.overflow_cast-place-in-KillProcess
overflow_cast-place-in-KillProcess c =
    omega (arith, small_place c.args.self.now c.requires.valid c.in-KillProcess.warrior c.in-KillProcess.place (accepted_kill c.args.self.now c.in-KillProcess.warrior c.in-KillProcess.place (rw c.in-KillProcess.is at c.requires.accepted)))

pub kill_process-requires : goal.kill_process-requires
kill_process-requires c =
    accepted_kill c.args.self.now c.in-KillProcess.warrior c.in-KillProcess.place (rw c.in-KillProcess.is at c.requires.accepted)

pub overflow_cast-warrior-in-Spawn : goal.overflow_cast-warrior-in-Spawn
overflow_cast-warrior-in-Spawn c =
    omega (arith, small_warrior c.args.self.now c.requires.valid c.in-Spawn.warrior (accepted_spawn c.args.self.now c.in-Spawn.warrior c.in-Spawn.address (rw c.in-Spawn.is at c.requires.accepted)).warrior)

pub overflow_cast-address-in-Spawn : goal.overflow_cast-address-in-Spawn
overflow_cast-address-in-Spawn c =
    omega (arith, (accepted_spawn c.args.self.now c.in-Spawn.warrior c.in-Spawn.address (rw c.in-Spawn.is at c.requires.accepted)).address_in, c.requires.valid.params.core_most)

pub spawn-requires : goal.spawn-requires
spawn-requires c =
    accepted_spawn c.args.self.now c.in-Spawn.warrior c.in-Spawn.address (rw c.in-Spawn.is at c.requires.accepted)
