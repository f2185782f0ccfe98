use Rattle.std.proofs.Common.{rules, subst}
use Rattle.mars_core.specs.Validity.{IsValid}
use Rattle.mars_core.proofs.BlockParts.{spelled}
use Rattle.mars_core.proofs.battle.Battle.read_block.Goals as goal

pub returns-clause-battle : goal.returns-clause-battle
returns-clause-battle c =
    spelled c.in_ok-battle.battle c.args.words.now c.in_ok-parts.parts.head.now c.in_ok-parts.parts.cells.now c.in_ok-parts.parts.processes.now
    (subst IsValid c.battle.view_is c.battle.invariant.valid) c.in_ok-parts.ensures.words (c.has_head.ensures.yes c.if-not-has_head.false) c.in_ok-battle.ensures.core c.in_ok-battle.ensures.queues

pub returns-in_err-battle-clause-wrong : goal.returns-in_err-battle-clause-wrong
returns-in_err-battle-clause-wrong c =
    let split = c.in_ok-parts.ensures.split in
    let wrong = c.in_err-battle.ensures.wrong c.args.words.now split.0 split.1 split.2 split.3 in
    search rules
