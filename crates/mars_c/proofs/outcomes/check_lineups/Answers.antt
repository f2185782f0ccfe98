use Rattle.std.proofs.Common.{rules}
use Rattle.std.proofs.lemmas.List.{take_all}
use Rattle.std.proofs.lemmas.List.Elements.{All-more}
use Rattle.mars_c.specs.Outcomes.{IsLineup}
use Rattle.mars_c.proofs.outcomes.check_lineups.Goals as goal

pub loop-i-preserved : goal.loop-i-preserved
loop-i-preserved c = All-more (IsLineup c.args.count) c.args.lineups.now c.loop-i.i _ c.loop-i-test.true c.loop-i.invariant (c.lineup_fault.ensures.right (search rules))

pub returns-clause-right : goal.returns-clause-right
returns-clause-right c = rw (take_all c.loop-i.i c.args.lineups.now c.loop-i-test.false) at c.loop-i.invariant
