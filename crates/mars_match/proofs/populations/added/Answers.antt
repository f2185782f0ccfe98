use Rattle.std.proofs.Common.{rules}
use Rattle.mars_match.proofs.Candidates.{added_bounds}
use Rattle.mars_match.proofs.populations.added.Goals as goal

pub returns-clause-bounds : goal.returns-clause-bounds
returns-clause-bounds c = added_bounds c.args.matches c.args.total _ c.args.tally (search rules) c.requires.before c.requires.rounds c.requires.points
