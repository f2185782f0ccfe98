use Rattle.mars_session.proofs.ForLaws.Limits.{calls_keep_limit}
use Rattle.mars_session.proofs.laws.calls_keep_limit.Goals as goal

pub returns : goal.returns
returns c = calls_keep_limit
