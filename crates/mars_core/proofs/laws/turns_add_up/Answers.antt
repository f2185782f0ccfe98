use Rattle.mars_core.proofs.Reaching.{after_both}
use Rattle.mars_core.proofs.laws.turns_add_up.Goals as goal

pub returns : goal.returns
returns c = λ m n s. after_both n m s
