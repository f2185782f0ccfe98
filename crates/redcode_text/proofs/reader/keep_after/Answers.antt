use Rattle.std.proofs.Common.{rules}
use Rattle.std.specs.Prelude.{nat_lt}
use Rattle.std.proofs.lemmas.Fn.{filter_same}
use Rattle.redcode_text.proofs.reader.keep_after.Goals as goal

pub returns : goal.returns
returns c = filter_same _ (λ t. nat_lt c.args.at t.from) _ (λ x b f called. search rules) _ _ c.retain.ensures.filtered
