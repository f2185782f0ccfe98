use Rattle.std.proofs.Common.{◌∙◌, rules, sym}
use Rattle.mars_c.proofs.Names.{printed_text}
use Rattle.mars_c.proofs.warriors.read_name.Goals as goal

pub returns-clause-value : goal.returns-clause-value
returns-clause-value c = rw c.ok.ensures.value (printed_text c.args.bytes.now c.from_utf8.result _ (search rules) c.from_utf8.ensures.cases ∙ sym (search rules))
