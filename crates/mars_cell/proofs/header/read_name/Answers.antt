use Rattle.std.proofs.Common.{◌∙◌, rules, sym}
use Rattle.mars_cell.specs.Header.{name_of}
use Rattle.mars_cell.proofs.Heads.{printed_text}
use Rattle.mars_cell.proofs.header.read_name.Goals as goal

pub returns-clause-value : goal.returns-clause-value
unfolding name_of
returns-clause-value c = rw c.ok.ensures.value (printed_text c.args.text.now c.from_utf8.result _ (search rules) c.from_utf8.ensures.cases ∙ sym (search rules))
