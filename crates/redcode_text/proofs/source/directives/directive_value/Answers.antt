use Rattle.std.proofs.Common.{rules, sym}
use Rattle.redcode_text.proofs.Printing.{printed_is_printed}
use Rattle.redcode_text.proofs.TextSteps.{value-is}
use Rattle.redcode_text.proofs.source.directives.directive_value.Goals as goal

pub returns-clause-value : goal.returns-clause-value
returns-clause-value c = rw (sym (value-is c.args.trimmed.now c.min.result c.min.ensures)) c.printed.ensures

pub returns-clause-printed : goal.returns-clause-printed
returns-clause-printed c = printed_is_printed _ c.printed.result (search rules) c.printed.ensures
