use Rattle.std.proofs.Common.{◌∙◌, ap, not, nat_eq}
use Rattle.mars_cell.specs.Load.{statement_of}
use Rattle.mars_cell.specs.Parts.{parts}
use Rattle.mars_cell.proofs.FirstLine.{take_front}
use Rattle.mars_cell.proofs.statements.read_line.Goals as goal

pub returns-clause-value : goal.returns-clause-value
returns-clause-value c = c.read_statement.ensures.value ∙ ap (λ l. statement_of c.args.sizes.written c.args.sizes.core_size (parts l)) (c.new.ensures ∙ (rw c.text_len.ensures at c.split_at.ensures.front) ∙ take_front (λ b. not (nat_eq b 59)) c.args.line.now)
