use Rattle.std.proofs.Common.{rules}
use Rattle.mars_cell.proofs.FirstLine.{lines_of-none, lines_of-some}
use Rattle.mars_cell.proofs.lines.Lines.take_first.Goals as goal

pub returns-then-is_empty-clause-line : goal.returns-then-is_empty-clause-line
returns-then-is_empty-clause-line c = lines_of-none c.args.self.now.rest.now (search rules)

pub returns-clause-line : goal.returns-clause-line
returns-clause-line c =
    let back = rw c.line_len.ensures at c.split_at.ensures.back in
    rw (c.split_at.ensures.front, c.line_len.ensures) (lines_of-some c.args.self.now.rest.now c.after_newline-self.result.now (rw (← back) c.after_newline-self.ensures) (search rules))
