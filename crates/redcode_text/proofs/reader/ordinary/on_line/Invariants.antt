use Rattle.std.proofs.Common.{◌≡◌, ◌++◌, drop}
use Rattle.redcode_text.specs.Lines.{on_line}
use Rattle.redcode_text.proofs.reader.ordinary.on_line.Given as goal

abbrev pub invariant-loop-token : goal.invariant-loop-token
invariant-loop-token l = l.made.items ++ on_line l.number (drop l.token-index l.tokens) ≡ on_line l.number l.tokens
