use Rattle.std.proofs.Common.{length}
use Rattle.redcode_text.proofs.lexer.open_loops.+find_round.Given as goal

abbrev pub decreases-find_round : goal.decreases-find_round
decreases-find_round l = length l.loops.now
