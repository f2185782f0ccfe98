use Rattle.std.proofs.Common.{◌≡◌, ◌*◌, length, take}
use Rattle.mars_core.specs.Block.{death_words}
use Rattle.mars_core.proofs.battle.block.deaths.read_deaths.Given as goal

abbrev pub invariant-loop-i : goal.invariant-loop-i
invariant-loop-i l = record {
  count : length l.deaths.items ≡ l.i;
  words : death_words l.deaths.items ≡ take (2 * l.i) l.words;
}
