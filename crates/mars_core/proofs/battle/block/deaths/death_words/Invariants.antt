use Rattle.std.proofs.Common.{◌≡◌, take}
use Rattle.mars_core.specs.Block.{death_words}
use Rattle.mars_core.proofs.battle.block.deaths.death_words.Given as goal

abbrev pub invariant-loop-death : goal.invariant-loop-death
invariant-loop-death l = l.words.items ≡ death_words (take l.death-index l.deaths)
