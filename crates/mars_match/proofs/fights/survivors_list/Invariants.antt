use Rattle.std.proofs.Common.{◌≡◌, take}
use Rattle.mars_match.specs.Battles.{in_load_order}
use Rattle.mars_match.proofs.fights.survivors_list.Given as goal

abbrev pub invariant-loop-warrior : goal.invariant-loop-warrior
invariant-loop-warrior l = l.list.items ≡ take l.warrior (in_load_order l.first l.battle)
