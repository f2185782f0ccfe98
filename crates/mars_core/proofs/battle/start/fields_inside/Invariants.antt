use Rattle.std.proofs.Common.{◌≡◌, drop}
use Rattle.mars_core.specs.Start.{fields_inside}
use Rattle.mars_core.proofs.battle.start.fields_inside.Given as goal

abbrev pub invariant-loop-warrior : goal.invariant-loop-warrior
invariant-loop-warrior l = fields_inside l.core_size (drop l.warrior-index l.warriors) ≡ fields_inside l.core_size l.warriors
