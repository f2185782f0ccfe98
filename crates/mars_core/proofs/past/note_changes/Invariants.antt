use Rattle.mars_core.proofs.Pasts.{AreNoted}
use Rattle.mars_core.proofs.past.note_changes.Given as goal

abbrev pub invariant-loop-write : goal.invariant-loop-write
invariant-loop-write l = AreNoted l.owner l.turn l.writes l.core l.fn.pasts l.write-index l.pasts
