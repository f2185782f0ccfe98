use Rattle.std.proofs.Common.{◌≡◌, ◌-◌, ◌≤◌, All, length}
use Rattle.mars_core.specs.Turn.{after_turns}
use Rattle.mars_match.specs.Counts.{turns_from}
use Rattle.mars_match.specs.Code.Deeds.{DeedsValue, HasMarks, noted}
use Rattle.mars_match.proofs.counts.note_turns.Given as goal

-- Noting the remaining turns gives the deeds of all turns. No warrior has more turns than were made, and each has a
-- mark for each cell.
abbrev pub invariant-loop-made : goal.invariant-loop-made
invariant-loop-made l = record {
  deeds : noted (turns_from (l.last - l.made) l.battle) l.deeds ≡ noted (turns_from l.last l.initial.battle) l.initial.deeds;
  battle : after_turns (l.last - l.made) l.battle ≡ after_turns l.last l.initial.battle;
  few : All (λ (d : DeedsValue). (d.turns ≤ l.made) × (d.spawned ≤ l.made)) l.deeds;
  marks : All (HasMarks l.battle.params.core_size) l.deeds;
  many : length l.deeds ≡ length l.battle.queues;
}
