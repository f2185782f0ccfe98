use Rattle.std.proofs.Common.{◌≡◌, ◌-◌, ◌++◌, length, take, drop}
use Rattle.mars_core.specs.Turn.{after_turns}
use Rattle.mars_c.specs.Records.{recorded}
use Rattle.mars_c.proofs.playing.fill_turn_rows.Given as goal

abbrev pub invariant-loop-i : goal.invariant-loop-i
invariant-loop-i g l = record {
  rows : take l.i l.rows ++ recorded g.R.TurnRow.row_of l.battle (drop l.i l.rows) ≡ recorded g.R.TurnRow.row_of l.fn.battle l.fn.rows;
  battle : after_turns (length l.rows - l.i) l.battle ≡ after_turns (length l.rows) l.fn.battle;
}
