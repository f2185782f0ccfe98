use Rattle.std.proofs.Common.{length, ◌-◌, ◌≡◌, ◌+◌, ◌≤◌, ◌*◌, option_map}
use Rattle.redcode_text.specs.Expansion.{flat, rounds}
use Rattle.redcode_text.specs.Views.{predefined_of}
use Rattle.redcode_text.specs.Code.Readings.{reading_of}
use Rattle.redcode_text.specs.Code.Counters.{IsThere}
use Rattle.redcode_text.specs.Code.SourceLoops.{loops_of}
use Rattle.redcode_text.specs.Lines.{name_at}
use Rattle.redcode_text.specs.Code.Pairs.{here_from}
use Rattle.redcode_text.proofs.reader.repeat.+items.Given as goal

abbrev pub decreases-read_items : goal.decreases-read_items
decreases-read_items l = 3 * (33 - length (loops_of l.reading.now.names)) + 2

abbrev pub decreases-read_loop : goal.decreases-read_loop
decreases-read_loop l = 3 * (33 - length (loops_of l.reading.now.names)) + 1

abbrev pub decreases-read_rounds : goal.decreases-read_rounds
decreases-read_rounds l = 3 * (33 - length (loops_of l.reading.now.names))

abbrev pub invariant-read_items-loop-at : goal.invariant-read_items-loop-at
invariant-read_items-loop-at l = record {
  within : l.at ≤ length l.source.rows.now;
  same : flat (predefined_of l.names) (here_from l.source.rows.now l.at) (reading_of l.reading) ≡ flat (predefined_of l.names) (here_from l.source.rows.now l.fn.first) (reading_of l.fn.reading);
  loops : loops_of l.reading.names ≡ loops_of l.fn.reading.names;
}

abbrev pub decreases-read_items-loop-at : goal.decreases-read_items-loop-at
decreases-read_items-loop-at l = length l.source.rows.now - l.at

abbrev pub invariant-read_rounds-loop-round : goal.invariant-read_rounds-loop-round
invariant-read_rounds-loop-round l = record {
  same :
      rounds (flat (predefined_of l.names) (here_from l.source.rows.now l.first)) (option_map (name_at l.fn.reading.names.table) l.fn.head.counter) l.round (l.count + 1 - l.round) (reading_of l.reading)
      ≡ rounds (flat (predefined_of l.names) (here_from l.source.rows.now l.first)) (option_map (name_at l.fn.reading.names.table) l.fn.head.counter) 1 l.count (reading_of l.fn.reading);
  counter : option_map (name_at l.reading.names.table) l.counter ≡ option_map (name_at l.fn.reading.names.table) l.fn.head.counter;
  there : IsThere l.reading.names.table l.counter;
  loops : loops_of l.reading.names ≡ loops_of l.fn.reading.names;
}
