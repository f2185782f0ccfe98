use Rattle.std.proofs.Common.{◌≡◌, ◌+◌, ◌*◌, drop}
use Rattle.redcode_text.specs.Views.{predefined_of}
use Rattle.redcode_text.specs.Code.Readings.{reading_of}
use Rattle.redcode_text.specs.Code.Used.{lines_under, used}
use Rattle.redcode_text.specs.Lines.{each_line, ordinary_line}
use Rattle.redcode_text.proofs.reader.Reading.+ordinary.Given as goal

abbrev pub decreases-read_ordinary : goal.decreases-read_ordinary
decreases-read_ordinary l = 3 * l.depth

abbrev pub decreases-read_line : goal.decreases-read_line
decreases-read_line l = 3 * l.depth + 1

abbrev pub decreases-read_used : goal.decreases-read_used
decreases-read_used l = 3 * l.depth + 2

abbrev pub invariant-read_used-loop-at : goal.invariant-read_used-loop-at
invariant-read_used-loop-at l = record {
  same : each_line (ordinary_line (predefined_of l.names) l.number l.depth) (drop l.at (used l.before (lines_under (reading_of l.initial.self) l.name) l.behind)) (reading_of l.self)
      ≡ each_line (ordinary_line (predefined_of l.names) l.number l.depth) (used l.before (lines_under (reading_of l.initial.self) l.name) l.behind) (reading_of l.initial.self);
  equates : l.self.equates ≡ l.initial.self.equates;
}
