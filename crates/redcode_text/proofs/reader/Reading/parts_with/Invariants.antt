use Rattle.std.proofs.Common.{◌≡◌, ◌≤◌, ◌-◌, ℕ, length, drop, take}
use Rattle.redcode_text.specs.Views.{predefined_of}
use Rattle.redcode_text.specs.Code.Readings.{reading_of}
use Rattle.redcode_text.specs.Code.Labels.{HasSame}
use Rattle.redcode_text.specs.Lines.{parts_of, parts_within}
use Rattle.redcode_text.proofs.reader.Reading.parts_with.Given as goal

abbrev pub invariant-loop-at : goal.invariant-loop-at
invariant-loop-at l = record {
  within : l.at ≤ length l.tokens;
  known : HasSame l.known l.labels.items;
  same : (k : ℕ) × (length (drop l.at l.tokens) ≤ k)
      × (parts_within (predefined_of l.names) (reading_of l.self) k l.labels.items (take l.at l.tokens) (drop l.at l.tokens) ≡ parts_of (predefined_of l.names) (reading_of l.self) l.tokens);
}

abbrev pub decreases-loop-at : goal.decreases-loop-at
decreases-loop-at l = length l.tokens - l.at
