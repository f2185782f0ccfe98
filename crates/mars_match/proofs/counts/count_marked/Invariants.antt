use Rattle.std.proofs.Common.{◌≡◌, ◌≤◌, false, get_or}
use Rattle.mars_core.specs.Marks.{marks_of}
use Rattle.mars_match.specs.Counts.{how_many_below}
use Rattle.mars_match.proofs.counts.count_marked.Given as goal

abbrev pub invariant-loop-address : goal.invariant-loop-address
invariant-loop-address l = record {
  executed : l.executed ≡ how_many_below l.address (λ a. get_or (marks_of l.marks).executed a false);
  written : l.written ≡ how_many_below l.address (λ a. get_or (marks_of l.marks).written a false);
  touched : l.touched ≡ how_many_below l.address (λ a. get_or (marks_of l.marks).touched a false);
  executed_few : l.executed ≤ l.address;
  written_few : l.written ≤ l.address;
  touched_few : l.touched ≤ l.address;
}
