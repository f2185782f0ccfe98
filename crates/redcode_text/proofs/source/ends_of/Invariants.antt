use Rattle.std.proofs.Common.{length, vec_len, ◌≡◌, ℕ, ◌+◌, ◌<◌, ◌≤◌, slice_index}
use Rattle.redcode_text.specs.Code.Pairs.{EndsAt}
use Rattle.redcode_text.proofs.source.ends_of.Given as goal

abbrev pub invariant-loop-first : goal.invariant-loop-first
invariant-loop-first l = record {
  within : l.first ≤ length l.rows;
  len : vec_len l.ends ≡ length l.rows;
  ends : (i : ℕ) → l.first ≤ i → i < length l.rows → EndsAt l.rows (i + 1) (slice_index l.ends.items i);
}

abbrev pub decreases-loop-first : goal.decreases-loop-first
decreases-loop-first l = l.first
