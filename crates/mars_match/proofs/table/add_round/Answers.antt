use Rattle.std.proofs.Common.{◌≡◌, ◌+◌, ◌%◌, ◌<◌, ◌∙◌, length, get_or, w64, arith}
use Rattle.std.proofs.lemmas.Int.{to_z-of_z}
use Rattle.mars_match.specs.Battles.{in_load_order}
use Rattle.mars_match.specs.Rounds.{Outcome}
use Rattle.mars_match.specs.Code.Tallies.{IsOf, added, no_rounds}
use Rattle.mars_match.proofs.Sums.{added_more, left_more, done_more, how_many-in_order, at_left}
use Rattle.mars_match.proofs.table.add_round.Goals as goal

pub with_round-requires : goal.with_round-requires
with_round-requires c =
    let inside : c.loop-i.i < length c.loop-i.tallies = omega arith in
    at_left (IsOf c.args.round) c.loop-i.tallies c.loop-i.i _ inside c.loop-i.invariant.left

pub loop-i-preserved : goal.loop-i-preserved
loop-i-preserved c =
    let inside : c.loop-i.i < length c.loop-i.tallies = omega arith in
    let xs = c.loop-i.tallies in
    let i = c.loop-i.i in
    let s = c.args.battle.now in
    let first = c.args.round % length c.args.tallies.now in
    let score = to_z-of_z w64 c.args.score c.ranges.score in
    let outcome : Outcome = record { lived = in_load_order first s; score = c.args.score } in
    let alone = how_many-in_order first s in
    let one : c.with_round.result ≡ added outcome i (get_or xs i no_rounds) = rw (alone, ← c.is_alive-lived.ensures, ← c.survivors-is_alone.ensures) (rw score at c.with_round.ensures.sums) in
    record {
      sums = rw score (added_more outcome xs i c.with_round.result no_rounds inside one ∙ (rw score at c.loop-i.invariant.sums));
      done = done_more (IsOf (c.args.round + 1)) xs i c.with_round.result inside c.with_round.ensures.bounds c.loop-i.invariant.done;
      left = left_more (IsOf c.args.round) xs i c.with_round.result no_rounds inside c.loop-i.invariant.left;
    }
