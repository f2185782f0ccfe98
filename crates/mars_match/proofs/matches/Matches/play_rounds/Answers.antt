use Rattle.std.proofs.Common.{◌≡◌, ◌%◌, ◌<◌, ◌∙◌, sym, ap, inl, inr, length, w64, Ok, Err, rules, arith}
use Rattle.std.proofs.lemmas.Grind.{common_steps}
use Rattle.std.proofs.lemmas.Int.{to_z-of_z}
use Rattle.std.proofs.lemmas.Result.{err_from_is_err_and}
use Rattle.std.specs.Int.RustNames.{FitsSigned}
use Rattle.mars_match.specs.Rounds.{placed_for, round_outcome}
use Rattle.mars_match.specs.Code.Tallies.{all_added, max_rounds, outcome_by}
use Rattle.mars_match.proofs.Outcomes.{tallied_place_err, tallied_round_err, tallied_more, fault_answer}
use Rattle.mars_match.proofs.Pairs.{all_more}
use Rattle.mars_match.proofs.matches.Matches.play_rounds.Goals as goal

pub returns-in_err-seed-clause-sums : goal.returns-in_err-seed-clause-sums
returns-in_err-seed-clause-sums c =
    let p = err_from_is_err_and c.from_residual-in_err-seed.result c.from_residual-in_err-seed.ensures.1 in
    let plan = c.args.setup.now.plan in
    let many : length c.as_mut_slice.result.now ≡ length c.args.lineup.now = rw c.as_mut_slice.ensures.value c.loop-number.invariant.starts in
    let bad : placed_for c.args.setup.now.params (length c.args.lineup.now) plan.fixed c.loop-number.seed ≡ Err c.in_err-seed.field-0.0 = rw many at c.in_err-seed.ensures in
    let more : c.loop-number.number < plan.rounds = omega arith in
    fault_answer _ _ _ p.0 p.1 (inr (sym c.loop-number.invariant.sums ∙ tallied_place_err c.args.setup.now.params c.args.lineup.now c.args.setup.now.formula plan.fixed plan.rounds c.loop-number.number c.loop-number.seed c.loop-number.tallies more p.0 (rw p.2 bad)))

pub returns-in_err-battle-clause-sums : goal.returns-in_err-battle-clause-sums
returns-in_err-battle-clause-sums c =
    let p = err_from_is_err_and c.from_residual-in_err-battle.result c.from_residual-in_err-battle.ensures.1 in
    let plan = c.args.setup.now.plan in
    let many : length c.as_mut_slice.result.now ≡ length c.args.lineup.now = rw c.as_mut_slice.ensures.value c.loop-number.invariant.starts in
    let good : placed_for c.args.setup.now.params (length c.args.lineup.now) plan.fixed c.loop-number.seed ≡ Ok (c.place_round.new.starts, c.in_ok-seed.seed) = rw many at c.in_ok-seed.ensures in
    let more : c.loop-number.number < plan.rounds = omega arith in
    let same : c.as_slice-starts.result.now ≡ c.place_round.new.starts = grind (arith, common_steps, c.as_slice-starts.ensures.value) in
    fault_answer _ _ _ p.0 p.1 (elim c.in_err-battle.ensures.outcome [
      | inl none ↦ inl (p.2 ∙ none)
      | inr bad ↦ inr (sym c.loop-number.invariant.sums ∙ tallied_round_err c.args.setup.now.params c.args.lineup.now c.args.setup.now.formula plan.fixed plan.rounds c.loop-number.number c.loop-number.seed c.loop-number.tallies more
          c.place_round.new.starts c.in_ok-seed.seed p.0 good (rw (p.2, ← same) bad))
    ])

pub loop-number-preserved : goal.loop-number-preserved
loop-number-preserved c =
    let plan = c.args.setup.now.plan in
    let many : length c.as_mut_slice.result.now ≡ length c.args.lineup.now = rw c.as_mut_slice.ensures.value c.loop-number.invariant.starts in
    let good : placed_for c.args.setup.now.params (length c.args.lineup.now) plan.fixed c.loop-number.seed ≡ Ok (c.place_round.new.starts, c.in_ok-seed.seed) = rw many at c.in_ok-seed.ensures in
    let more : c.loop-number.number < plan.rounds = omega arith in
    let same : c.as_slice-starts.result.now ≡ c.place_round.new.starts = grind (arith, common_steps, c.as_slice-starts.ensures.value) in
    let k = c.loop-number.number in
    let count : length c.loop-number.tallies ≡ length c.args.lineup.now = omega (arith, c.in_ok-battle.ensures.room.warriors) in
    let o = outcome_by (k % length c.args.lineup.now) c.in_ok-battle.battle.value c.in_ok-battle.score in
    let fits : FitsSigned w64 c.in_ok-battle.score = search rules in
    let score = to_z-of_z w64 c.in_ok-battle.score fits in
    let played : round_outcome c.args.setup.now.params c.args.lineup.now c.args.setup.now.formula c.place_round.new.starts k ≡ Ok o = rw (← same) c.in_ok-battle.ensures.outcome in
    let sums : c.add_round.new.tallies ≡ all_added o 0 c.loop-number.tallies = rw (c.deref.ensures, score, count) at c.add_round.ensures.sums in
    record {
      sums = rw sums (tallied_more c.args.setup.now.params c.args.lineup.now c.args.setup.now.formula plan.fixed plan.rounds k c.loop-number.seed c.loop-number.tallies more c.place_round.new.starts c.in_ok-seed.seed o good played ∙ c.loop-number.invariant.sums);
      bounds = c.add_round.ensures.bounds;
      kept = record { room = c.in_ok-battle.ensures.room; scores = c.in_ok-battle.ensures.scores };
      starts = ap length (sym c.as_slice-starts.ensures.value ∙ same) ∙ c.place_round.auto.starts ∙ many;
    }

pub returns-clause-bounds : goal.returns-clause-bounds
returns-clause-bounds c = all_more c.loop-number.number max_rounds c.loop-number.tallies (omega arith) c.loop-number.invariant.bounds
