use Rattle.std.proofs.Common.{◌≡◌, ◌∙◌, ◌<◌, sym, ap, inl, inr, length, Ok, Err, rules, arith}
use Rattle.std.proofs.lemmas.Grind.{common_steps}
use Rattle.std.proofs.lemmas.Result.{err_from_is_err_and}
use Rattle.mars_match.specs.Battles.{round_start}
use Rattle.mars_match.specs.Code.Deeds.{AreCounts}
use Rattle.mars_match.specs.Fates.{ended}
use Rattle.mars_match.specs.Rounds.{placed_for}
use Rattle.mars_match.proofs.Gathered.{all_gathered, begun, ended_err, place_err, round_err, round_more, round_is}
use Rattle.mars_match.proofs.Outcomes.{fault_answer}
use Rattle.mars_match.proofs.fates.fight_lineup.Goals as goal

pub loop-number-init : goal.loop-number-init
loop-number-init c =
    let plan = c.args.plan.now in
    record {
      made = rw c.new-fates.ensures.items (begun c.args.counting c.args.params.now c.args.lineup.now plan.fixed plan.rounds plan.seed);
      starts = search rules;
      room = c.requires.room;
    }

pub returns-in_err-seed : goal.returns-in_err-seed
returns-in_err-seed c =
    let p = err_from_is_err_and c.from_residual-in_err-seed.result c.from_residual-in_err-seed.ensures.1 in
    let plan = c.args.plan.now in
    let many : length c.as_mut_slice.result.now ≡ length c.args.lineup.now = rw c.as_mut_slice.ensures.value c.loop-number.invariant.starts in
    let bad : placed_for c.args.params.now (length c.args.lineup.now) plan.fixed c.loop-number.seed ≡ Err c.in_err-seed.field-0.0 = rw many at c.in_err-seed.ensures in
    let more : c.loop-number.number < plan.rounds = omega arith in
    fault_answer _ _ _ p.0 p.1 (inr (sym c.loop-number.invariant.made ∙ place_err c.args.counting c.args.params.now c.args.lineup.now plan.fixed plan.rounds c.loop-number.number c.loop-number.seed c.loop-number.fates.items more p.0 (rw p.2 bad)))

pub returns-in_err-played : goal.returns-in_err-played
returns-in_err-played c =
    let p = err_from_is_err_and c.from_residual-in_err-played.result c.from_residual-in_err-played.ensures.1 in
    let plan = c.args.plan.now in
    let many : length c.as_mut_slice.result.now ≡ length c.args.lineup.now = rw c.as_mut_slice.ensures.value c.loop-number.invariant.starts in
    let good : placed_for c.args.params.now (length c.args.lineup.now) plan.fixed c.loop-number.seed ≡ Ok (c.place_round.new.starts, c.in_ok-seed.seed) = rw many at c.in_ok-seed.ensures in
    let more : c.loop-number.number < plan.rounds = omega arith in
    let same : c.as_slice-starts.result.now ≡ c.place_round.new.starts = grind (arith, common_steps, c.as_slice-starts.ensures.value) in
    fault_answer _ _ _ p.0 p.1 (elim c.in_err-played.ensures.state [
      | inl none ↦ inl (p.2 ∙ none)
      | inr bad ↦ inr (sym c.loop-number.invariant.made ∙ round_err c.args.counting c.args.params.now c.args.lineup.now plan.fixed plan.rounds c.loop-number.number c.loop-number.seed c.loop-number.fates.items more
          c.place_round.new.starts c.in_ok-seed.seed p.0 good
          (ended_err c.args.params.now c.args.lineup.now c.place_round.new.starts c.loop-number.number p.0 (rw (p.2, ← same) bad)))
    ])

pub loop-number-preserved : goal.loop-number-preserved
loop-number-preserved c =
    let plan = c.args.plan.now in
    let many : length c.as_mut_slice.result.now ≡ length c.args.lineup.now = rw c.as_mut_slice.ensures.value c.loop-number.invariant.starts in
    let good : placed_for c.args.params.now (length c.args.lineup.now) plan.fixed c.loop-number.seed ≡ Ok (c.place_round.new.starts, c.in_ok-seed.seed) = rw many at c.in_ok-seed.ensures in
    let more : c.loop-number.number < plan.rounds = omega arith in
    let same : c.as_slice-starts.result.now ≡ c.place_round.new.starts = grind (arith, common_steps, c.as_slice-starts.ensures.value) in
    let k = c.loop-number.number in
    let s = c.in_ok-played.played.battle.value in
    let over : ended c.args.params.now c.args.lineup.now c.place_round.new.starts k ≡ Ok s = rw (← same) c.in_ok-played.ensures.state in
    let starts : length c.place_round.new.starts ≡ length c.args.lineup.now = c.place_round.auto.starts ∙ many in
    let counts : AreCounts c.args.counting (round_start c.args.params.now c.args.lineup.now c.place_round.new.starts k) c.in_ok-played.played.counts.items = rw (← same) c.in_ok-played.ensures.counts in
    let now = round_is c.args.counting c.args.params.now c.args.lineup.now c.place_round.new.starts k s c.in_ok-played.played.counts.items starts c.requires.some over counts in
    record {
      made = rw (c.in_ok-append_fates.ensures, c.len-in-loop-number.ensures, same)
          (round_more c.args.counting c.args.params.now c.args.lineup.now plan.fixed plan.rounds k c.loop-number.seed c.loop-number.fates.items more c.place_round.new.starts c.in_ok-seed.seed _ good now ∙ c.loop-number.invariant.made);
      starts = ap length (sym c.as_slice-starts.ensures.value ∙ same) ∙ c.place_round.auto.starts ∙ many;
      room = c.in_ok-played.ensures.room;
    }

pub returns : goal.returns
returns c =
    let plan = c.args.plan.now in
    sym c.loop-number.invariant.made ∙ all_gathered c.args.counting c.args.params.now c.args.lineup.now plan.fixed plan.rounds c.loop-number.number c.loop-number.seed c.loop-number.fates.items (omega arith)
