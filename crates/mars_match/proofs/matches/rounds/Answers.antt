use Rattle.std.proofs.Common.{◌≡◌, ◌∙◌, inl, inr, length, replicate, Ok, Err, arith}
use Rattle.std.proofs.lemmas.Grind.{common_steps}
use Rattle.std.proofs.lemmas.Result.{err_from_is_err_and}
use Rattle.mars_match.specs.Battles.{count_fault}
use Rattle.mars_match.specs.Code.Tallies.{no_rounds, tallied}
use Rattle.mars_match.proofs.Totals.{table_err, table_with, counted_err, refused_count, good_count}
use Rattle.mars_match.proofs.Outcomes.{fault_answer}
use Rattle.mars_match.proofs.matches.rounds.Goals as goal

pub play_rounds-requires-clause-kept : goal.play_rounds-requires-clause-kept
play_rounds-requires-clause-kept c = c.new-matches.ensures _ _

pub returns-in_err-check_count-clause-table : goal.returns-in_err-check_count-clause-table
returns-in_err-check_count-clause-table c =
    let p = err_from_is_err_and c.from_residual.result c.from_residual.ensures.1 in
    let plan = c.args.setup.now.plan in
    let bad = refused_count (count_fault (length c.args.warriors.now)) c.check_count.result c.in_err-check_count.field-0.0 c.check_count.ensures c.in_err-check_count.was in
    fault_answer _ _ _ p.0 p.1 (inr (rw (p.2, bad.2) (counted_err c.args.setup.now.params c.args.warriors.now c.args.setup.now.formula plan.fixed plan.rounds plan.seed bad.0 bad.1)))

pub returns-in_err-play_rounds-clause-table : goal.returns-in_err-play_rounds-clause-table
returns-in_err-play_rounds-clause-table c =
    let p = err_from_is_err_and c.from_residual-in_err-play_rounds.result c.from_residual-in_err-play_rounds.ensures.1 in
    let plan = c.args.setup.now.plan in
    let ws = c.args.warriors.now in
    let count = good_count (count_fault (length ws)) c.check_count.result c.in_ok-check_count.field-0 c.check_count.ensures c.in_ok-check_count.was in
    let same : c.in_ok-lineup.lineup ≡ ws = c.in_ok-lineup.ensures in
    let fresh : c.as_mut_slice.result.now ≡ replicate (length ws) no_rounds = c.as_mut_slice.ensures.value ∙ c.in_ok-tallies.ensures in
    fault_answer _ _ _ p.0 p.1 (elim c.in_err-play_rounds.ensures.sums [
      | inl none ↦ inl (p.2 ∙ none)
      | inr bad ↦
          let e : tallied c.args.setup.now.params ws c.args.setup.now.formula plan.fixed plan.rounds 0 plan.seed (replicate (length ws) no_rounds) ≡ Err p.0 = rw (p.2, ← fresh, ← same) bad in
          inr (table_err c.args.setup.now.params ws c.args.setup.now.formula plan.fixed plan.rounds plan.seed p.0 count e)
    ])

pub returns-in_err-rows-clause-table : goal.returns-in_err-rows-clause-table
returns-in_err-rows-clause-table c =
    let p = err_from_is_err_and c.from_residual-in_err-rows.result c.from_residual-in_err-rows.ensures.1 in
    let plan = c.args.setup.now.plan in
    let ws = c.args.warriors.now in
    let count = good_count (count_fault (length ws)) c.check_count.result c.in_ok-check_count.field-0 c.check_count.ensures c.in_ok-check_count.was in
    let same : c.in_ok-lineup.lineup ≡ ws = c.in_ok-lineup.ensures in
    let fresh : c.as_mut_slice.result.now ≡ replicate (length ws) no_rounds = c.as_mut_slice.ensures.value ∙ c.in_ok-tallies.ensures in
    let ts = c.play_rounds.new.tallies in
    let e : tallied c.args.setup.now.params ws c.args.setup.now.formula plan.fixed plan.rounds 0 plan.seed (replicate (length ws) no_rounds) ≡ Ok ts = rw (← fresh, ← same) c.in_ok-play_rounds.ensures.sums in
    let there : c.as_slice.result.now ≡ ts = grind (arith, common_steps, c.as_slice.ensures.value) in
    fault_answer _ _ _ p.0 p.1 (elim c.in_err-rows.ensures [
      | inl none ↦ inl (p.2 ∙ none)
      | inr bad ↦ inr (table_with c.args.setup.now.params ws c.args.setup.now.formula plan.fixed plan.rounds plan.seed ts count e ∙ rw (p.2, ← there) bad)
    ])

pub returns-clause-table : goal.returns-clause-table
returns-clause-table c =
    let plan = c.args.setup.now.plan in
    let ws = c.args.warriors.now in
    let count = good_count (count_fault (length ws)) c.check_count.result c.in_ok-check_count.field-0 c.check_count.ensures c.in_ok-check_count.was in
    let same : c.in_ok-lineup.lineup ≡ ws = c.in_ok-lineup.ensures in
    let fresh : c.as_mut_slice.result.now ≡ replicate (length ws) no_rounds = c.as_mut_slice.ensures.value ∙ c.in_ok-tallies.ensures in
    let ts = c.play_rounds.new.tallies in
    let e : tallied c.args.setup.now.params ws c.args.setup.now.formula plan.fixed plan.rounds 0 plan.seed (replicate (length ws) no_rounds) ≡ Ok ts = rw (← fresh, ← same) c.in_ok-play_rounds.ensures.sums in
    let there : c.as_slice.result.now ≡ ts = grind (arith, common_steps, c.as_slice.ensures.value) in
    table_with c.args.setup.now.params ws c.args.setup.now.formula plan.fixed plan.rounds plan.seed ts count e ∙ rw (← there) c.in_ok-rows.ensures
