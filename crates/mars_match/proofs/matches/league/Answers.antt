use Rattle.std.proofs.Common.{◌≡◌, ◌∙◌, inl, inr, length, replicate, Ok, Err, arith}
use Rattle.std.proofs.lemmas.Grind.{common_steps}
use Rattle.std.proofs.lemmas.Result.{err_from_is_err_and}
use Rattle.mars_match.specs.Code.Tallies.{no_rounds}
use Rattle.mars_match.specs.Leagues.{all_pairs}
use Rattle.mars_match.specs.Code.LeagueSteps.{after_matches}
use Rattle.mars_match.proofs.Outcomes.{fault_answer}
use Rattle.mars_match.proofs.LeagueTotals.{league_err, league_with}
use Rattle.mars_match.proofs.matches.league.Goals as goal

pub play_all-requires-clause-kept : goal.play_all-requires-clause-kept
play_all-requires-clause-kept c = c.new-matches.ensures _ _

pub returns-in_err-play_all : goal.returns-in_err-play_all
returns-in_err-play_all c =
    let p = err_from_is_err_and c.from_residual-in_err-play_all.result c.from_residual-in_err-play_all.ensures.1 in
    let plan = c.args.setup.now.plan in
    let ws = c.args.warriors.now in
    let fresh : c.as_mut_slice.result.now ≡ replicate (length ws) no_rounds = c.as_mut_slice.ensures.value ∙ c.in_ok-tallies.ensures in
    record {
      table = fault_answer _ _ _ p.0 p.1 (elim c.in_err-play_all.ensures [
        | inl none ↦ inl (p.2 ∙ none)
        | inr bad ↦
            let e : after_matches c.args.setup.now.params c.args.setup.now.formula plan.fixed plan.rounds plan.seed (all_pairs 0 ws) (replicate (length ws) no_rounds) ≡ Err p.0 = rw (p.2, ← fresh) bad in
            inr (league_err c.args.setup.now.params ws c.args.setup.now.formula plan.fixed plan.rounds plan.seed p.0 e)
      ]);
    }

pub returns-in_err-rows : goal.returns-in_err-rows
returns-in_err-rows c =
    let p = err_from_is_err_and c.from_residual-in_err-rows.result c.from_residual-in_err-rows.ensures.1 in
    let plan = c.args.setup.now.plan in
    let ws = c.args.warriors.now in
    let fresh : c.as_mut_slice.result.now ≡ replicate (length ws) no_rounds = c.as_mut_slice.ensures.value ∙ c.in_ok-tallies.ensures in
    let ts = c.play_all.new.tallies in
    let e : after_matches c.args.setup.now.params c.args.setup.now.formula plan.fixed plan.rounds plan.seed (all_pairs 0 ws) (replicate (length ws) no_rounds) ≡ Ok ts = rw (← fresh) c.in_ok-play_all.ensures in
    let there : c.as_slice.result.now ≡ ts = grind (arith, common_steps, c.as_slice.ensures.value) in
    record {
      table = fault_answer _ _ _ p.0 p.1 (elim c.in_err-rows.ensures [
        | inl none ↦ inl (p.2 ∙ none)
        | inr bad ↦ inr (league_with c.args.setup.now.params ws c.args.setup.now.formula plan.fixed plan.rounds plan.seed ts e ∙ rw (p.2, ← there) bad)
      ]);
    }

pub returns : goal.returns
returns c =
    let plan = c.args.setup.now.plan in
    let ws = c.args.warriors.now in
    let fresh : c.as_mut_slice.result.now ≡ replicate (length ws) no_rounds = c.as_mut_slice.ensures.value ∙ c.in_ok-tallies.ensures in
    let ts = c.play_all.new.tallies in
    let e : after_matches c.args.setup.now.params c.args.setup.now.formula plan.fixed plan.rounds plan.seed (all_pairs 0 ws) (replicate (length ws) no_rounds) ≡ Ok ts = rw (← fresh) c.in_ok-play_all.ensures in
    let there : c.as_slice.result.now ≡ ts = grind (arith, common_steps, c.as_slice.ensures.value) in
    record { table = league_with c.args.setup.now.params ws c.args.setup.now.formula plan.fixed plan.rounds plan.seed ts e ∙ rw (← there) c.in_ok-rows.ensures }
