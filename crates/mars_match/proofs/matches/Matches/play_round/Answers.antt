use Rattle.std.proofs.Common.{◌≡◌, ◌%◌, ◌∙◌, sym, inr, length, w64, Ok, Err, rules}
use Rattle.std.proofs.lemmas.Int.{to_z-of_z}
use Rattle.std.proofs.lemmas.Result.{err_from_is_err_and}
use Rattle.std.specs.Int.RustNames.{FitsSigned}
use Rattle.mars_match.specs.Battles.{in_load_order}
use Rattle.mars_match.specs.Rounds.{round_score}
use Rattle.mars_match.proofs.Outcomes.{outcome_ok, outcome_err, score-in_order, fault_answer}
use Rattle.mars_match.proofs.matches.Matches.play_round.Goals as goal

pub returns-in_err-score-clause-outcome : goal.returns-in_err-score-clause-outcome
returns-in_err-score-clause-outcome c =
    let p = err_from_is_err_and c.from_residual-in_err-score.result c.from_residual-in_err-score.ensures.1 in
    let first = c.args.round.number % length c.args.round.lineup.now in
    let s = c.in_ok-battle.battle.value in
    let f = c.args.setup.now.formula in
    let score : round_score f (in_load_order first s) ≡ Err c.in_err-score.field-0.0 = score-in_order f first s ∙ sym (rw c.deref.ensures at c.score_round.ensures.value) ∙ c.in_err-score.was in
    let bad = outcome_err c.args.setup.now.params c.args.round.lineup.now f c.args.round.starts.now c.args.round.number (in_load_order first s) c.in_err-score.field-0.0 c.in_ok-battle.ensures.survivors score in
    fault_answer _ _ _ p.0 p.1 (inr (rw p.2 bad))

pub returns-clause-outcome : goal.returns-clause-outcome
returns-clause-outcome c =
    let first = c.args.round.number % length c.args.round.lineup.now in
    let s = c.in_ok-battle.battle.value in
    let f = c.args.setup.now.formula in
    let fits : FitsSigned w64 c.in_ok-score.score = search rules in
    let score : round_score f (in_load_order first s) ≡ Ok c.in_ok-score.score = score-in_order f first s ∙ sym (rw c.deref.ensures at c.score_round.ensures.value) ∙ c.in_ok-score.was in
    rw (to_z-of_z w64 c.in_ok-score.score fits) (outcome_ok c.args.setup.now.params c.args.round.lineup.now f c.args.round.starts.now c.args.round.number (in_load_order first s) c.in_ok-score.score c.in_ok-battle.ensures.survivors score)
