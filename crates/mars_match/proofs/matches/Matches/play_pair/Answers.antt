use Rattle.std.proofs.Common.{◌≡◌, ◌∙◌, inl, inr, Ok, Err, [], ◌∷◌, length, arith}
use Rattle.std.proofs.lemmas.Result.{err_from_is_err_and}
use Rattle.mars_match.specs.Code.Tallies.{no_rounds, tallied}
use Rattle.mars_match.proofs.Outcomes.{fault_answer}
use Rattle.mars_match.proofs.Pairs.{pair_err, first_unfit, second_unfit, both_fit}
use Rattle.mars_match.proofs.matches.Matches.play_pair.Goals as goal

pub returns-in_err-play_rounds-clause-table : goal.returns-in_err-play_rounds-clause-table
returns-in_err-play_rounds-clause-table c = λ first second is.
    let p = err_from_is_err_and c.from_residual.result c.from_residual.ensures.1 in
    let plan = c.args.setup.now.plan in
    fault_answer _ _ _ p.0 p.1 (elim c.in_err-play_rounds.ensures.sums [
      | inl none ↦ inl (p.2 ∙ none)
      | inr bad ↦
          let e : tallied c.args.setup.now.params (first ∷ second ∷ []) c.args.setup.now.formula plan.fixed plan.rounds 0 plan.seed (no_rounds ∷ no_rounds ∷ []) ≡ Err p.0 =
          rw p.2 (rw (is, c.no_rounds.ensures.sums, c.no_rounds-2.ensures.sums) at bad) in
          inr (pair_err c.args.setup.now.params first second c.args.setup.now.formula plan.fixed plan.rounds plan.seed p.0 e)
    ])

pub returns-in_err-check_points-clause-table : goal.returns-in_err-check_points-clause-table
returns-in_err-check_points-clause-table c = λ first second is.
    let p = err_from_is_err_and c.from_residual-in_err-check_points.result c.from_residual-in_err-check_points.ensures.1 in
    let plan = c.args.setup.now.plan in
    let ts = c.play_rounds.new.tallies in
    let e : tallied c.args.setup.now.params (first ∷ second ∷ []) c.args.setup.now.formula plan.fixed plan.rounds 0 plan.seed (no_rounds ∷ no_rounds ∷ []) ≡ Ok ts =
    rw (is, c.no_rounds.ensures.sums, c.no_rounds-2.ensures.sums) at c.in_ok-play_rounds.ensures.sums in
    let bad = first_unfit c.args.setup.now.params first second c.args.setup.now.formula plan.fixed plan.rounds plan.seed ts no_rounds c.play_rounds.auto.tallies e c.in_err-check_points.ensures.1 in
    fault_answer _ _ _ p.0 p.1 (inr (rw (p.2, c.in_err-check_points.ensures.0) bad))

pub returns-in_err-check_points-2-clause-table : goal.returns-in_err-check_points-2-clause-table
returns-in_err-check_points-2-clause-table c = λ first second is.
    let p = err_from_is_err_and c.from_residual-in_err-check_points-2.result c.from_residual-in_err-check_points-2.ensures.1 in
    let plan = c.args.setup.now.plan in
    let ts = c.play_rounds.new.tallies in
    let e : tallied c.args.setup.now.params (first ∷ second ∷ []) c.args.setup.now.formula plan.fixed plan.rounds 0 plan.seed (no_rounds ∷ no_rounds ∷ []) ≡ Ok ts =
    rw (is, c.no_rounds.ensures.sums, c.no_rounds-2.ensures.sums) at c.in_ok-play_rounds.ensures.sums in
    let bad = second_unfit c.args.setup.now.params first second c.args.setup.now.formula plan.fixed plan.rounds plan.seed ts no_rounds c.play_rounds.auto.tallies e c.in_err-check_points-2.ensures.1 in
    fault_answer _ _ _ p.0 p.1 (inr (rw (p.2, c.in_err-check_points-2.ensures.0) bad))

pub returns-clause-table : goal.returns-clause-table
returns-clause-table c = λ first second is.
    let plan = c.args.setup.now.plan in
    let ts = c.play_rounds.new.tallies in
    let e : tallied c.args.setup.now.params (first ∷ second ∷ []) c.args.setup.now.formula plan.fixed plan.rounds 0 plan.seed (no_rounds ∷ no_rounds ∷ []) ≡ Ok ts =
    rw (is, c.no_rounds.ensures.sums, c.no_rounds-2.ensures.sums) at c.in_ok-play_rounds.ensures.sums in
    both_fit c.args.setup.now.params first second c.args.setup.now.formula plan.fixed plan.rounds plan.seed ts no_rounds c.play_rounds.auto.tallies e c.in_ok-check_points.ensures c.in_ok-check_points-2.ensures

pub returns-clause-bounds : goal.returns-clause-bounds
returns-clause-bounds c =
    let ts = c.play_rounds.new.tallies in
    let bounds = c.in_ok-play_rounds.ensures.bounds in
    let two : length ts ≡ 2 = c.play_rounds.auto.tallies in
    (bounds 0 no_rounds (omega (arith, two)), bounds 1 no_rounds (omega (arith, two)))
