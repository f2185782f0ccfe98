use Rattle.std.proofs.Common.{◌∙◌, sym, inl, inr, ◌<◌, length, arith}
use Rattle.std.proofs.lemmas.Result.{err_from_is_err_and}
use Rattle.mars_match.proofs.Outcomes.{fault_answer}
use Rattle.mars_match.proofs.Pairs.{first_err, first_more}
use Rattle.mars_match.proofs.matches.Matches.play_all.Goals as goal

pub returns-in_err-play_others : goal.returns-in_err-play_others
returns-in_err-play_others c =
    let p = err_from_is_err_and c.from_residual.result c.from_residual.ensures.1 in
    let plan = c.args.setup.now.plan in
    let ws = c.args.warriors.now in
    let inside : c.loop-i.i < length ws = omega arith in
    fault_answer _ _ _ p.0 p.1 (elim c.in_err-play_others.ensures.sums [
      | inl none ↦ inl (p.2 ∙ none)
      | inr bad ↦ inr (sym c.loop-i.invariant.sums ∙ first_err c.args.setup.now.params c.args.setup.now.formula plan.fixed plan.rounds plan.seed ws c.loop-i.i c.loop-i.tallies p.0 inside (rw p.2 bad))
    ])

pub loop-i-preserved : goal.loop-i-preserved
loop-i-preserved c =
    let plan = c.args.setup.now.plan in
    let ws = c.args.warriors.now in
    let inside : c.loop-i.i < length ws = omega arith in
    record {
      sums = first_more c.args.setup.now.params c.args.setup.now.formula plan.fixed plan.rounds plan.seed ws c.loop-i.i c.loop-i.tallies c.play_others.new.tallies inside c.in_ok-play_others.ensures.sums ∙ c.loop-i.invariant.sums;
      bounds = c.in_ok-play_others.ensures.bounds;
      kept = c.in_ok-play_others.ensures.kept;
    }
