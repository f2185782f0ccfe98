use Rattle.std.proofs.Common.{◌≡◌, inr, length, arith}
use Rattle.std.proofs.lemmas.Result.{err_from_is_err_and}
use Rattle.mars_match.specs.Battles.{count_fault}
use Rattle.mars_match.proofs.Gathered.{counted_fates, uncounted_fates}
use Rattle.mars_match.proofs.Outcomes.{fault_answer}
use Rattle.mars_match.proofs.Totals.{good_count, refused_count}
use Rattle.mars_match.proofs.fates.fight_rounds.Goals as goal

pub returns-in_err-check_count : goal.returns-in_err-check_count
returns-in_err-check_count c =
    let p = err_from_is_err_and c.from_residual.result c.from_residual.ensures.1 in
    let many : c.len.result ≡ length c.args.warriors.items = omega (arith, c.len.ensures, c.args.warriors.ok.0) in
    let plan = c.args.plan.now in
    let bad = refused_count (count_fault (length c.args.warriors.items)) c.check_count.result c.in_err-check_count.field-0.0 (rw many at c.check_count.ensures) c.in_err-check_count.was in
    fault_answer _ _ _ p.0 p.1 (inr (rw (p.2, bad.2) (uncounted_fates c.args.counting c.args.params.now c.args.warriors.items plan.fixed plan.rounds plan.seed bad.0 bad.1)))

pub returns : goal.returns
returns c =
    let plan = c.args.plan.now in
    let ws = c.args.warriors.items in
    let many : c.len.result ≡ length c.args.warriors.items = omega (arith, c.len.ensures, c.args.warriors.ok.0) in
    let count = good_count (count_fault (length ws)) c.check_count.result c.in_ok-check_count.field-0 (rw many at c.check_count.ensures) c.in_ok-check_count.was in
    let same : c.in_ok-lineup.lineup ≡ ws = c.in_ok-lineup.ensures in
    rw (counted_fates c.args.counting c.args.params.now ws plan.fixed plan.rounds plan.seed count, ← same) c.fight_lineup.ensures
