use Rattle.std.proofs.Common.{◌≡◌, ◌∙◌, ◌∷◌, [], sym, ap, refl, inl, inr, ◌+◌, ◌*◌, ◌<◌, length, get_or, set, arith}
use Rattle.std.proofs.lemmas.List.Elements.{All-get_or}
use Rattle.std.proofs.lemmas.Grind.{common_steps}
use Rattle.std.proofs.lemmas.Result.{err_from_is_err_and}
use Rattle.mars_match.specs.Code.Tallies.{IsOf, max_rounds_before, max_rounds, max_row_rounds, no_rounds}
use Rattle.mars_match.specs.Code.LeagueSteps.{after_matches}
use Rattle.mars_match.proofs.Outcomes.{fault_answer}
use Rattle.mars_match.proofs.Pairs.{IsOf-more, all_more, set_both, other_bound, set_both_bounds, from_first, from_one, lined_up, match_err, match_more}
use Rattle.mars_match.proofs.matches.Matches.play_others.Goals as goal

pub loop-j-init : goal.loop-j-init
loop-j-init c =
    let i = c.args.i in
    let plan = c.args.setup.now.plan in
    record {
      sums = ap (λ pairs. after_matches c.args.setup.now.params c.args.setup.now.formula plan.fixed plan.rounds plan.seed pairs c.args.tallies.now) (from_first c.args.warriors.now i c.requires.inside);
      bounds = all_more (i * max_row_rounds) (i * max_row_rounds + (i + 1) * max_rounds) c.args.tallies.now (omega arith) c.requires.bounds;
      kept = c.requires.kept;
      two = rw c.in_ok-lineup.ensures refl;
      first = rw (c.in_ok-lineup.ensures, from_one c.args.warriors.now i c.index-warriors-i.result c.requires.inside c.index-warriors-i.is) refl;
    }

pub play_pair-requires-clause-kept : goal.play_pair-requires-clause-kept
play_pair-requires-clause-kept c =
    let two : length c.replace_second.new.self ≡ 2 = grind (arith, common_steps, c.in_ok-replace_second.ensures) in
    rw two c.loop-j.invariant.kept

pub joined-requires-clause-before : goal.joined-requires-clause-before
joined-requires-clause-before c =
    let i = c.args.i in
    let m = i * max_row_rounds + c.loop-j.j * max_rounds in
    let xs = c.loop-j.tallies in
    let inside : i < length xs = omega arith in
    IsOf-more m max_rounds_before (get_or xs i no_rounds) (omega arith) (All-get_or (IsOf m) xs i no_rounds inside c.loop-j.invariant.bounds)

pub joined-requires-in-loop-j-clause-before : goal.joined-requires-in-loop-j-clause-before
joined-requires-in-loop-j-clause-before c =
    let i = c.args.i in
    let j = c.loop-j.j in
    let m = i * max_row_rounds + j * max_rounds in
    let xs = c.loop-j.tallies in
    let before : i < j = omega arith in
    let inside : j < length xs = omega arith in
    let a = c.joined.result in
    IsOf-more m max_rounds_before (get_or (set xs i a) j no_rounds) (omega arith) (other_bound xs i j c.in_ok-one.one c.in_ok-one.other a _ no_rounds before inside c.joined.ensures refl m c.loop-j.invariant.bounds)

pub loop-j-preserved : goal.loop-j-preserved
loop-j-preserved c =
    let i = c.args.i in
    let j = c.loop-j.j in
    let m = i * max_row_rounds + j * max_rounds in
    let xs = c.loop-j.tallies in
    let ws = c.args.warriors.now in
    let plan = c.args.setup.now.plan in
    let before : i < j = omega arith in
    let inside : j < length xs = omega arith in
    let first : i < length ws = omega arith in
    let second : j < length ws = omega arith in
    let t = c.in_ok-one.one in
    let u = c.in_ok-one.other in
    let a = c.joined.result in
    let b = c.joined-in-loop-j.result in
    let both : c.replace_second.new.self ≡ c.index-warriors-i.result ∷ c.index-warriors-j.result ∷ [] =
    lined_up ws c.loop-j.lineup c.replace_second.new.self i c.index-warriors-i.result c.index-warriors-j.result first c.index-warriors-i.is c.loop-j.invariant.first c.in_ok-replace_second.ensures in
    let two : length c.replace_second.new.self ≡ 2 = ap length both in
    let bounds = set_both_bounds xs i j t u a b no_rounds before inside c.joined.ensures c.joined-in-loop-j.ensures m max_rounds c.loop-j.invariant.bounds c.in_ok-one.ensures.bounds.0 c.in_ok-one.ensures.bounds.1 in
    record {
      sums = rw (set_both xs i j t u a b no_rounds before inside c.joined.ensures c.joined-in-loop-j.ensures)
          (match_more c.args.setup.now.params c.args.setup.now.formula plan.fixed plan.rounds plan.seed ws i j c.index-warriors-i.result c.index-warriors-j.result xs t u first second c.index-warriors-i.is c.index-warriors-j.is (c.in_ok-one.ensures.table c.index-warriors-i.result c.index-warriors-j.result both) ∙ c.loop-j.invariant.sums);
      bounds = all_more (m + max_rounds) (i * max_row_rounds + (j + 1) * max_rounds) (set (set xs i a) j b) (omega arith) bounds;
      kept = rw two at c.in_ok-one.ensures.kept;
      two = two;
      first = rw (both, from_one ws i c.index-warriors-i.result first c.index-warriors-i.is) refl;
    }

pub returns-in_err-one-clause-sums : goal.returns-in_err-one-clause-sums
returns-in_err-one-clause-sums c =
    let p = err_from_is_err_and c.from_residual-in_err-one.result c.from_residual-in_err-one.ensures.1 in
    let plan = c.args.setup.now.plan in
    let ws = c.args.warriors.now in
    let first : c.args.i < length ws = omega arith in
    let second : c.loop-j.j < length ws = omega arith in
    let both : c.replace_second.new.self ≡ c.index-warriors-i.result ∷ c.index-warriors-j.result ∷ [] =
    lined_up ws c.loop-j.lineup c.replace_second.new.self c.args.i c.index-warriors-i.result c.index-warriors-j.result first c.index-warriors-i.is c.loop-j.invariant.first c.in_ok-replace_second.ensures in
    fault_answer _ _ _ p.0 p.1 (elim (c.in_err-one.ensures.table c.index-warriors-i.result c.index-warriors-j.result both) [
      | inl none ↦ inl (p.2 ∙ none)
      | inr bad ↦ inr (sym c.loop-j.invariant.sums ∙ match_err c.args.setup.now.params c.args.setup.now.formula plan.fixed plan.rounds plan.seed ws c.args.i c.loop-j.j c.index-warriors-i.result c.index-warriors-j.result c.loop-j.tallies p.0 first second c.index-warriors-i.is c.index-warriors-j.is (rw p.2 bad))
    ])

pub returns-clause-bounds : goal.returns-clause-bounds
returns-clause-bounds c =
    all_more (c.args.i * max_row_rounds + c.loop-j.j * max_rounds) ((c.args.i + 1) * max_row_rounds) c.loop-j.tallies (omega arith) c.loop-j.invariant.bounds
