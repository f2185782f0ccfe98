use Rattle.std.proofs.Common.{◌≡◌, ◌+◌, ◌<◌, ◌∙◌, sym, ap, inr, true, refl, length, take, get_or, [], ◌∷◌, ◌++◌, rules, arith}
use Rattle.std.proofs.lemmas.List.{take_all, take_more}
use Rattle.std.proofs.lemmas.List.Folds.{list_all_more}
use Rattle.std.proofs.lemmas.Result.{err_from_is_err_and}
use Rattle.mars_match.specs.Rounds.{fits_in_64}
use Rattle.mars_match.specs.Code.Tallies.{no_rounds, rows_with, row_with}
use Rattle.mars_match.proofs.Outcomes.{length-rows, row_at, unfit, fit, fault_answer}
use Rattle.mars_match.proofs.matches.rows_of.Goals as goal

pub returns-in_err-row : goal.returns-in_err-row
returns-in_err-row c =
    let p = err_from_is_err_and c.from_residual-in_err-row.result c.from_residual-in_err-row.ensures.1 in
    let ws = c.args.warriors.now in
    let ts = c.args.tallies.now in
    let i = c.loop-i.i in
    let w = c.index-warriors-i.result in
    let r = row_with w no_rounds in
    let inside : i < length ws = omega arith in
    let there = row_at ws ts i w no_rounds r c.requires inside in
    let within : i < length (rows_with ws ts) = omega (arith, length-rows ws ts c.requires) in
    let bad = unfit (rows_with ws ts) i r within (rw there c.in_err-row.ensures.1) in
    fault_answer _ _ _ p.0 p.1 (inr (rw (p.2, c.in_err-row.ensures.0) bad))

pub loop-i-preserved : goal.loop-i-preserved
loop-i-preserved c =
    let ws = c.args.warriors.now in
    let ts = c.args.tallies.now in
    let i = c.loop-i.i in
    let w = c.index-warriors-i.result in
    let row = c.in_ok-row.row in
    let rows = rows_with ws ts in
    let inside : i < length ws = omega arith in
    let within : i < length rows = omega (arith, length-rows ws ts c.requires) in
    let there : get_or rows i row ≡ row = row_at ws ts i w no_rounds row c.requires inside ∙ ap (λ x. row_with x (get_or ts i no_rounds)) (sym c.index-warriors-i.is) ∙ sym c.in_ok-row.ensures.1 in
    let fits : fits_in_64 row.points ≡ true = rw c.in_ok-row.ensures.1 c.in_ok-row.ensures.0 in
    let one : take (i + 1) rows ≡ c.loop-i.rows.items ++ row ∷ [] = take_more rows i row within ∙ rw (there, c.loop-i.invariant.rows) refl in
    record {
      rows = rw one (search rules);
      fit = list_all_more (λ x. fits_in_64 x.points) rows i row within ∙ rw (c.loop-i.invariant.fit, there, fits) refl;
    }

pub returns : goal.returns
returns c =
    let rows = rows_with c.args.warriors.now c.args.tallies.now in
    let many = length-rows c.args.warriors.now c.args.tallies.now c.requires in
    let all = take_all c.loop-i.i rows (omega arith) in
    rw (c.loop-i.invariant.rows, all) (fit rows (rw all at c.loop-i.invariant.fit))
