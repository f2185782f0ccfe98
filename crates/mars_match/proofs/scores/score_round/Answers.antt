use Rattle.std.proofs.Common.{◌≡◌, ◌+◌, ◌-◌, ◌<◌, ◌≤◌, refl, sym, Ok, length, pos, w64, arith, rules}
use Rattle.std.proofs.lemmas.Int.{to_z_pos, to_z-of_z}
use Rattle.std.specs.Int.RustNames.{FitsSigned}
use Rattle.redcode_asm.specs.Formula.{score_of}
use Rattle.mars_match.proofs.Keeping.{one_more_known}
use Rattle.mars_match.proofs.Sums.{survivors-le}
use Rattle.mars_match.proofs.Outcomes.{score_is}
use Rattle.mars_match.proofs.scores.score_round.Goals as goal

pub overflow_cast-survivors : goal.overflow_cast-survivors
overflow_cast-survivors c =
    let few : c.survivors-survivors.result ≤ 16 = omega (arith, survivors-le c.args.battle.now.queues) in
    search rules

pub offset_bounds-scores-survivors : goal.offset_bounds-scores-survivors
offset_bounds-scores-survivors c =
    let few : c.survivors-survivors.result ≤ 16 = omega (arith, survivors-le c.args.battle.now.queues) in
    grind arith

pub bounds : goal.bounds
bounds c =
    let few : c.survivors-survivors.result ≤ 16 = omega (arith, survivors-le c.args.battle.now.queues) in
    omega arith

pub offset_bounds-scores-survivors-in-Ok : goal.offset_bounds-scores-survivors-in-Ok
offset_bounds-scores-survivors-in-Ok c =
    let few : c.survivors-survivors.result ≤ 16 = omega (arith, survivors-le c.args.battle.now.queues) in
    grind arith

pub bounds-scores-survivors-in-Ok : goal.bounds-scores-survivors-in-Ok
bounds-scores-survivors-in-Ok c =
    let few : c.survivors-survivors.result ≤ 16 = omega (arith, survivors-le c.args.battle.now.queues) in
    omega arith

pub returns-in-Ok-clause-scores : goal.returns-in-Ok-clause-scores
returns-in-Ok-clause-scores c =
    let s = c.args.battle.now in
    let k = c.survivors-survivors.result - 1 in
    let fits : FitsSigned w64 c.in-Ok.score = search rules in
    let few : c.survivors-survivors.result ≤ 16 = omega (arith, survivors-le s.queues) in
    let w = to_z_pos w64 c.warriors.result (omega arith) in
    let n = to_z_pos w64 c.survivors-survivors.result (omega arith) in
    let value = rw (w, n, c.warriors.ensures, c.in-Ok.is) at c.score.ensures.value in
    let more : k + 1 ≡ c.survivors-survivors.result = omega arith in
    let right : score_of c.args.formula.now (pos (length s.queues)) (pos (k + 1)) ≡ Ok c.in-Ok.score = rw more (sym value) in
    let inside : k < length c.args.scores.now = omega arith in
    rw (to_z-of_z w64 c.in-Ok.score fits) (one_more_known c.args.formula.now (length s.queues) c.args.scores.now k c.in-Ok.score inside right c.requires.scores)

pub returns-in-Ok-clause-value : goal.returns-in-Ok-clause-value
returns-in-Ok-clause-value c =
    let s = c.args.battle.now in
    let fits : FitsSigned w64 c.in-Ok.score = search rules in
    let few : c.survivors-survivors.result ≤ 16 = omega (arith, survivors-le s.queues) in
    let w = to_z_pos w64 c.warriors.result (omega arith) in
    let n = to_z_pos w64 c.survivors-survivors.result (omega arith) in
    let value = rw (w, n, c.warriors.ensures, c.survivors-survivors.ensures, c.in-Ok.is) at c.score.ensures.value in
    rw (score_is c.args.formula.now s (rw c.survivors-survivors.ensures at c.if-survivors-eq0.false), ← value, to_z-of_z w64 c.in-Ok.score fits) refl

pub returns-in-Err-clause-value : goal.returns-in-Err-clause-value
returns-in-Err-clause-value c =
    let s = c.args.battle.now in
    let few : c.survivors-survivors.result ≤ 16 = omega (arith, survivors-le s.queues) in
    let w = to_z_pos w64 c.warriors.result (omega arith) in
    let n = to_z_pos w64 c.survivors-survivors.result (omega arith) in
    let value = rw (w, n, c.warriors.ensures, c.survivors-survivors.ensures, c.in-Err.is) at c.score.ensures.value in
    rw (score_is c.args.formula.now s (rw c.survivors-survivors.ensures at c.if-survivors-eq0.false), ← value) refl
