use Rattle.std.proofs.Common.{◌≡◌, false, length, sym, ap, ◌∙◌, inl, inr, arith}
use Rattle.mars_core.specs.Search.{filled, found_turn, meets}
use Rattle.mars_core.specs.State.{is_over_of}
use Rattle.mars_core.proofs.Searches.{followed-all, followed-found, followed-missed, followed-none, given_none, given_some}
use Rattle.mars_core.proofs.battle.Battle.follow.Goals.{in-Some, in_default}
use Rattle.mars_core.proofs.battle.Battle.follow.Goals as goal

pub loop-made-init : goal.loop-made-init
loop-made-init c = followed-none c.args.conditions.now c.args.turns c.args.self.now c.args.pasts.now c.args.found.now c.requires.size

pub loop-made-preserved : goal.loop-made-preserved
loop-made-preserved c =
    let a = c.args in
    let l = c.loop-made in
    let running : is_over_of l.self ≡ false = sym c.is_over.ensures.value ∙ c.if-is_over.false in
    let turn = c.follow_turn.ensures in
    elim c.match-follow_turn.branch [
      | in-Some t ↦
          let found = given_some (meets a.conditions.now l.self l.pasts) (found_turn l.self l.pasts) t.in-Some.turn (sym turn.found ∙ t.in-Some.is) in
          rw t.count-is
          (followed-found a.conditions.now a.turns a.self.now a.pasts.now a.found.now l.made l.self l.pasts l.found l.count l.invariant
          c.follow_turn.new.self c.follow_turn.new.pasts c.loop-made-test.true running turn.battle turn.pasts
          _ _ found.0 found.1 (t.found-is ∙ t.put.ensures))
      | in_default t ↦
          rw (t.found-is, t.count-is)
          (followed-missed a.conditions.now a.turns a.self.now a.pasts.now a.found.now l.made l.self l.pasts l.found l.count l.invariant
          c.follow_turn.new.self c.follow_turn.new.pasts c.loop-made-test.true running turn.battle turn.pasts
          (given_none (meets a.conditions.now l.self l.pasts) (found_turn l.self l.pasts) (λ row e. t.in_default.not-Some row (turn.found ∙ e))))
    ]

pub returns-then-is_over-clause-count : goal.returns-then-is_over-clause-count
returns-then-is_over-clause-count c =
    let a = c.args in
    let l = c.loop-made in
    let all = followed-all a.conditions.now a.turns a.self.now a.pasts.now a.found.now l.made l.self l.pasts l.found l.count l.invariant
    (inr (sym c.is_over.ensures.value ∙ c.if-is_over.true)) in
    l.invariant.count_is ∙ ap length (sym all.0)

pub returns-then-is_over-clause-found : goal.returns-then-is_over-clause-found
returns-then-is_over-clause-found c =
    let a = c.args in
    let l = c.loop-made in
    let all = followed-all a.conditions.now a.turns a.self.now a.pasts.now a.found.now l.made l.self l.pasts l.found l.count l.invariant
    (inr (sym c.is_over.ensures.value ∙ c.if-is_over.true)) in
    l.invariant.rows_are ∙ ap (λ n. filled n a.found.now) (sym all.0)

pub returns-then-is_over-clause-pasts : goal.returns-then-is_over-clause-pasts
returns-then-is_over-clause-pasts c =
    let a = c.args in
    let l = c.loop-made in
    let all = followed-all a.conditions.now a.turns a.self.now a.pasts.now a.found.now l.made l.self l.pasts l.found l.count l.invariant
    (inr (sym c.is_over.ensures.value ∙ c.if-is_over.true)) in
    sym all.1

pub returns-then-is_over-clause-battle : goal.returns-then-is_over-clause-battle
returns-then-is_over-clause-battle c =
    let a = c.args in
    let l = c.loop-made in
    let all = followed-all a.conditions.now a.turns a.self.now a.pasts.now a.found.now l.made l.self l.pasts l.found l.count l.invariant
    (inr (sym c.is_over.ensures.value ∙ c.if-is_over.true)) in
    sym all.2

pub returns-clause-count : goal.returns-clause-count
returns-clause-count c =
    let a = c.args in
    let l = c.loop-made in
    let all = followed-all a.conditions.now a.turns a.self.now a.pasts.now a.found.now l.made l.self l.pasts l.found l.count l.invariant
    (inl (omega arith)) in
    l.invariant.count_is ∙ ap length (sym all.0)

pub returns-clause-found : goal.returns-clause-found
returns-clause-found c =
    let a = c.args in
    let l = c.loop-made in
    let all = followed-all a.conditions.now a.turns a.self.now a.pasts.now a.found.now l.made l.self l.pasts l.found l.count l.invariant
    (inl (omega arith)) in
    l.invariant.rows_are ∙ ap (λ n. filled n a.found.now) (sym all.0)

pub returns-clause-pasts : goal.returns-clause-pasts
returns-clause-pasts c =
    let a = c.args in
    let l = c.loop-made in
    let all = followed-all a.conditions.now a.turns a.self.now a.pasts.now a.found.now l.made l.self l.pasts l.found l.count l.invariant
    (inl (omega arith)) in
    sym all.1

pub returns-clause-battle : goal.returns-clause-battle
returns-clause-battle c =
    let a = c.args in
    let l = c.loop-made in
    let all = followed-all a.conditions.now a.turns a.self.now a.pasts.now a.found.now l.made l.self l.pasts l.found l.count l.invariant
    (inl (omega arith)) in
    sym all.2
