use Rattle.std.proofs.Common.{◌≡◌, ◌==◌, false, sym, ◌∙◌, inr}
use Rattle.mars_core.specs.Code.Ancestors.{own_turn}
use Rattle.mars_core.specs.State.{is_over_of}
use Rattle.mars_core.proofs.Lineages.{all_kept, one_kept, other_left}
use Rattle.mars_core.proofs.Searches.{given_none, given_some}
use Rattle.mars_core.proofs.battle.Battle.own_turns.Goals.{in-Some+in_ok-push, in_default}
use Rattle.mars_core.proofs.battle.Battle.own_turns.Goals as goal

pub returns-then-is_over-clause-turns : goal.returns-then-is_over-clause-turns
returns-then-is_over-clause-turns c =
    let a = c.args in
    let l = c.loop-made in
    (all_kept a.turns a.self.now a.warrior l.made l.self l.own.items l.invariant (inr (sym c.is_over.ensures.value ∙ c.if-is_over.true))).0

pub returns-then-is_over-clause-battle : goal.returns-then-is_over-clause-battle
returns-then-is_over-clause-battle c =
    let a = c.args in
    let l = c.loop-made in
    (all_kept a.turns a.self.now a.warrior l.made l.self l.own.items l.invariant (inr (sym c.is_over.ensures.value ∙ c.if-is_over.true))).1

pub loop-made-preserved : goal.loop-made-preserved
loop-made-preserved c =
    let a = c.args in
    let l = c.loop-made in
    let running : is_over_of l.self ≡ false = sym c.is_over.ensures.value ∙ c.if-is_over.false in
    let turn = c.own_turn.ensures in
    elim c.match-own_turn.branch [
      | in-Some+in_ok-push w ↦
          let found = given_some (l.self.next == a.warrior) (own_turn l.self a.warrior) w.in-Some.turn (sym turn.turn ∙ w.in-Some.is) in
          rw w.own-is
          (one_kept a.turns a.self.now a.warrior l.made l.self l.own.items l.invariant c.own_turn.new.self c.loop-made-test.true running turn.battle
          w.in-Some.turn _ found.0 found.1 w.in_ok-push.ensures.items)
      | in_default w ↦
          rw w.own-is
          (other_left a.turns a.self.now a.warrior l.made l.self l.own.items l.invariant c.own_turn.new.self c.loop-made-test.true running turn.battle
          (given_none (l.self.next == a.warrior) (own_turn l.self a.warrior) (λ row e. w.in_default.not-Some row (turn.turn ∙ e))))
    ]
