use Rattle.std.proofs.Common.{◌≡◌, ◌+◌, ◌*◌, ◌-◌, ◌<◌, suc, refl, sym, ◌∙◌, ap, inl, inr, false, length, get_or, set, arith}
use Rattle.std.proofs.lemmas.List.{length-set, get_or_default}
use Rattle.mars_core.specs.State.{State, is_over_of}
use Rattle.mars_core.proofs.CallerLemmas.{shape-turn_of}
use Rattle.mars_match.specs.Code.Deeds.{no_deeds, with_turn}
use Rattle.mars_match.proofs.Deeds.{all_noted, at_end, few_more, marks_more, noted_more, state_more}
use Rattle.mars_match.proofs.counts.note_turns.Goals as goal

pub returns-then-is_over-clause-deeds : goal.returns-then-is_over-clause-deeds
returns-then-is_over-clause-deeds c =
    let last = c.cycles.result * c.warriors.result in
    let many : last ≡ c.args.battle.now.params.cycles * length c.args.battle.now.queues = rw (c.cycles.ensures, c.params.ensures.value, c.warriors.ensures) refl in
    all_noted (last - c.loop-made.made) last c.args.battle.now c.loop-made.battle many (inr (sym c.is_over.ensures.value ∙ c.if-is_over.true)) c.args.deeds.now c.loop-made.deeds c.loop-made.invariant.deeds

pub returns-then-is_over-clause-battle : goal.returns-then-is_over-clause-battle
returns-then-is_over-clause-battle c =
    let last = c.cycles.result * c.warriors.result in
    let many : last ≡ c.args.battle.now.params.cycles * length c.args.battle.now.queues = rw (c.cycles.ensures, c.params.ensures.value, c.warriors.ensures) refl in
    at_end (last - c.loop-made.made) last c.args.battle.now c.loop-made.battle many (inr (sym c.is_over.ensures.value ∙ c.if-is_over.true)) c.loop-made.invariant.battle

pub loop-made-preserved : goal.loop-made-preserved
loop-made-preserved c =
    let last = c.cycles.result * c.warriors.result in
    let on : is_over_of c.loop-made.battle ≡ false = sym c.is_over.ensures.value ∙ c.if-is_over.false in
    let more : last - c.loop-made.made ≡ suc (last - (c.loop-made.made + 1)) = omega arith in
    let now = c.loop-made.battle in
    let all = c.loop-made.deeds in
    let before = c.loop-made.invariant in
    let next = c.is_over.ensures.valid.clock.next in
    let inside : now.next < length all = omega (arith, next, before.many) in
    let own : get_or all c.next-warrior.result c.index-deeds-warrior.result ≡ get_or all now.next (no_deeds 0) =
    ap (λ i. get_or all i c.index-deeds-warrior.result) c.next-warrior.ensures ∙ get_or_default all now.next c.index-deeds-warrior.result (no_deeds 0) inside in
    let made : set all c.next-warrior.result c.note_turn.new.self ≡ set all now.next (with_turn now (get_or all now.next (no_deeds 0))) =
    ap (λ i. set all i c.note_turn.new.self) c.next-warrior.ensures ∙ ap (λ d. set all now.next d) (c.note_turn.ensures.deeds ∙ ap (with_turn now) own) in
    let turn = c.note_turn.ensures.battle in
    record {
      deeds = rw (made, turn) (noted_more (last - (c.loop-made.made + 1)) (last - c.loop-made.made) now more on all ∙ before.deeds);
      battle = rw turn (state_more (last - (c.loop-made.made + 1)) (last - c.loop-made.made) now more on ∙ before.battle);
      few = rw made (few_more c.loop-made.made now all before.few);
      marks = rw (made, turn, (shape-turn_of now).params) (marks_more now.params.core_size now all inside before.marks);
      many = length-set all _ _ ∙ before.many ∙ sym (ap (λ (t : State). length t.queues) turn ∙ (shape-turn_of now).warriors);
    }

pub returns-clause-deeds : goal.returns-clause-deeds
returns-clause-deeds c =
    let last = c.cycles.result * c.warriors.result in
    let many : last ≡ c.args.battle.now.params.cycles * length c.args.battle.now.queues = rw (c.cycles.ensures, c.params.ensures.value, c.warriors.ensures) refl in
    all_noted (last - c.loop-made.made) last c.args.battle.now c.loop-made.battle many (inl (omega arith)) c.args.deeds.now c.loop-made.deeds c.loop-made.invariant.deeds

pub returns-clause-battle : goal.returns-clause-battle
returns-clause-battle c =
    let last = c.cycles.result * c.warriors.result in
    let many : last ≡ c.args.battle.now.params.cycles * length c.args.battle.now.queues = rw (c.cycles.ensures, c.params.ensures.value, c.warriors.ensures) refl in
    at_end (last - c.loop-made.made) last c.args.battle.now c.loop-made.battle many (inl (omega arith)) c.loop-made.invariant.battle
