use Rattle.std.proofs.Common.{arith, ap, sym, ◌∙◌, ◌≡◌, ◌*◌, ◌++◌, ◌∷◌, [], List, ℕ, length, take, get_or, append_assoc, length-append, length-take-le}
use Rattle.mars_core.specs.declared.deaths.Death.{Death}
use Rattle.mars_core.specs.Block.{death_words}
use Rattle.mars_core.proofs.Blocks.{length-death_words, death_words_more}
use Rattle.mars_core.proofs.battle.block.deaths.death_words.Goals as goal

none : Death
none = record { warrior = 0; turns = 0 }

pub push-requires : goal.push-requires
push-requires c =
    let long : length c.loop-death.words.items ≡ 2 * c.loop-death.death-index =
    ap length c.loop-death.invariant ∙ length-death_words (take c.loop-death.death-index c.args.deaths.now) ∙ ap (λ (n : ℕ). 2 * n) (length-take-le c.loop-death.death-index c.args.deaths.now c.loop-death.auto.death-index-end) in
    (omega arith, omega (arith, long, c.loop-death-test.true, c.requires))

pub push-requires-in-loop-death : goal.push-requires-in-loop-death
push-requires-in-loop-death c =
    let long : length c.loop-death.words.items ≡ 2 * c.loop-death.death-index =
    ap length c.loop-death.invariant ∙ length-death_words (take c.loop-death.death-index c.args.deaths.now) ∙ ap (λ (n : ℕ). 2 * n) (length-take-le c.loop-death.death-index c.args.deaths.now c.loop-death.auto.death-index-end) in
    let more = ap length c.push.ensures.items ∙ length-append c.loop-death.words.items _ in
    (omega arith, omega (arith, long, more, c.loop-death-test.true, c.requires))

pub loop-death-preserved : goal.loop-death-preserved
unfolding none
loop-death-preserved c =
    let d = get_or c.args.deaths.now c.loop-death.death-index none in
    c.push-in-loop-death.ensures.items
    ∙ ap (λ (l : List ℕ). l ++ d.turns ∷ []) (c.push.ensures.items ∙ ap (λ (l : List ℕ). l ++ d.warrior ∷ []) c.loop-death.invariant)
    ∙ append_assoc (death_words (take c.loop-death.death-index c.args.deaths.now)) (d.warrior ∷ []) (d.turns ∷ [])
    ∙ sym (death_words_more c.args.deaths.now c.loop-death.death-index none c.loop-death-test.true)
