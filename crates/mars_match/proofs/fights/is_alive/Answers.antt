use Rattle.std.proofs.Common.{◌≡◌, sym, ◌∙◌, ap, ℕ, [], false, ◌+◌, ◌-◌, ◌<◌, ◌≤◌, length, get_or, arith}
use Rattle.std.specs.Prelude.{not}
use Rattle.std.proofs.lemmas.List.{get_or-map, length-map}
use Rattle.mars_core.specs.State.{State, is_empty, queue_of}
use Rattle.mars_match.specs.Battles.{in_load_order, lives}
use Rattle.mars_match.proofs.Rotations.{get_or-rotated_early, get_or-rotated_late}
use Rattle.mars_match.proofs.fights.is_alive.Goals as goal

length-lives : (s : State) → length (lives s) ≡ length s.queues
length-lives s = length-map s.queues (λ queue. not (is_empty queue))

at_place : (s : State) (place : ℕ) → place < length s.queues → get_or (lives s) place false ≡ not (is_empty (queue_of s.queues place))
at_place s place h = get_or-map (λ queue. not (is_empty queue)) s.queues place [] false h

late : (s : State) (first i : ℕ) → first < length s.queues → i < length s.queues → first ≤ i → get_or (in_load_order first s) i false ≡ not (is_empty (queue_of s.queues (i - first)))
late s first i h k l =
    let n = length s.queues - first in
    let place : n + i - length (lives s) ≡ i - first = omega (arith, length-lives s) in
    get_or-rotated_late n i (lives s) false (omega (arith, length-lives s)) (omega (arith, length-lives s)) (omega (arith, length-lives s))
    ∙ ap (λ j. get_or (lives s) j false) place ∙ at_place s (i - first) (omega arith)

early : (s : State) (first i : ℕ) → first < length s.queues → i < first → get_or (in_load_order first s) i false ≡ not (is_empty (queue_of s.queues (length s.queues - (first - i))))
early s first i h k =
    let n = length s.queues - first in
    let place : n + i ≡ length s.queues - (first - i) = omega arith in
    get_or-rotated_early n i (lives s) false (omega (arith, length-lives s)) (omega (arith, length-lives s))
    ∙ ap (λ j. get_or (lives s) j false) place ∙ at_place s (length s.queues - (first - i)) (omega arith)

pub returns-then-warrior-first : goal.returns-then-warrior-first
returns-then-warrior-first c = c.alive.ensures ∙ sym (late c.args.battle.now c.args.first c.args.warrior c.requires.first c.requires.warrior c.if-warrior-first.true)

pub returns : goal.returns
returns c = (rw c.warriors.ensures at c.alive-2.ensures) ∙ sym (early c.args.battle.now c.args.first c.args.warrior c.requires.first c.if-warrior-first.false)
