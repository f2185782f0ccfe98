use Rattle.std.proofs.Common.{arith, ap, sym, ◌∙◌, ◌≡◌, ◌*◌, length}
use Rattle.std.proofs.lemmas.Bool.{leb-true}
use Rattle.std.proofs.lemmas.List.{length-map}
use Rattle.mars_core.specs.Queue.{Queue, addresses_of}
use Rattle.mars_core.specs.State.{survivors_of}
use Rattle.mars_core.proofs.Live.{addresses_at, is_none}
use Rattle.mars_core.proofs.Blocks.{none_survive, some_survive}
use Rattle.mars_core.proofs.battle.block.validity.is_clock.Goals as goal

pub returns-in_default-clause-yes : goal.returns-in_default-clause-yes
returns-in_default-clause-yes c = λ h.
    let dead : survivors_of (addresses_of c.args.queues.now) ≡ 0 = none_survive (addresses_of c.args.queues.now) (sym c.least_live.ensures.value ∙ c.in_default.is) in
    let many : length (addresses_of c.args.queues.now) ≡ length c.args.queues.now = length-map c.args.queues.now (λ (q : Queue). q.addresses) in
    let product : c.from.result * length c.args.queues.now ≡ c.args.clock.cycle * length (addresses_of c.args.queues.now) = rw (c.from.ensures, many) in
    record {
      next = omega (arith, many, c.if-next-warriors.false);
      next_lives = λ s. absurd (omega (arith, dead, s));
      cycle = omega (arith, c.if-clock-cycles.false);
      last_cycle = λ _ s. absurd (omega (arith, dead, s));
      turns = omega (arith, leb-true _ _ h, product, c.from-2.ensures, c.from-in_default.ensures);
      turns_alive = λ s. absurd (omega (arith, dead, s));
    }

pub returns-then-is_empty-clause-no : goal.returns-then-is_empty-clause-no
returns-then-is_empty-clause-no c = λ v.
    let live = some_survive (addresses_of c.args.queues.now) c.in-Some.first (sym c.least_live.ensures.value ∙ c.in-Some.is) in
    let here = addresses_at c.args.queues.now c.args.clock.next c.index-queues-next.result c.if-next-warriors.false in
    absurd (v.next_lives live (here ∙ ap (λ (q : Queue). q.addresses) (sym c.index-queues-next.is) ∙ is_none _ (sym c.is_empty.ensures ∙ c.if-is_empty.true)))
