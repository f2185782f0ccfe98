use Rattle.std.proofs.Common.{◌∙◌}
use Rattle.std.proofs.lemmas.List.{length-map}
use Rattle.mars_core.specs.State.{state_of}
use Rattle.mars_core.specs.Queue.{Queue}
use Rattle.mars_core.specs.Validity.{IsValid}
use Rattle.mars_core.proofs.Counted.{valid_counted}
use Rattle.mars_core.proofs.BlockParts.{valid_parts}
use Rattle.mars_core.proofs.battle.block.resumed.Goals as goal

pub invariant_of-result : goal.invariant_of-result
invariant_of-result c =
    let v : IsValid (state_of c.args.params c.args.core.items c.args.queues.items c.args.clock.next c.args.clock.cycle c.args.turns c.args.deaths.items) =
    valid_parts c.args.params c.args.core.items c.args.queues.items _ _ c.args.clock c.args.turns _ c.args.deaths.items _ c.requires.params c.requires.core c.requires.some c.requires.few c.requires.queues
    c.deref.ensures.value c.deref-2.ensures.value c.as_slice.ensures.value c.cycles.ensures (c.are_deaths.ensures.yes c.if-not-are_deaths.false) (c.is_clock.ensures.yes c.if-not-is_clock.false) in
    record {
      valid = v;
      limits = c.requires.limits;
      counted = valid_counted _ v ∙ length-map c.args.queues.items (λ (q : Queue). q.addresses);
    }
