use Rattle.std.proofs.Common.{arith, rules, ◌≡◌, ◌+◌, ◌-◌, ◌∙◌, ap, sym, subst, take, drop, get_or}
use Rattle.std.specs.List.{concat}
use Rattle.std.proofs.lemmas.Bool.{true≢false}
use Rattle.std.proofs.lemmas.List.{map-append}
use Rattle.std.proofs.lemmas.List.Elements.{All-push, All-same}
use Rattle.std.proofs.lemmas.List.Sums.{sum_by-take-le}
use Rattle.mars_core.specs.Queue.{Queue, addresses_of}
use Rattle.mars_core.specs.Validity.{IsQueue}
use Rattle.mars_core.specs.Block.{lengths_of}
use Rattle.mars_core.proofs.Blocks.{queue_read, counts_more, no_queue}
use Rattle.mars_core.proofs.battle.block.queues.read_queues.Goals as goal

pub overflow_cast-result : goal.overflow_cast-result
overflow_cast-result c = omega (arith, c.requires.few, c.loop-i-test.true)

pub returns-then-not-is_queue-clause-none : goal.returns-then-not-is_queue-clause-none
returns-then-not-is_queue-clause-none c = λ _. no_queue c.args.params.now.core_size c.args.params.now.processes c.args.counts.now c.args.words.now c.loop-i.i c.loop-i.place c.loop-i-test.true c.loop-i.invariant.place
    (λ q. true≢false (sym (c.is_queue.ensures.no q) ∙ c.if-not-is_queue.true))

pub loop-i-preserved : goal.loop-i-preserved
loop-i-preserved c =
    let n = get_or c.args.counts.now c.loop-i.i 0 in
    let of : c.in-Ok-of.queue ≡ record { addresses = take (c.loop-i.place + n - c.loop-i.place) (drop c.loop-i.place c.args.words.now); limit = c.args.params.now.processes } = search rules in
    let more = counts_more c.args.counts.now c.loop-i.i c.loop-i-test.true in
    let within = sum_by-take-le (λ x. x) c.args.counts.now (c.loop-i.i + 1) in
    let read = queue_read c.loop-i.queues.items c.in-Ok-of.queue c.args.counts.now c.args.words.now c.loop-i.i c.loop-i.place c.loop-i.invariant.counts c.loop-i.invariant.words c.loop-i-test.true (ap (λ (q : Queue). q.addresses) of) (omega (arith, more, within, c.requires.words, c.loop-i.invariant.place)) in
    let all = c.push_reserved.ensures.items in
    record {
      counts = ap (λ l. lengths_of (addresses_of l)) all ∙ read.0;
      place = omega (arith, more, c.loop-i.invariant.place);
      words = ap (λ l. concat (addresses_of l)) all ∙ read.1;
      limits = All-same (λ (q : Queue). q.limit ≡ c.args.params.now.processes) _ _ all (All-push (λ (q : Queue). q.limit ≡ c.args.params.now.processes) c.loop-i.queues.items c.in-Ok-of.queue c.loop-i.invariant.limits (ap (λ (q : Queue). q.limit) of));
      queues = All-same (IsQueue c.args.params.now.core_size c.args.params.now.processes) _ _ (ap addresses_of all ∙ map-append (λ (x : Queue). x.addresses) c.loop-i.queues.items _)
          (All-push (IsQueue c.args.params.now.core_size c.args.params.now.processes) (addresses_of c.loop-i.queues.items) c.in-Ok-of.queue.addresses c.loop-i.invariant.queues (subst (IsQueue c.args.params.now.core_size c.args.params.now.processes) (sym (ap (λ (q : Queue). q.addresses) of)) (c.is_queue.ensures.yes c.if-not-is_queue.false)));
      many = search rules;
      room = search rules;
    }
