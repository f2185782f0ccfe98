use Rattle.std.proofs.Common.{arith, rules, ◌+◌, ◌≤◌, length}
use Rattle.mars_core.proofs.Blocks.{processes_more, processes_within, queue_written}
use Rattle.mars_core.proofs.battle.block.queues.write_queues.Goals as goal

pub overflow_add-end : goal.overflow_add-end
overflow_add-end c =
    let more = processes_more c.args.queues.now c.loop-queue.queue-index c.queue-item.result c.loop-queue-test.true c.queue-item.is in
    let within = processes_within c.args.queues.now (c.loop-queue.queue-index + 1) in
    let inside : c.loop-queue.place + c.len.result ≤ length c.args.words.now = omega (arith, more, within, c.requires.room, c.loop-queue.invariant.place, c.len.ensures.value) in
    search rules

pub offset_bounds-words-place : goal.offset_bounds-words-place
offset_bounds-words-place c =
    let within = processes_within c.args.queues.now c.loop-queue.queue-index in
    let inside : c.loop-queue.place ≤ length c.args.words.now = omega (arith, within, c.requires.room, c.loop-queue.invariant.place) in
    search rules

pub slice_bounds-write_to-end : goal.slice_bounds-write_to-end
slice_bounds-write_to-end c =
    let more = processes_more c.args.queues.now c.loop-queue.queue-index c.queue-item.result c.loop-queue-test.true c.queue-item.is in
    let within = processes_within c.args.queues.now (c.loop-queue.queue-index + 1) in
    omega (arith, more, within, c.requires.room, c.loop-queue.invariant.place, c.len.ensures.value, c.loop-queue.auto.words)

pub loop-queue-preserved : goal.loop-queue-preserved
loop-queue-preserved c =
    let more = processes_more c.args.queues.now c.loop-queue.queue-index c.queue-item.result c.loop-queue-test.true c.queue-item.is in
    record {
      place = omega (arith, more, c.loop-queue.invariant.place, c.len.ensures.value);
      written = rw (c.write_to.ensures, c.len.ensures.value) (queue_written c.args.queues.now c.loop-queue.queue-index c.queue-item.result c.loop-queue.place c.loop-queue.words c.args.words.now _ c.loop-queue-test.true c.queue-item.is c.loop-queue.invariant.place c.loop-queue.invariant.written (omega arith));
    }
