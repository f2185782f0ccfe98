use Rattle.std.proofs.Common.{arith, ap, ◌≡◌, ◌∙◌, length}
use Rattle.std.proofs.lemmas.List.{length-map}
use Rattle.mars_core.specs.State.{State}
use Rattle.mars_core.specs.Queue.{Queue, addresses_of}
use Rattle.mars_core.proofs.BlockParts.{length-block_of, fields_are}
use Rattle.mars_core.proofs.battle.Battle.write_fields.Goals as goal

pub returns : goal.returns
returns c =
    let v = c.over_word.ensures.valid in
    let e = c.self.view_is in
    let queues : length (addresses_of c.self.inside.queues.items) ≡ length c.args.self.now.queues = ap (λ (s : State). length s.queues) e in
    let deaths : length c.self.inside.deaths.items ≡ length c.args.self.now.deaths = ap (λ (s : State). length s.deaths) e in
    c.copy_from_slice.ensures.after ∙ fields_are c.args.self.now _ _ _ _ _ _ _ _ _ _ _ _ _ _
    (c.block_len.ensures.value ∙ length-block_of c.args.self.now v)
    (c.core_size.ensures.value ∙ ap (λ (s : State). s.params.core_size) e)
    (c.processes.ensures ∙ ap (λ (s : State). s.params.processes) e)
    (c.cycles.ensures ∙ ap (λ (s : State). s.params.cycles) e)
    (c.read_limit.ensures ∙ ap (λ (s : State). s.params.read_limit) e)
    (c.write_limit.ensures ∙ ap (λ (s : State). s.params.write_limit) e)
    (c.max_length.ensures ∙ ap (λ (s : State). s.params.max_length) e)
    (c.distance.ensures ∙ ap (λ (s : State). s.params.distance) e)
    (omega (arith, c.len.ensures, queues, c.self.inside.queues.ok.0, length-map c.self.inside.queues.items (λ (q : Queue). q.addresses)))
    (ap (λ (s : State). s.turns) e)
    (ap (λ (s : State). s.cycle) e)
    (ap (λ (s : State). s.next) e)
    c.over_word.ensures.word
    (omega (arith, c.len-2.ensures.value, deaths))
