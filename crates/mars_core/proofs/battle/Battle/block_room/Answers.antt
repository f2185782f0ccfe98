use Rattle.std.proofs.Common.{arith, ap, subst, ◌≡◌, ◌+◌, ◌*◌, ◌∙◌, ℕ, length}
use Rattle.std.proofs.lemmas.List.{length-map}
use Rattle.mars_cell.specs.Parameters.{Parameters}
use Rattle.mars_core.specs.State.{State}
use Rattle.mars_core.specs.Queue.{Queue, addresses_of}
use Rattle.mars_core.specs.Validity.{IsValid}
use Rattle.mars_core.proofs.BlockParts.{length-block_of, room_words}
use Rattle.mars_core.proofs.battle.Battle.block_room.Goals as goal

pub max_words-requires : goal.max_words-requires
max_words-requires c =
    let many = length-map c.self.inside.queues.items (λ (q : Queue). q.addresses) in
    omega (arith, many, c.len.ensures, c.self.inside.queues.ok.0, c.self.invariant.valid.few)

pub returns-clause-value : goal.returns-clause-value
returns-clause-value c =
    let queues : length (addresses_of c.self.inside.queues.items) ≡ length c.args.self.now.queues = ap (λ (s : State). length s.queues) c.self.view_is in
    let many : c.len.result ≡ length c.args.self.now.queues = omega (arith, queues, length-map c.self.inside.queues.items (λ (q : Queue). q.addresses), c.len.ensures, c.self.inside.queues.ok.0) in
    let params : c.self.inside.params ≡ c.args.self.now.params = ap (λ (s : State). s.params) c.self.view_is in
    c.max_words.ensures
    ∙ ap (λ (p : Parameters). 64 + 3 * p.core_size + c.len.result * p.processes) params
    ∙ ap (λ (n : ℕ). 64 + 3 * c.args.self.now.params.core_size + n * c.args.self.now.params.processes) many

pub returns-clause-enough : goal.returns-clause-enough
returns-clause-enough c =
    let v = subst IsValid c.self.view_is c.self.invariant.valid in
    let queues : length (addresses_of c.self.inside.queues.items) ≡ length c.args.self.now.queues = ap (λ (s : State). length s.queues) c.self.view_is in
    let many : c.len.result ≡ length c.args.self.now.queues = omega (arith, queues, length-map c.self.inside.queues.items (λ (q : Queue). q.addresses), c.len.ensures, c.self.inside.queues.ok.0) in
    let params : c.self.inside.params ≡ c.args.self.now.params = ap (λ (s : State). s.params) c.self.view_is in
    let value = c.max_words.ensures
    ∙ ap (λ (p : Parameters). 64 + 3 * p.core_size + c.len.result * p.processes) params
    ∙ ap (λ (n : ℕ). 64 + 3 * c.args.self.now.params.core_size + n * c.args.self.now.params.processes) many in
    omega (arith, value, length-block_of c.args.self.now v, room_words c.args.self.now v)
