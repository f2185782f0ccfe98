use Rattle.std.proofs.Common.{arith, ap, subst, ◌∙◌, List, length}
use Rattle.std.specs.Prelude.{sum}
use Rattle.mars_core.specs.State.{State}
use Rattle.mars_core.specs.Queue.{Queue, addresses_of}
use Rattle.mars_core.specs.Validity.{IsValid}
use Rattle.mars_core.specs.Block.{lengths_of}
use Rattle.mars_core.proofs.BlockParts.{length-block_of, few_words}
use Rattle.mars_core.proofs.battle.Battle.block_len.Goals as goal

pub overflow_add-result-2 : goal.overflow_add-result-2
overflow_add-result-2 c =
    let v = subst IsValid c.self.view_is c.self.invariant.valid in
    let few = few_words c.args.self.now v in
    let core = ap (λ (s : State). length s.core) c.self.view_is in
    let queues = ap (λ (s : State). sum (lengths_of s.queues)) c.self.view_is in
    let processes = c.processes_of.ensures ∙ ap (λ (q : List Queue). sum (lengths_of (addresses_of q))) c.deref.ensures.value in
    omega (arith, few, core, queues, processes, c.len.ensures, c.self.inside.core.ok.0)

pub returns-clause-few : goal.returns-clause-few
returns-clause-few c =
    let v = subst IsValid c.self.view_is c.self.invariant.valid in
    let few = few_words c.args.self.now v in
    let core = ap (λ (s : State). length s.core) c.self.view_is in
    let queues = ap (λ (s : State). sum (lengths_of s.queues)) c.self.view_is in
    let processes = c.processes_of.ensures ∙ ap (λ (q : List Queue). sum (lengths_of (addresses_of q))) c.deref.ensures.value in
    omega (arith, few, core, queues, processes, c.len.ensures, c.self.inside.core.ok.0)

pub returns-clause-value : goal.returns-clause-value
returns-clause-value c =
    let v = subst IsValid c.self.view_is c.self.invariant.valid in
    let long = length-block_of c.args.self.now v in
    let core = ap (λ (s : State). length s.core) c.self.view_is in
    let queues = ap (λ (s : State). sum (lengths_of s.queues)) c.self.view_is in
    let processes = c.processes_of.ensures ∙ ap (λ (q : List Queue). sum (lengths_of (addresses_of q))) c.deref.ensures.value in
    omega (arith, long, core, queues, processes, c.len.ensures, c.self.inside.core.ok.0)
