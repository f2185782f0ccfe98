use Rattle.std.proofs.Common.{arith, ap, subst, ◌++◌, ◌∙◌, ◌≡◌, ◌*◌, List, length, drop}
use Rattle.std.specs.Prelude.{sum}
use Rattle.std.specs.List.{concat}
use Rattle.mars_core.specs.State.{State}
use Rattle.mars_core.specs.Queue.{Queue, addresses_of}
use Rattle.mars_core.specs.Validity.{IsValid}
use Rattle.mars_core.specs.Block.{lengths_of, core_words}
use Rattle.mars_core.proofs.BlockParts.{length-block_of, written}
use Rattle.mars_core.proofs.battle.Battle.write_block.Goals as goal

pub split_at_mut-head-requires : goal.split_at_mut-head-requires
split_at_mut-head-requires c =
    let v = subst IsValid c.self.view_is c.self.invariant.valid in
    omega (arith, c.requires, length-block_of c.args.self.now v)

pub split_at_mut-cells-requires : goal.split_at_mut-cells-requires
split_at_mut-cells-requires c =
    let v = subst IsValid c.self.view_is c.self.invariant.valid in
    let core : length c.self.inside.core.items ≡ length c.args.self.now.core = ap (λ (s : State). length s.core) c.self.view_is in
    omega (arith, c.requires, length-block_of c.args.self.now v, core, c.len-cell_words.ensures, c.self.inside.core.ok.0, c.split_at_mut-head.ensures.back_len)

pub write_queues-requires : goal.write_queues-requires
write_queues-requires c =
    let v = subst IsValid c.self.view_is c.self.invariant.valid in
    let core : length c.self.inside.core.items ≡ length c.args.self.now.core = ap (λ (s : State). length s.core) c.self.view_is in
    let queues : sum (lengths_of (addresses_of c.deref-2.result.now)) ≡ sum (lengths_of c.args.self.now.queues) = ap (λ (q : List Queue). sum (lengths_of (addresses_of q))) c.deref-2.ensures.value ∙ ap (λ (s : State). sum (lengths_of s.queues)) c.self.view_is in
    record { room = omega (arith, c.requires, length-block_of c.args.self.now v, core, queues, c.len-cell_words.ensures, c.self.inside.core.ok.0, c.split_at_mut-head.ensures.back_len, c.split_at_mut-cells.ensures.back_len) }

pub returns : goal.returns
returns c =
    let v = subst IsValid c.self.view_is c.self.invariant.valid in
    let core : length c.self.inside.core.items ≡ length c.args.self.now.core = ap (λ (s : State). length s.core) c.self.view_is in
    let size : 3 * c.len-cell_words.result ≡ 3 * length c.args.self.now.core = omega (arith, core, c.len-cell_words.ensures, c.self.inside.core.ok.0) in
    let cells : c.write_cells.new.words ≡ core_words c.args.self.now.core = c.write_cells.ensures ∙ ap core_words c.deref.ensures.value ∙ ap (λ (s : State). core_words s.core) c.self.view_is in
    let queues = c.write_queues.ensures
    ∙ ap (λ (q : List Queue). concat (addresses_of q) ++ drop (sum (lengths_of (addresses_of q))) c.split_at_mut-cells.result.1.now) c.deref-2.ensures.value
    ∙ ap (λ (s : State). concat s.queues ++ drop (sum (lengths_of s.queues)) c.split_at_mut-cells.result.1.now) c.self.view_is in
    written c.args.self.now c.args.words.now c.write_head.new.head c.split_at_mut-head.result.1.now c.write_cells.new.words c.split_at_mut-cells.result.1.now c.write_queues.new.words (3 * c.len-cell_words.result) v
    c.write_head.ensures cells c.split_at_mut-head.ensures.back c.split_at_mut-cells.ensures.back size queues
