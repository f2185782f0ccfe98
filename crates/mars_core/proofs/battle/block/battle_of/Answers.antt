use Rattle.std.proofs.Common.{arith, ap, sym, subst, ◌∙◌, ◌≡◌, ◌*◌, ℕ, List, length, get_or, take, All}
use Rattle.mars_cell.specs.Parameters.{Parameters, AreInRange}
use Rattle.mars_core.specs.Queue.{Queue, addresses_of}
use Rattle.mars_core.specs.Validity.{IsCore, IsQueue, IsValid}
use Rattle.mars_core.specs.Block.{params_in, lengths_of}
use Rattle.std.proofs.lemmas.List.{length-map, take_rest}
use Rattle.mars_core.proofs.BlockParts.{few_deaths, head_params, head_deaths_count}
use Rattle.mars_core.proofs.BlockFaults.{state_wrong}
use Rattle.mars_core.proofs.BlockReadBack.{state_read}
use Rattle.mars_core.proofs.battle.block.battle_of.Goals as goal

pub returns-in-Err-clause-none : goal.returns-in-Err-clause-none
returns-in-Err-clause-none c = λ _ s v p. c.in-Err.ensures.none (subst AreInRange (sym (ap params_in p.head ∙ head_params s)) v.params)

pub returns-in_default-clause-none : goal.returns-in_default-clause-none
returns-in_default-clause-none c = λ _ s v p.
    let count : get_or c.args.parts.now.head.now 14 0 ≡ length s.deaths = ap (λ (l : List ℕ). get_or l 14 0) p.head ∙ head_deaths_count s in
    omega (arith, count, few_deaths s v, c.in_default.ensures.none)

pub returns-in-Err-read_cells-clause-none : goal.returns-in-Err-read_cells-clause-none
returns-in-Err-read_cells-clause-none c = λ h s v p.
    let size : c.core_size.result ≡ s.params.core_size = c.core_size.ensures.value ∙ ap (λ (q : Parameters). q.core_size) (c.in-Ok.ensures.params ∙ ap params_in p.head ∙ head_params s) in
    c.in-Err-read_cells.ensures.none h s.core (subst (λ (n : ℕ). IsCore n s.core) (sym size) v.core) (sym p.cells)

pub returns-in-Err-read_queues-clause-none : goal.returns-in-Err-read_queues-clause-none
returns-in-Err-read_queues-clause-none c = λ h s v p.
    let same : c.in-Ok.params ≡ s.params = c.in-Ok.ensures.params ∙ ap params_in p.head ∙ head_params s in
    c.in-Err-read_queues.ensures.none h s.queues (subst (λ (q : Parameters). All (IsQueue q.core_size q.processes) s.queues) (sym same) v.queues) (sym p.counts) (sym p.processes)

pub resumed-requires-clause-few : goal.resumed-requires-clause-few
resumed-requires-clause-few c =
    let many : length (lengths_of (addresses_of c.in-Ok-read_queues.queues.items)) ≡ length c.in-Ok-read_queues.queues.items =
    length-map (addresses_of c.in-Ok-read_queues.queues.items) (λ (l : List ℕ). length l) ∙ length-map c.in-Ok-read_queues.queues.items (λ (q : Queue). q.addresses) in
    let counts = ap length c.in-Ok-read_queues.ensures.counts in
    omega (arith, many, counts, c.requires.few)

pub returns-in-Ok-resumed-clause-battle : goal.returns-in-Ok-resumed-clause-battle
returns-in-Ok-resumed-clause-battle c = λ s v p.
    c.in-Ok-resumed.ensures.state ∙ state_read s _ _ _ _ _ _ _ _ v p c.in-Ok.ensures.params c.in-Ok-read_cells.ensures.words c.in-Ok-read_queues.ensures.counts c.in-Ok-read_queues.ensures.words (c.in-Some.ensures.words ∙ ap (λ (l : List ℕ). take (2 * get_or c.args.parts.now.head.now 14 0) l) (take_rest c.args.parts.now.head.now 32))

pub returns-in-Err-resumed-clause-none : goal.returns-in-Err-resumed-clause-none
returns-in-Err-resumed-clause-none c = λ _ s v p.
    let same = state_read s _ _ _ _ _ _ _ _ v p c.in-Ok.ensures.params c.in-Ok-read_cells.ensures.words c.in-Ok-read_queues.ensures.counts c.in-Ok-read_queues.ensures.words (c.in-Some.ensures.words ∙ ap (λ (l : List ℕ). take (2 * get_or c.args.parts.now.head.now 14 0) l) (take_rest c.args.parts.now.head.now 32)) in
    c.in-Err-resumed.ensures.none (subst IsValid (sym same) v)

pub returns-in-Err-clause-wrong : goal.returns-in-Err-clause-wrong
returns-in-Err-clause-wrong c = λ words head counts cells processes. c.in-Err.ensures.wrong words head

pub returns-in-Err-resumed-clause-wrong : goal.returns-in-Err-resumed-clause-wrong
returns-in-Err-resumed-clause-wrong c = λ words head counts cells processes.
    state_wrong words c.args.parts.now.head.now c.in-Ok.params (addresses_of c.in-Ok-read_queues.queues.items) c.in-Some.deaths.items c.in-Err-resumed.fault head c.in-Ok.ensures.params
    (c.in-Ok-read_queues.ensures.counts ∙ counts) (c.in-Ok-read_queues.ensures.words ∙ processes)
    (c.in-Some.ensures.words ∙ ap (λ (l : List ℕ). take (2 * get_or c.args.parts.now.head.now 14 0) l) (take_rest c.args.parts.now.head.now 32)) c.in-Err-resumed.ensures.wrong
