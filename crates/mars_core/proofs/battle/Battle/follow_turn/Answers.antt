use Rattle.std.proofs.Common.{◌≡◌, ◌≤◌, ◌<◌, All, length, subst, sym, ap, ◌∙◌, arith}
use Rattle.mars_core.specs.Code.Operands.{AreOperands}
use Rattle.mars_core.specs.Past.{copy_in_turn}
use Rattle.mars_core.specs.Search.{found_turn, meets}
use Rattle.mars_core.specs.State.{State, cell_at}
use Rattle.mars_core.specs.Touched.{touched}
use Rattle.mars_core.specs.Validity.{IsValid}
use Rattle.mars_core.specs.declared.record.Atom.{Atom}
use Rattle.mars_core.proofs.CallerLemmas.{shape-turn_of, turns-turn_of}
use Rattle.mars_core.proofs.Fits.{cell_fits}
use Rattle.mars_core.proofs.Inside.{AreInside}
use Rattle.mars_core.proofs.Pasts.{all_followed}
use Rattle.mars_core.proofs.Searches.{given_if, seen_inside, turn_seen}
use Rattle.mars_core.proofs.battle.Battle.follow_turn.Goals as goal

pub touched_for-touched-requires-clause-pc : goal.touched_for-touched-requires-clause-pc
touched_for-touched-requires-clause-pc c =
    let s = c.args.self.now in
    let params = ap (λ (t : State). t.params) (c.self-2.view_is ∙ c.turn_with_operands-operands.ensures.state) ∙ (shape-turn_of s).params in
    rw params c.front-pc.ensures.inside

pub touched_for-touched-requires-clause-instruction : goal.touched_for-touched-requires-clause-instruction
touched_for-touched-requires-clause-instruction c =
    let s = c.args.self.now in
    let params = ap (λ (t : State). t.params) (c.self-2.view_is ∙ c.turn_with_operands-operands.ensures.state) ∙ (shape-turn_of s).params in
    let valid : IsValid s = subst IsValid c.self.view_is c.self.invariant.valid in
    let core = c.deref.ensures.value ∙ ap (λ (t : State). t.core) c.self.view_is in
    let is : c.cell-instruction.result ≡ cell_at s.core c.front-pc.result =
    c.cell-instruction.ensures ∙ c.cell_at.ensures ∙ ap (λ l. cell_at l c.front-pc.result) core in
    rw (params, is) (cell_fits s.params.core_size s.core c.front-pc.result valid.core c.front-pc.ensures.inside)

pub meets-met-requires-clause-pc : goal.meets-met-requires-clause-pc
meets-met-requires-clause-pc c =
    let s = c.args.self.now in
    let seen = turn_seen s c.turn_with_operands-operands.new.self c.deref-2.result.now c.turn_with_operands-operands.new.atom
    c.turn_with_operands-operands.ensures.state c.turn_with_operands-operands.ensures.«record»
    (c.deref-2.ensures.value ∙ ap (λ (t : State). t.core) c.self-2.view_is) (subst IsValid c.self-2.view_is c.self-2.invariant.valid) in
    rw seen.size c.front-pc.ensures.inside

pub meets-met-requires-clause-touched : goal.meets-met-requires-clause-touched
meets-met-requires-clause-touched c =
    let s = c.args.self.now in
    let params = ap (λ (t : State). t.params) (c.self-2.view_is ∙ c.turn_with_operands-operands.ensures.state) ∙ (shape-turn_of s).params in
    let core = c.deref.ensures.value ∙ ap (λ (t : State). t.core) c.self.view_is in
    let is : c.cell-instruction.result ≡ cell_at s.core c.front-pc.result =
    c.cell-instruction.ensures ∙ c.cell_at.ensures ∙ ap (λ l. cell_at l c.front-pc.result) core in
    let at : AreOperands c.self-2.inside.params s.core c.front-pc.result c.turn_with_operands-operands.result =
    rw (params, c.front-pc.ensures.value) c.turn_with_operands-operands.ensures.operands in
    let seen = turn_seen s c.turn_with_operands-operands.new.self c.deref-2.result.now c.turn_with_operands-operands.new.atom
    c.turn_with_operands-operands.ensures.state c.turn_with_operands-operands.ensures.«record»
    (c.deref-2.ensures.value ∙ ap (λ (t : State). t.core) c.self-2.view_is) (subst IsValid c.self-2.view_is c.self-2.invariant.valid) in
    let inside : All (λ a. a < s.params.core_size) c.touched_for-touched.result.items = rw (← params) (c.touched_for-touched.ensures.inside s.core is at) in
    subst (λ n. All (λ a. a < n) c.as_slice.result.now) (sym seen.size) (subst (All (λ a. a < s.params.core_size)) (sym c.as_slice.ensures.value) inside)

pub meets-met-requires-clause-size : goal.meets-met-requires-clause-size
meets-met-requires-clause-size c =
    let s = c.args.self.now in
    let seen = turn_seen s c.turn_with_operands-operands.new.self c.deref-2.result.now c.turn_with_operands-operands.new.atom
    c.turn_with_operands-operands.ensures.state c.turn_with_operands-operands.ensures.«record»
    (c.deref-2.ensures.value ∙ ap (λ (t : State). t.core) c.self-2.view_is) (subst IsValid c.self-2.view_is c.self-2.invariant.valid) in
    c.requires.size ∙ sym seen.size

pub meets-met-requires-clause-writes : goal.meets-met-requires-clause-writes
meets-met-requires-clause-writes c =
    let s = c.args.self.now in
    let seen = turn_seen s c.turn_with_operands-operands.new.self c.deref-2.result.now c.turn_with_operands-operands.new.atom
    c.turn_with_operands-operands.ensures.state c.turn_with_operands-operands.ensures.«record»
    (c.deref-2.ensures.value ∙ ap (λ (t : State). t.core) c.self-2.view_is) (subst IsValid c.self-2.view_is c.self-2.invariant.valid) in
    let least : 1 ≤ length c.deref-2.result.now = subst (λ n. 1 ≤ n) (sym seen.size) (omega (arith, c.front-pc.ensures.inside)) in
    seen_inside s c.deref-2.result.now c.turn_with_operands-operands.new.atom seen least

pub note_changes-requires-clause-size : goal.note_changes-requires-clause-size
note_changes-requires-clause-size c =
    let s = c.args.self.now in
    let seen = turn_seen s c.turn_with_operands-operands.new.self c.deref-3.result.now c.turn_with_operands-operands.new.atom
    c.turn_with_operands-operands.ensures.state c.turn_with_operands-operands.ensures.«record»
    (c.deref-3.ensures.value ∙ ap (λ (t : State). t.core) c.self-2.view_is) (subst IsValid c.self-2.view_is c.self-2.invariant.valid) in
    c.note_copy.auto.pasts ∙ c.requires.size ∙ sym seen.size

pub note_changes-requires-clause-inside : goal.note_changes-requires-clause-inside
note_changes-requires-clause-inside c =
    let s = c.args.self.now in
    let seen = turn_seen s c.turn_with_operands-operands.new.self c.deref-3.result.now c.turn_with_operands-operands.new.atom
    c.turn_with_operands-operands.ensures.state c.turn_with_operands-operands.ensures.«record»
    (c.deref-3.ensures.value ∙ ap (λ (t : State). t.core) c.self-2.view_is) (subst IsValid c.self-2.view_is c.self-2.invariant.valid) in
    let least : 1 ≤ length c.deref-3.result.now = subst (λ n. 1 ≤ n) (sym seen.size) (omega (arith, c.front-pc.ensures.inside)) in
    subst (AreInside (length c.deref-3.result.now)) (sym c.as_slice-2.ensures.value)
    (seen_inside s c.deref-3.result.now c.turn_with_operands-operands.new.atom seen least)

pub returns-clause-found : goal.returns-clause-found
returns-clause-found c =
    let s = c.args.self.now in
    let params = ap (λ (t : State). t.params) (c.self-2.view_is ∙ c.turn_with_operands-operands.ensures.state) ∙ (shape-turn_of s).params in
    let core = c.deref.ensures.value ∙ ap (λ (t : State). t.core) c.self.view_is in
    let is : c.cell-instruction.result ≡ cell_at s.core c.front-pc.result =
    c.cell-instruction.ensures ∙ c.cell_at.ensures ∙ ap (λ l. cell_at l c.front-pc.result) core in
    let at : AreOperands c.self-2.inside.params s.core c.front-pc.result c.turn_with_operands-operands.result =
    rw (params, c.front-pc.ensures.value) c.turn_with_operands-operands.ensures.operands in
    let seen = turn_seen s c.turn_with_operands-operands.new.self c.deref-2.result.now c.turn_with_operands-operands.new.atom
    c.turn_with_operands-operands.ensures.state c.turn_with_operands-operands.ensures.«record»
    (c.deref-2.ensures.value ∙ ap (λ (t : State). t.core) c.self-2.view_is) (subst IsValid c.self-2.view_is c.self-2.invariant.valid) in
    let met = c.meets-met.ensures s seen c.front-pc.ensures.value (λ asked. c.as_slice.ensures.value
    ∙ c.touched_for-touched.ensures.touched s.core is at asked ∙ ap (λ p. touched p s.core c.front-pc.result) params ∙ ap (λ a. touched s.params s.core a) c.front-pc.ensures.value) in
    let turn = ap (λ (t : State). t.turns) (c.self-2.view_is ∙ c.turn_with_operands-operands.ensures.state) ∙ turns-turn_of s in
    let owner = ap (λ (t : State). t.next) c.self.view_is in
    let queued = ap (λ (a : Atom). length a.queued.items) c.turn_with_operands-operands.ensures.«record» in
    rw (c.then_some-found.ensures, met, turn, owner, c.len.ensures.value, queued, c.front-pc.ensures.value) (given_if (meets c.args.conditions.now s c.args.pasts.now) (found_turn s c.args.pasts.now))

pub returns-clause-pasts : goal.returns-clause-pasts
returns-clause-pasts c =
    let s = c.args.self.now in
    let params = ap (λ (t : State). t.params) (c.self-2.view_is ∙ c.turn_with_operands-operands.ensures.state) ∙ (shape-turn_of s).params in
    let core = c.deref.ensures.value ∙ ap (λ (t : State). t.core) c.self.view_is in
    let is : c.cell-instruction.result ≡ cell_at s.core c.front-pc.result =
    c.cell-instruction.ensures ∙ c.cell_at.ensures ∙ ap (λ l. cell_at l c.front-pc.result) core in
    let at : AreOperands c.self-2.inside.params s.core c.front-pc.result c.turn_with_operands-operands.result =
    rw (params, c.front-pc.ensures.value) c.turn_with_operands-operands.ensures.operands in
    let seen = turn_seen s c.turn_with_operands-operands.new.self c.deref-3.result.now c.turn_with_operands-operands.new.atom
    c.turn_with_operands-operands.ensures.state c.turn_with_operands-operands.ensures.«record»
    (c.deref-3.ensures.value ∙ ap (λ (t : State). t.core) c.self-2.view_is) (subst IsValid c.self-2.view_is c.self-2.invariant.valid) in
    let writes = c.as_slice-2.ensures.value ∙ ap (λ (a : Atom). a.cells.items) seen.atom_is in
    let owner = ap (λ (t : State). t.next) c.self.view_is in
    let turn = ap (λ (t : State). t.turns) (c.self-2.view_is ∙ c.turn_with_operands-operands.ensures.state) ∙ turns-turn_of s in
    let copy : c.copy_by.result ≡ copy_in_turn s = rw (← c.front-pc.ensures.value) (c.copy_by.ensures.copy s.params s.core c.front-pc.result is (rw (← params) at)) in
    all_followed s c.args.pasts.now c.note_copy.new.pasts c.note_changes.new.pasts c.copy_by.result c.as_slice-2.result.now c.deref-3.result.now
    _ _ c.note_copy.auto.pasts (c.note_changes.auto.pasts ∙ c.note_copy.auto.pasts) copy writes seen.core_is owner turn
    c.note_copy.ensures c.note_changes.ensures
