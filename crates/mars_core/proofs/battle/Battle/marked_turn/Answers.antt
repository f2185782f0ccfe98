use Rattle.std.proofs.Common.{◌≡◌, ◌∙◌, ap, length, nat_eq, subst, sym}
use Rattle.mars_core.specs.Code.Marks.{marks_by}
use Rattle.mars_core.specs.Code.Operands.{AreOperands, IsUnlimited}
use Rattle.mars_core.specs.Marks.{marks_of}
use Rattle.mars_core.specs.State.{State, cell_at}
use Rattle.mars_core.specs.Turn.{turn_record}
use Rattle.mars_core.proofs.CallerLemmas.{shape-turn_of}
use Rattle.mars_core.proofs.Fits.{cell_fits}
use Rattle.mars_core.proofs.Marks.{marks_in_turn}
use Rattle.mars_core.proofs.TouchedInside.{front_inside}
use Rattle.mars_core.proofs.battle.Battle.marked_turn.Goals as goal

pub mark_turn-requires-clause-unlimited : goal.mark_turn-requires-clause-unlimited
mark_turn-requires-clause-unlimited g c = λ e.
    let s = c.args.self.now in
    let params = ap (λ (t : State). t.params) (c.self.view_is ∙ c.made_turn-made.ensures.state) ∙ (shape-turn_of s).params in
    subst IsUnlimited (sym params) (c.requires.unlimited e)

pub mark_turn-requires-clause-size : goal.mark_turn-requires-clause-size
mark_turn-requires-clause-size g c =
    let s = c.args.self.now in
    let params = ap (λ (t : State). t.params) (c.self.view_is ∙ c.made_turn-made.ensures.state) ∙ (shape-turn_of s).params in
    rw params c.requires.size

pub mark_turn-requires-clause-pc : goal.mark_turn-requires-clause-pc
mark_turn-requires-clause-pc g c =
    let s = c.args.self.now in
    let params = ap (λ (t : State). t.params) (c.self.view_is ∙ c.made_turn-made.ensures.state) ∙ (shape-turn_of s).params in
    rw (params, c.made_turn-made.ensures.taken) (front_inside s c.requires.valid)

pub mark_turn-requires-clause-instruction : goal.mark_turn-requires-clause-instruction
mark_turn-requires-clause-instruction g c =
    let s = c.args.self.now in
    let params = ap (λ (t : State). t.params) (c.self.view_is ∙ c.made_turn-made.ensures.state) ∙ (shape-turn_of s).params in
    rw (params, c.cell-instruction.ensures, c.made_turn-made.ensures.instruction)
    (cell_fits s.params.core_size s.core _ c.requires.valid.core (front_inside s c.requires.valid))

pub mark_turn-requires-clause-a_read : goal.mark_turn-requires-clause-a_read
mark_turn-requires-clause-a_read g c =
    let s = c.args.self.now in
    let params = ap (λ (t : State). t.params) (c.self.view_is ∙ c.made_turn-made.ensures.state) ∙ (shape-turn_of s).params in
    rw params c.made_turn-made.ensures.operands.reads_inside

pub mark_turn-requires-clause-b_read : goal.mark_turn-requires-clause-b_read
mark_turn-requires-clause-b_read g c =
    let s = c.args.self.now in
    let params = ap (λ (t : State). t.params) (c.self.view_is ∙ c.made_turn-made.ensures.state) ∙ (shape-turn_of s).params in
    rw params c.made_turn-made.ensures.operands.b_reads_inside

pub mark_turn-requires-clause-b_write : goal.mark_turn-requires-clause-b_write
mark_turn-requires-clause-b_write g c =
    let s = c.args.self.now in
    let params = ap (λ (t : State). t.params) (c.self.view_is ∙ c.made_turn-made.ensures.state) ∙ (shape-turn_of s).params in
    rw params c.made_turn-made.ensures.operands.writes_inside

pub returns-clause-split : goal.returns-clause-split
unfolding turn_record
returns-clause-split g c = c.splits.ensures ∙ ap (λ l. nat_eq (length l) 2) c.made_turn-made.ensures.queued

pub returns-clause-marks : goal.returns-clause-marks
returns-clause-marks g c =
    let s = c.args.self.now in
    let first = marks_of c.args.marks.now in
    let made = c.made_turn-made in
    let params = ap (λ (t : State). t.params) (c.self.view_is ∙ made.ensures.state) ∙ (shape-turn_of s).params in
    let is : c.cell-instruction.result ≡ cell_at s.core made.result.taken =
    c.cell-instruction.ensures ∙ made.ensures.instruction ∙ ap (cell_at s.core) (sym made.ensures.taken) in
    let at : AreOperands c.self.inside.params s.core made.result.taken made.result.operands = rw (params, made.ensures.taken) made.ensures.operands in
    c.mark_turn.ensures s.core is at
    ∙ ap (λ p. marks_by p s.core made.result.taken first) params
    ∙ ap (λ a. marks_by s.params s.core a first) made.ensures.taken
    ∙ marks_in_turn s first
