use Rattle.std.proofs.Common.{◌≡◌, ap, subst, ◌∙◌}
use Rattle.mars_core.specs.State.{State, cell_at}
use Rattle.mars_core.specs.Code.Operands.{AreOperands}
use Rattle.mars_core.specs.Touched.{touched}
use Rattle.mars_core.specs.Validity.{IsValid}
use Rattle.mars_core.proofs.CallerLemmas.{shape-turn_of}
use Rattle.mars_core.proofs.Fits.{cell_fits}
use Rattle.mars_core.proofs.battle.Battle.turn_touching.Goals as goal

pub touched-requires-clause-pc : goal.touched-requires-clause-pc
touched-requires-clause-pc c =
    let s = c.args.self.now in
    let params = ap (λ (t : State). t.params) (c.self-2.view_is ∙ c.turn_with_operands-operands.ensures.state) ∙ (shape-turn_of s).params in
    rw params c.front-pc.ensures.inside

pub touched-requires-clause-instruction : goal.touched-requires-clause-instruction
touched-requires-clause-instruction c =
    let s = c.args.self.now in
    let params = ap (λ (t : State). t.params) (c.self-2.view_is ∙ c.turn_with_operands-operands.ensures.state) ∙ (shape-turn_of s).params in
    let valid : IsValid s = subst IsValid c.self.view_is c.self.invariant.valid in
    let core = c.deref.ensures.value ∙ ap (λ (t : State). t.core) c.self.view_is in
    let is : c.cell-instruction.result ≡ cell_at s.core c.front-pc.result =
    c.cell-instruction.ensures ∙ c.cell_at.ensures ∙ ap (λ l. cell_at l c.front-pc.result) core in
    rw (params, is) (cell_fits s.params.core_size s.core c.front-pc.result valid.core c.front-pc.ensures.inside)

pub returns-clause-addresses : goal.returns-clause-addresses
returns-clause-addresses c =
    let s = c.args.self.now in
    let params = ap (λ (t : State). t.params) (c.self-2.view_is ∙ c.turn_with_operands-operands.ensures.state) ∙ (shape-turn_of s).params in
    let core = c.deref.ensures.value ∙ ap (λ (t : State). t.core) c.self.view_is in
    let is : c.cell-instruction.result ≡ cell_at s.core c.front-pc.result =
    c.cell-instruction.ensures ∙ c.cell_at.ensures ∙ ap (λ l. cell_at l c.front-pc.result) core in
    let at : AreOperands c.self-2.inside.params s.core c.front-pc.result c.turn_with_operands-operands.result =
    rw (params, c.front-pc.ensures.value) c.turn_with_operands-operands.ensures.operands in
    c.touched.ensures s.core is at ∙ ap (λ p. touched p s.core c.front-pc.result) params ∙ ap (λ a. touched s.params s.core a) c.front-pc.ensures.value
