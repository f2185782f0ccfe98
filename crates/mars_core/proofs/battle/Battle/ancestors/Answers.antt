use Rattle.std.proofs.Common.{length, ap, ◌∙◌}
use Rattle.mars_core.specs.Ancestors.{Lineage}
use Rattle.mars_core.specs.Search.{filled}
use Rattle.mars_core.proofs.Lineages.{kept_lineage}
use Rattle.mars_core.proofs.battle.Battle.ancestors.Goals as goal

pub returns-clause-count : goal.returns-clause-count
returns-clause-count c =
    let a = c.args in
    let own = c.in-Ok-own_turns.ensures in
    c.trace_back.ensures.count
    ∙ ap (λ (l : Lineage). length l.births) (kept_lineage a.turns a.self.now c.in-Ok.battle a.warrior a.place _ _ c.deref.ensures.value own.turns c.in-Ok.ensures)

pub returns-clause-first : goal.returns-clause-first
returns-clause-first c =
    let a = c.args in
    let own = c.in-Ok-own_turns.ensures in
    c.trace_back.ensures.first
    ∙ ap (λ (l : Lineage). l.place) (kept_lineage a.turns a.self.now c.in-Ok.battle a.warrior a.place _ _ c.deref.ensures.value own.turns c.in-Ok.ensures)

pub returns-clause-births : goal.returns-clause-births
returns-clause-births c =
    let a = c.args in
    let own = c.in-Ok-own_turns.ensures in
    c.trace_back.ensures.births
    ∙ ap (λ (l : Lineage). filled l.births a.births.now) (kept_lineage a.turns a.self.now c.in-Ok.battle a.warrior a.place _ _ c.deref.ensures.value own.turns c.in-Ok.ensures)
