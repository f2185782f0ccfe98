use Rattle.std.proofs.Common.{◌≡◌, ◌⊎◌, Err, inl, rules}
use Rattle.mars_match.specs.Leagues.{league_of}
use Rattle.mars_match.specs.declared.fault.MatchFault.TheVariants as fight
use Rattle.mars_c.specs.Refusals.{FailsLeague, RefusesEntry}
use Rattle.mars_c.proofs.Refused.{fails, memory_or}
use Rattle.mars_c.proofs.contests.league_table.Goals as goal

pub returns-in_err-entry-clause-refused : goal.returns-in_err-entry-clause-refused
returns-in_err-entry-clause-refused c =
    let refusal = c.in_err-entry.field-0.0 in
    let shown : RefusesEntry c.args.settings.now c.args.formula.now 0 c.args.entrants.cells.now c.args.entrants.warriors.now refusal
    ⊎ FailsLeague c.args.settings.now c.args.formula.now c.args.entrants.cells.now c.args.entrants.warriors.now refusal = inl c.in_err-entry.ensures.refused in search rules

pub returns-in-Err-clause-refused : goal.returns-in-Err-clause-refused
returns-in-Err-clause-refused c =
    let setup = c.in_ok-entry.entry.setup in
    let ws = c.in_ok-entry.entry.warriors.items in
    let fault = c.in-Err.fault in
    let shown : (fault ≡ fight.OutOfMemory) ⊎ (league_of setup.params ws setup.formula setup.plan.fixed setup.plan.rounds setup.plan.seed ≡ Err fault) = search rules in
    fails c.args.settings.now c.args.formula.now 0 c.args.entrants.cells.now c.args.entrants.warriors.now
    (λ setup ws. league_of setup.params ws setup.formula setup.plan.fixed setup.plan.rounds setup.plan.seed) setup ws fault c.refused_fight.result
    c.in_ok-entry.ensures.setup c.in_ok-entry.ensures.read (memory_or fault shown) c.refused_fight.ensures
