use Rattle.std.proofs.Common.{codes, inr, length}
use Rattle.mars_c.specs.Battles.{round_start_state}
use Rattle.mars_c.proofs.Refused.{fails}
use Rattle.mars_c.proofs.battles.start_of.Goals as goal

pub returns-in-Err-clause-refused : goal.returns-in-Err-clause-refused
returns-in-Err-clause-refused c =
    let entry = c.in_ok-setup.field-0 in
    inr (fails c.args.settings.now (codes "0") (length c.args.entrants.warriors.now) c.args.entrants.cells.now c.args.entrants.warriors.now (λ setup ws. round_start_state setup ws c.args.round)
    entry.setup entry.warriors.items c.in-Err.fault c.refused_fight.result
    c.in_ok-setup.ensures.setup c.in_ok-setup.ensures.read c.in-Err.ensures.fault c.refused_fight.ensures)
