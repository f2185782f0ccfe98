use Rattle.std.proofs.Common.{rules}
use Rattle.mars_c.proofs.Refused.{entry_of}
use Rattle.mars_c.proofs.entrants.enter.Goals as goal

pub returns-in_err-setup-clause-refused : goal.returns-in_err-setup-clause-refused
returns-in_err-setup-clause-refused c = let shown = c.in_err-setup.ensures.refused c.args.entrants.cells.now c.args.entrants.warriors.now in search rules

pub returns-in_err-warriors-clause-refused : goal.returns-in_err-warriors-clause-refused
returns-in_err-warriors-clause-refused c =
    let s = c.args.settings.now in
    let cells = c.args.entrants.cells.now in
    let refuses = c.in_err-warriors.ensures.refused s c.in_ok-setup.ensures.setup.params in
    let shown = entry_of s c.args.formula.now c.args.count cells c.args.entrants.warriors.now _ refuses in search rules
