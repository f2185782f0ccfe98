-- Which programs are rejected.
use Rattle.std.specs.Prelude.{not, nat_lt, ◌==◌, length, if◌then◌else◌, Result, Ok, Err}
use Rattle.mars_cell.specs.Warriors.{WarriorValue}
use Rattle.mars_cell.specs.declared.warriors.WarriorFault.{WarriorFault}
use Rattle.mars_cell.specs.declared.warriors.WarriorFault.TheVariants.{Empty, BadOrigin}

-- The program `w`, or its first error. A warrior has at least one cell and starts at one of its cells.
abbrev pub checked_warrior : WarriorValue → Result WarriorValue WarriorFault
checked_warrior w =
    if length w.cells == 0 then Err Empty
    else if not (nat_lt w.start (length w.cells)) then Err BadOrigin
    else Ok w
