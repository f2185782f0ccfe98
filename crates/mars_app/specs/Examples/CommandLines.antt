-- Examples of what the arguments request.
use Rattle.std.specs.Prelude.{◌≡◌, ℕ, [], ◌∷◌, List, None, Some, codes, false, true, refl}
use Rattle.clap.proofs.OnLiterals.{clap_on_literals}
use Rattle.clap.specs.Faults.{fault_of}
use Rattle.clap.specs.declared.error.kind.ErrorKind.TheVariants as kind
use Rattle.mars_app.specs.CommandLine.{mars}
use Rattle.mars_app.specs.Options.{are_allowed, said_by}

-- Only two files: each option has its default.
abbrev two_files : List (List ℕ)
two_files = codes "a.red" ∷ codes "b.red" ∷ []

pub defaults :
    (fault_of mars two_files ≡ [])
    × ((said_by two_files).files ≡ two_files)
    × ((said_by two_files).rounds ≡ 1)
    × ((said_by two_files).core ≡ 8000)
    × ((said_by two_files).cycles ≡ 80000)
    × ((said_by two_files).processes ≡ 8000)
    × ((said_by two_files).longest ≡ 100)
    × ((said_by two_files).distance ≡ 100)
    × ((said_by two_files).fixed ≡ None)
    × ((said_by two_files).read_limit ≡ None)
    × ((said_by two_files).write_limit ≡ None)
    × ((said_by two_files).seed ≡ 1)
    × ((said_by two_files).history ≡ 200000)
    × ((said_by two_files).score ≡ codes "(W*W-1)/S")
    × ((said_by two_files).league ≡ false)
    × (are_allowed (said_by two_files) ≡ true)
unfolding clap_on_literals
defaults = (refl, refl, refl, refl, refl, refl, refl, refl, refl, refl, refl, refl, refl, refl, refl, refl)

-- Short options may be combined, and a plus may precede a number.
abbrev debugged : List (List ℕ)
debugged = codes "-eb" ∷ codes "-s" ∷ codes "+8" ∷ codes "--history=7" ∷ codes "a.red" ∷ []

pub bundles :
    (fault_of mars debugged ≡ [])
    × ((said_by debugged).debugger ≡ true)
    × ((said_by debugged).brief ≡ true)
    × ((said_by debugged).core ≡ 8)
    × ((said_by debugged).history ≡ 7)
unfolding clap_on_literals
bundles = (refl, refl, refl, refl, refl)

-- `--help` requests the help unless a bad argument is to its left. An option may not be given twice, and the debugger may not be
-- combined with a league.
pub others :
    (fault_of mars (codes "--help" ∷ []) ≡ kind.DisplayHelp ∷ [])
    × (fault_of mars (codes "-r" ∷ codes "0" ∷ codes "--help" ∷ []) ≡ kind.ValueValidation ∷ [])
    × (fault_of mars (codes "-e" ∷ codes "-e" ∷ codes "a.red" ∷ []) ≡ kind.ArgumentConflict ∷ [])
    × (are_allowed (said_by (codes "-e" ∷ codes "--league" ∷ codes "a.red" ∷ codes "b.red" ∷ [])) ≡ false)
unfolding clap_on_literals
others = (refl, refl, refl, refl)

-- Each option that has a number is given with a different number.
abbrev numbered : List (List ℕ)
numbered = codes "-r" ∷ codes "2" ∷ codes "-s" ∷ codes "800" ∷ codes "-c" ∷ codes "4" ∷ codes "-p" ∷ codes "5" ∷ codes "-l" ∷ codes "6" ∷ codes "-d" ∷ codes "7" ∷ codes "-F" ∷ codes "8" ∷ codes "--seed" ∷ codes "9"
    ∷ codes "--read-limit" ∷ codes "10" ∷ codes "--write-limit" ∷ codes "11" ∷ codes "a.red" ∷ codes "b.red" ∷ []

pub numbers_are_read :
    ((said_by numbered).rounds ≡ 2)
    × ((said_by numbered).core ≡ 800)
    × ((said_by numbered).cycles ≡ 4)
    × ((said_by numbered).processes ≡ 5)
    × ((said_by numbered).longest ≡ 6)
    × ((said_by numbered).distance ≡ 7)
    × ((said_by numbered).fixed ≡ Some 8)
    × ((said_by numbered).seed ≡ 9)
    × ((said_by numbered).read_limit ≡ Some 10)
    × ((said_by numbered).write_limit ≡ Some 11)
    × (are_allowed (said_by numbered) ≡ true)
unfolding clap_on_literals
numbers_are_read = (refl, refl, refl, refl, refl, refl, refl, refl, refl, refl, refl)

abbrev Allowed : List (List ℕ) → Type 0
Allowed words = are_allowed (said_by words) ≡ true

abbrev Forbidden : List (List ℕ) → Type 0
Forbidden words = are_allowed (said_by words) ≡ false

-- `--load` requires exactly one file, a league requires at least two warriors, and neither may be combined with the debugger.
pub contests_are_checked :
    Allowed (codes "--load" ∷ codes "a.red" ∷ [])
    × Forbidden (codes "--load" ∷ codes "a.red" ∷ codes "b.red" ∷ [])
    × Forbidden (codes "-e" ∷ codes "--load" ∷ codes "a.red" ∷ [])
    × Allowed (codes "--league" ∷ codes "a.red" ∷ codes "b.red" ∷ [])
    × Forbidden (codes "--league" ∷ codes "a.red" ∷ [])
unfolding clap_on_literals
contests_are_checked = (refl, refl, refl, refl, refl)

-- A position is for the second of two warriors of a match, at least the minimum distance from the first in both
-- directions around the core.
pub positions_are_checked :
    Allowed (codes "-F" ∷ codes "100" ∷ two_files)
    × Allowed (codes "-F" ∷ codes "7900" ∷ two_files)
    × Forbidden (codes "-F" ∷ codes "99" ∷ two_files)
    × Forbidden (codes "-F" ∷ codes "7901" ∷ two_files)
    × Forbidden (codes "-F" ∷ codes "4000" ∷ codes "c.red" ∷ two_files)
    × Forbidden (codes "-F" ∷ codes "4000" ∷ codes "--league" ∷ two_files)
unfolding clap_on_literals
positions_are_checked = (refl, refl, refl, refl, refl, refl)
