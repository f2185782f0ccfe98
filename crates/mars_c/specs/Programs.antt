-- The programs of sources and load files as numbers, the lines of their cells, and texts in buffers.
use Rattle.std.specs.Prelude.{◌≡◌, ◌≢◌, ◌≤◌, ◌<◌, ◌⊎◌, ℕ, List, [], ◌++◌, drop, length, map, Ok}
use Rattle.mars_cell.specs.Load.{load}
use Rattle.mars_cell.specs.Parameters.{Parameters}
use Rattle.mars_cell.specs.ParameterFaults.{checked_parameters}
use Rattle.mars_cell.specs.Warriors.{WarriorValue}
use Rattle.mars_cell.specs.Written.{load_text}
use Rattle.redcode_asm.specs.Assembly.{assembly}
use Rattle.redcode_asm.specs.SourceLines.{CellLines, source_lines}
use Rattle.redcode_asm.specs.declared.lines.CellLine.{CellLine}
use Rattle.mars_c.specs.Cells.{plain_cell}
use Rattle.mars_c.specs.Entrants.{IsEntrant, named, plain_program}
use Rattle.mars_c.specs.Settings.{parameters_in}
use Rattle.mars_c.specs.declared.cells.MarsCell.{MarsCell}
use Rattle.mars_c.specs.declared.settings.MarsSettings.{MarsSettings}
use Rattle.mars_c.specs.declared.warriors.MarsProgram.{MarsProgram}

-- The buffer `after` begins with `values`, whose number is `count`; after them it equals the buffer `before`.
abbrev pub BeginsWith : {A : Type 0} → List A → ℕ → List A → List A → Type 0
BeginsWith values count before after = (count ≡ length values) × (count ≤ length before) × (after ≡ values ++ drop count before)

-- `text`, whose length is `count`, is longer than the buffer.
abbrev pub Overflows : List ℕ → ℕ → List ℕ → Type 0
Overflows text count buffer = (count ≡ length text) × (length buffer < count)

-- The buffer `after` begins with a text for which `Is` holds.
abbrev pub HoldsText : (List ℕ → Type 0) → ℕ → List ℕ → List ℕ → Type 0
HoldsText Is count before after = (text : List ℕ) × Is text × BeginsWith text count before after

-- A text for which `Is` holds is longer than the buffer.
abbrev pub OverflowsText : (List ℕ → Type 0) → ℕ → List ℕ → Type 0
OverflowsText Is count buffer = (text : List ℕ) × Is text × Overflows text count buffer

-- The places `after` begin with the cells of a warrior for which `Is` holds, and `program` has its numbers and names.
abbrev pub HoldsProgram : (WarriorValue → Type 0) → MarsProgram → List MarsCell → List MarsCell → Type 0
HoldsProgram Is program before after = (w : WarriorValue) × Is w × (program ≡ plain_program w)
    × (length w.cells ≤ length before) × (after ≡ map plain_cell w.cells ++ drop (length w.cells) before)

-- A warrior for which `Is` holds has more cells than there are places; `program` still has its numbers and names.
abbrev pub OverflowsProgram : (WarriorValue → Type 0) → MarsProgram → List MarsCell → Type 0
OverflowsProgram Is program places = (w : WarriorValue) × Is w × (program ≡ plain_program w) × (length places < length w.cells)

-- `w` is the warrior that the source is assembled to, with the settings `s`. `warriors` is the value of WARRIORS.
abbrev pub IsAssembled : MarsSettings → ℕ → List ℕ → WarriorValue → Type 0
IsAssembled s warriors source w = (p : Parameters) × (checked_parameters (parameters_in s) ≡ Ok p) × (assembly p s.rounds warriors source ≡ Ok w)

-- `w` is the warrior of the load file `text`, with the settings `s`.
abbrev pub IsLoaded : MarsSettings → List ℕ → WarriorValue → Type 0
IsLoaded s text w = (p : Parameters) × (checked_parameters (parameters_in s) ≡ Ok p) × (load p.core_size p.max_length text ≡ Ok w)

-- `text` is the load file of the program `program` with the cells `cells` and the settings `s`.
abbrev pub IsLoadFile : MarsSettings → List MarsCell → MarsProgram → List ℕ → Type 0
IsLoadFile s cells program text = (p : Parameters) × (w : WarriorValue) × (checked_parameters (parameters_in s) ≡ Ok p) × (program.warrior.length ≡ length cells)
    × IsEntrant p cells program.warrior.start (named program.name) (named program.author) w × (text ≡ load_text p.core_size w)

-- `made` has the lines in `source` of the cells of the warrior that `IsAssembled` defines, and their labels.
abbrev pub AreLines : MarsSettings → ℕ → List ℕ → CellLines → Type 0
AreLines s warriors source made = (p : Parameters) × (checked_parameters (parameters_in s) ≡ Ok p) × (source_lines p s.rounds warriors source ≡ Ok made)

-- The buffer `after` begins with `values`, unless the buffer is empty.
abbrev pub HoldsAny : {A : Type 0} → List A → List A → List A → Type 0
HoldsAny values before after = before ≢ [] → BeginsWith values (length values) before after

-- Lines and labels for which `Is` holds are at the front of their buffers, unless a buffer is empty. `count` is the length of the labels.
abbrev pub HoldsLines : (CellLines → Type 0) → ℕ → List CellLine → List CellLine → List ℕ → List ℕ → Type 0
HoldsLines Is count lines_before lines labels_before labels = (made : CellLines) × Is made × (count ≡ length made.labels)
    × HoldsAny made.lines lines_before lines × HoldsAny made.labels labels_before labels

-- The buffer is too short for `values`, and not empty.
abbrev pub IsShort : {A : Type 0} → List A → List A → Type 0
IsShort values buffer = (buffer ≢ []) × (length buffer < length values)

-- The warrior of the source has more cells than there are places, or a buffer that is not empty is too short for the lines of its cells or
-- for their labels. `program` has the numbers and names of the warrior, and `count` is the length of the labels.
abbrev pub OverflowsAssembled : MarsSettings → ℕ → List ℕ → MarsProgram → List MarsCell → ℕ → List CellLine → List ℕ → Type 0
OverflowsAssembled s warriors source program places count lines labels = (w : WarriorValue) × (made : CellLines)
    × IsAssembled s warriors source w × AreLines s warriors source made × (program ≡ plain_program w) × (count ≡ length made.labels)
    × ((length places < length w.cells) ⊎ (IsShort made.lines lines ⊎ IsShort made.labels labels))
