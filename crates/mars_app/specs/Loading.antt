-- How warriors are loaded from files. `known` has the content of each file by its name, if it is known. `rounds` and `count` are the
-- values of ROUNDS and WARRIORS.
use Rattle.std.specs.Prelude.{◌≡◌, ⊤, ℕ, ◌<◌, ◌≤◌, List, [], ◌∷◌, All, Bool, Option, None, Some, IfSome, IsNone, String, length, Vec, if◌then◌else◌, codes, encode_utf8, nat_eq, string_bytes}
use Rattle.std.specs.Global.{Global}
use Rattle.std.specs.Str.{bytes_eq, chars}
use Rattle.std.specs.Char.{is_control}
use Rattle.std.specs.List.{ends_with, flat_map}
use Rattle.std.specs.Result.{result_ok}
use Rattle.mars_cell.specs.Cells.{FitsCore}
use Rattle.mars_cell.specs.Load.{load}
use Rattle.mars_cell.specs.Parameters.{Parameters}
use Rattle.mars_cell.specs.Warriors.{WarriorValue}
use Rattle.mars_cell.specs.Written.{load_text}
use Rattle.redcode_asm.specs.Assembly.{assembly}
use Rattle.mars_app.specs.declared.files.FileFault.{FileFault}
use Rattle.mars_app.specs.declared.files.FileFault.TheVariants.{CannotRead, OutOfMemory, TooLarge}

-- All numbers of the warriors' cells are addresses in a core of `core_size` cells.
abbrev pub AllFit : ℕ → List WarriorValue → Type 0
AllFit core_size warriors = All (λ (w : WarriorValue). All (FitsCore core_size) w.cells) warriors

-- A character of a file's name in an error message. Each control character is shown as `?`, so that the message is one line.
abbrev pub shown_character : ℕ → ℕ
shown_character c = if is_control c then 63 else c

-- A file's name in an error message.
abbrev pub shown_name : List ℕ → List ℕ
shown_name name = flat_map (λ c. encode_utf8 (shown_character c)) (chars name)

-- A file is a load file if its name ends in `.load`.
abbrev pub is_load_file : List ℕ → Bool
is_load_file name = ends_with nat_eq name (codes ".load")

-- The warrior of the file `name` with the content `bytes`, a load file or a source, if it has one. `warriors` is the value of WARRIORS.
abbrev pub warrior_of_file : Parameters → ℕ → ℕ → List ℕ → List ℕ → Option WarriorValue
warrior_of_file p rounds warriors name bytes = if is_load_file name then result_ok (load p.core_size p.max_length bytes) else result_ok (assembly p rounds warriors bytes)

-- The maximum size of a warrior's file in bytes.
abbrev pub max_file_len : ℕ
max_file_len = 1048576

-- `bytes` are at most `max_file_len` bytes, and the content of the file `name` if this content is known.
abbrev pub IsRead : (List ℕ → Option (List ℕ)) → List ℕ → List ℕ → Type 0
IsRead known name bytes = IfSome (known name) (λ whole. bytes ≡ whole) × (length bytes ≤ max_file_len)

-- The error is a reason for which a file with the content `known` is not read if it may have at most `limit` bytes. A
-- file whose content is known can be read, so it is too large. `OutOfMemory` is always possible.
abbrev pub IsReadFault : Option (List ℕ) → ℕ → FileFault → Type 0
IsReadFault known limit CannotRead = IsNone known
IsReadFault known limit TooLarge = IfSome known (λ bytes. limit < length bytes)
IsReadFault known limit OutOfMemory = ⊤

-- The content of the first file in the list with the name `name`, if there is one.
abbrev pub file_named : List (String Global × Vec ℕ Global) → List ℕ → Option (List ℕ)
file_named [] name = None
file_named (file ∷ files) name = if bytes_eq (string_bytes file.0) name then Some file.1.items else file_named files name

-- `w` is the warrior of the file `name`.
abbrev pub IsLoaded : (List ℕ → Option (List ℕ)) → Parameters → ℕ → ℕ → List ℕ → WarriorValue → Type 0
IsLoaded known p rounds count name w =
    (bytes : List ℕ) × IsRead known name bytes × (warrior_of_file p rounds count name bytes ≡ Some w)

-- Each warrior is the warrior of the file at the same index.
abbrev pub AreLoaded : (List ℕ → Option (List ℕ)) → Parameters → ℕ → ℕ → List (List ℕ) → List WarriorValue → Type 0
AreLoaded known p rounds count [] [] = Unit {0}
AreLoaded known p rounds count [] (w ∷ warriors) = ⊥
AreLoaded known p rounds count (name ∷ names) [] = ⊥
AreLoaded known p rounds count (name ∷ names) (w ∷ warriors) =
    IsLoaded known p rounds count name w × AreLoaded known p rounds count names warriors

-- `text` is the load file of the warrior of the file `name`.
abbrev pub IsLoadFileOf : (List ℕ → Option (List ℕ)) → Parameters → ℕ → ℕ → List ℕ → List ℕ → Type 0
IsLoadFileOf known p rounds count name text =
    (w : WarriorValue) × IsLoaded known p rounds count name w × (text ≡ load_text p.core_size w)
