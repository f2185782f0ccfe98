-- What holds for every program.
use Rattle.std.specs.Prelude.{ℕ, ◌≤◌, List, length, All}
use Rattle.redcode_text.specs.Bytes.{first_printed, last_printed}
use Rattle.redcode_text.specs.Equates.{limit}
use Rattle.redcode_text.specs.Expansion.{ProgramValue}
use Rattle.redcode_text.specs.Lines.{max_name_len}

-- `bytes` are at most 60 printable characters of ASCII.
pub record IsPrinted (bytes : List ℕ) : Type 0 where
  pub short : length bytes ≤ max_name_len
  pub printed : All (λ b. (first_printed ≤ b) × (b ≤ last_printed)) bytes

-- The program `p` has at most `limit` lines, and its name and its author are each `IsPrinted`.
pub record IsProgram (p : ProgramValue) : Type 0 where
  pub few_lines : length p.lines ≤ limit
  pub name : IsPrinted p.name
  pub author : IsPrinted p.author
