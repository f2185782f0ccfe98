-- Lines of bytes, and the request of each.
use Rattle.std.specs.Prelude.{◌≡◌, ◌≢◌, ℕ, List, ◌++◌, nat_lt, length, if◌then◌else◌}
use Rattle.std.specs.List.{flat_map, AllByRecursion}
use Rattle.mars_cell.specs.Written.{with_newline}
use Rattle.mars_app.specs.Debugger.Requests.{request_of}
use Rattle.mars_app.specs.declared.debugger.request.Request.{Request}
use Rattle.mars_app.specs.declared.debugger.request.Request.TheVariants.{Unknown}

-- The maximum length of a line in bytes.
abbrev pub max_line_len : ℕ
max_line_len = 256

-- The request of the line `l` in a core of size `core_size`. A line of more than 256 bytes is unknown as a whole.
abbrev pub line_request : ℕ → List ℕ → Request
line_request core_size l = if nat_lt max_line_len (length l) then Unknown else request_of core_size l

-- The line `l` contains no LF.
abbrev pub IsLine : List ℕ → Type 0
IsLine l = AllByRecursion (λ b. b ≢ 10) l

-- `bytes` are the complete lines `lines`, followed by the beginning `rest` of another line.
pub record Splits (bytes : List ℕ) (lines : List (List ℕ)) (rest : List ℕ) : Type 0 where
  pub whole : bytes ≡ flat_map with_newline lines ++ rest
  pub each : AllByRecursion IsLine lines
  pub unfinished : IsLine rest
