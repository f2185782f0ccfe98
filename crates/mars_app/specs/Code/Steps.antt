-- The steps of the debugger, byte by byte. The state consists of a line buffer, a session and the content of the writer. Parameters:
-- `a`, `t` and `v` are these three before the step, and `b`, `u` and `w` after it. Each definition is about any input and output
-- before the step: `bytes` were read, starting with the session `s`, and `text` was replied.
use Rattle.std.specs.Prelude.{◌≡◌, ℕ, List, [], ◌∷◌, ◌++◌, Option}
use Rattle.std.specs.List.{flat_map, AllByRecursion}
use Rattle.std.specs.Io.KnownBytes.{Appends}
use Rattle.mars_session.specs.Script.{SessionState}
use Rattle.mars_app.specs.declared.debugger.line_buffer.LineBuffer.{LineBuffer}
use Rattle.mars_app.specs.Code.LineBuffer.{Holds}
use Rattle.mars_cell.specs.Load.{lines_of}
use Rattle.mars_cell.specs.Written.{with_newline}
use Rattle.mars_app.specs.Debugger.Lines.{Splits, IsLine}
use Rattle.mars_app.specs.Debugger.Transcript.{Transcript, BrokenAt, GoesOn, HasQuit, until_quit}

-- `bytes` were read, starting with the session `s`. The complete lines among them were executed, which led to the session `t`
-- and replied `text`; none of them is `quit`. `buffer` has the unfinished line.
pub record ReadsOn (core_size : ℕ) (s : SessionState) (bytes : List ℕ) (buffer : LineBuffer) (t : SessionState) (text : List ℕ) : Type 0 where
  pub lines : List (List ℕ)
  pub rest : List ℕ
  pub splits : Splits bytes lines rest
  pub goes_on : AllByRecursion (GoesOn core_size) lines
  pub answers : Transcript core_size s lines t text
  pub holds : Holds buffer rest

-- `bytes` were read, starting with the session `s`, and contain a complete line that is `quit`. The lines before it were
-- executed, which led to the session `t` and replied `text`. Bytes may follow the `quit`.
pub record Quitting (core_size : ℕ) (s : SessionState) (bytes : List ℕ) (t : SessionState) (text : List ℕ) : Type 0 where
  pub quit : HasQuit core_size bytes
  pub answers : Transcript core_size s quit.lines t text

-- `bytes` were read, starting with the session `s`. The complete lines up to the line `last` were executed, which led to the
-- session `t`; writing failed in the reply to `last`, of which only a beginning, not all, is in `text`.
pub record Breaking (core_size : ℕ) (s : SessionState) (bytes : List ℕ) (t : SessionState) (text : List ℕ) : Type 0 where
  pub lines : List (List ℕ)
  pub last : List ℕ
  pub more : List ℕ
  pub whole : bytes ≡ flat_map with_newline lines ++ (last ++ 10 ∷ more)
  pub each : AllByRecursion IsLine (lines ++ last ∷ [])
  pub goes_on : AllByRecursion (GoesOn core_size) lines
  pub cut : BrokenAt core_size s lines last t text

-- Processing the bytes `taken` leads from the first state to the second, and the debugger continues.
abbrev pub GoesThrough : ℕ → List ℕ → LineBuffer → SessionState → Option (List ℕ) → LineBuffer → SessionState → Option (List ℕ) → Type 0
GoesThrough core_size taken a t v b u w = (s : SessionState) (bytes text : List ℕ) → ReadsOn core_size s bytes a t text
    → (added : List ℕ) × Appends v w added × ReadsOn core_size s (bytes ++ taken) b u (text ++ added)

-- Processing the bytes `taken` leads to a `quit`.
abbrev pub Quits : ℕ → List ℕ → LineBuffer → SessionState → Option (List ℕ) → SessionState → Option (List ℕ) → Type 0
Quits core_size taken a t v u w = (s : SessionState) (bytes text : List ℕ) → ReadsOn core_size s bytes a t text
    → (added : List ℕ) × Appends v w added × Quitting core_size s (bytes ++ taken) u (text ++ added)

-- A write fails while the bytes `taken` are processed.
abbrev pub WriteFailsWithin : ℕ → List ℕ → LineBuffer → SessionState → Option (List ℕ) → SessionState → Option (List ℕ) → Type 0
WriteFailsWithin core_size taken a t v u w = (s : SessionState) (bytes text : List ℕ) → ReadsOn core_size s bytes a t text
    → (added : List ℕ) × Appends v w added × Breaking core_size s (bytes ++ taken) u (text ++ added)

-- At the end of the input the unfinished line is executed, if there is one and it is not `quit`.
abbrev pub Finishes : ℕ → LineBuffer → SessionState → Option (List ℕ) → SessionState → Option (List ℕ) → Type 0
Finishes core_size a t v u w = (s : SessionState) (bytes text : List ℕ) → ReadsOn core_size s bytes a t text
    → (added : List ℕ) × Appends v w added × Transcript core_size s (until_quit core_size (lines_of bytes)) u (text ++ added)

-- A write fails in the reply to the unfinished line at the end of the input.
abbrev pub WriteFailsAtEnd : ℕ → LineBuffer → SessionState → Option (List ℕ) → SessionState → Option (List ℕ) → Type 0
WriteFailsAtEnd core_size a t v u w = (s : SessionState) (bytes text : List ℕ) → ReadsOn core_size s bytes a t text
    → (added : List ℕ) × (lines : List (List ℕ)) × (last : List ℕ) × Appends v w added
    × (bytes ≡ flat_map with_newline lines ++ last) × AllByRecursion IsLine (lines ++ last ∷ []) × AllByRecursion (GoesOn core_size) lines × BrokenAt core_size s lines last u (text ++ added)
