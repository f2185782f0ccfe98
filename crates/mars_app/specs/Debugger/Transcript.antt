-- What the debugger writes in reply to its lines. Parameters: `s` and `t` are the session before and after, `input` and `left` the
-- bytes that the reader has before and after, and `v` and `w` the bytes that the writer has before and after, if they are known.
use Rattle.std.specs.Prelude.{◌≡◌, ◌≢◌, if◌then◌else◌, ℕ, Bool, false, true, ◌<◌, ◌≤◌, List, [], ◌∷◌, ◌++◌, length, take, codes, Option, ◌⊎◌}
use Rattle.std.specs.List.{flat_map, AllByRecursion}
use Rattle.std.specs.Io.KnownBytes.{Appends, Consumes, IsAtEnd, Keeps}
use Rattle.mars_session.specs.Script.{SessionState, standing_of, outcome}
use Rattle.mars_app.specs.declared.debugger.request.Request.{Request}
use Rattle.mars_app.specs.declared.debugger.request.Request.TheVariants as request
use Rattle.mars_cell.specs.Load.{lines_of}
use Rattle.mars_cell.specs.Written.{with_newline}
use Rattle.mars_app.specs.Debugger.Lines.{line_request, Splits, IsLine}
use Rattle.mars_app.specs.Debugger.Readings.{list_text, queue_text, show_text}
use Rattle.mars_app.specs.Debugger.Replies.{reply_text}

-- The core size of the battle of a session.
abbrev pub core_size_of : SessionState → ℕ
core_size_of s = s.history.present.state.params.core_size

-- The session after a request, and the reply that is written. `poor` is true if an allocation fails.
unfoldable pub answer : Bool → SessionState → Request → SessionState × List ℕ
answer poor s request.Nothing = (s, [])
answer poor s (request.Call call) =
    let after = outcome s.retention s.limit call poor s.history in
    (record { history = after.history; limit = s.limit; retention = after.retention }, reply_text after.reply)
answer poor s (request.List address n) = (s, list_text s.history.present.state address n)
answer poor s (request.Queue warrior) = (s, queue_text s.history.present.state warrior)
answer poor s request.Show = (s, show_text (standing_of s.history) s.history.present.state)
answer poor s request.Quit = (s, [])
answer poor s request.Unknown = (s, codes "unknown\n")

-- Executing the lines one after another leads from the session `s` to `t` and replies `text`. Each line has its own `poor`,
-- which is true if an allocation failed.
pub data Transcript (core_size : ℕ) : SessionState → List (List ℕ) → SessionState → List ℕ → Type 0 where
  none : {s : SessionState} → Transcript core_size s [] s []
  line : (poor : Bool) {s t : SessionState} {text whole : List ℕ} (l : List ℕ) {ls : List (List ℕ)}
      → Transcript core_size (answer poor s (line_request core_size l)).0 ls t text
      → whole ≡ (answer poor s (line_request core_size l)).1 ++ text
      → Transcript core_size s (l ∷ ls) t whole

-- Whether a request is `quit`.
abbrev pub is_quit : Request → Bool
is_quit request.Nothing = false
is_quit (request.Call call) = false
is_quit (request.List address n) = false
is_quit (request.Queue warrior) = false
is_quit request.Show = false
is_quit request.Quit = true
is_quit request.Unknown = false

-- The lines before the first `quit`.
unfoldable pub until_quit : ℕ → List (List ℕ) → List (List ℕ)
until_quit core_size [] = []
until_quit core_size (l ∷ ls) = if is_quit (line_request core_size l) then [] else l ∷ until_quit core_size ls

-- The line `l` is not `quit`.
abbrev pub GoesOn : ℕ → List ℕ → Type 0
GoesOn core_size l = line_request core_size l ≢ request.Quit

-- The bytes contain a complete line, with its LF, that is `quit`; `last` is the first such line.
pub record HasQuit (core_size : ℕ) (bytes : List ℕ) : Type 0 where
  pub lines : List (List ℕ)
  pub last : List ℕ
  pub more : List ℕ
  pub whole : bytes ≡ flat_map with_newline lines ++ (last ++ 10 ∷ more)
  pub each : AllByRecursion IsLine (lines ++ last ∷ [])
  pub goes_on : AllByRecursion (GoesOn core_size) lines
  pub quits : line_request core_size last ≡ request.Quit

-- The debugger ended at a `quit` or at the end of its input. `bytes` were read. Their lines before the first `quit` were
-- executed, which led from the session `s` to `t`, and all replies were written. Either one of the lines is `quit`, or the
-- reader has no more bytes. So the lines are those of the whole input up to `quit`, however it was split into reads.
pub record Completes (core_size : ℕ) (input left : Option (List ℕ)) (s : SessionState) (v : Option (List ℕ)) (t : SessionState) (w : Option (List ℕ)) : Type 0 where
  pub bytes : List ℕ
  pub text : List ℕ
  pub consumed : Consumes input left bytes
  pub answers : Transcript core_size s (until_quit core_size (lines_of bytes)) t text
  pub written : Appends v w text
  pub ends : HasQuit core_size bytes ⊎ IsAtEnd left

-- At most `n` bytes of the input were read.
abbrev pub TakesAtMost : ℕ → Option (List ℕ) → Option (List ℕ) → Type 0
TakesAtMost n input left = (bytes : List ℕ) × Consumes input left bytes × (length bytes ≤ n)

-- Nothing was read, executed or written.
pub record NothingDone (input left : Option (List ℕ)) (s : SessionState) (v : Option (List ℕ)) (t : SessionState) (w : Option (List ℕ)) : Type 0 where
  pub reader : Keeps input left
  pub session : t ≡ s
  pub writer : Keeps v w

-- A read failed. `bytes` were read: the complete lines `lines` and the unfinished line `rest`. The complete lines were executed, none of
-- them is `quit`, and all their replies were written.
pub record ReadFails (core_size : ℕ) (input left : Option (List ℕ)) (s : SessionState) (v : Option (List ℕ)) (t : SessionState) (w : Option (List ℕ)) : Type 0 where
  pub bytes : List ℕ
  pub lines : List (List ℕ)
  pub rest : List ℕ
  pub text : List ℕ
  pub consumed : Consumes input left bytes
  pub splits : Splits bytes lines rest
  pub goes_on : AllByRecursion (GoesOn core_size) lines
  pub answers : Transcript core_size s lines t text
  pub written : Appends v w text

-- The lines and then the line `last` were executed. `text` has the replies to the lines and a beginning of the reply to `last`,
-- not all of it.
pub record BrokenAt (core_size : ℕ) (s : SessionState) (lines : List (List ℕ)) (last : List ℕ) (t : SessionState) (text : List ℕ) : Type 0 where
  pub between : SessionState
  pub before : List ℕ
  pub poor : Bool
  pub count : ℕ
  pub answers : Transcript core_size s lines between before
  pub session : t ≡ (answer poor between (line_request core_size last)).0
  pub short : count < length (answer poor between (line_request core_size last)).1
  pub text_is : text ≡ before ++ take count (answer poor between (line_request core_size last)).1

-- `bytes` are the complete lines `lines` and then the line `last`. This line ends in an LF, and more bytes may follow,
-- or it ends with the input, of which `rest` is left.
pub data EndsIn (bytes : List ℕ) (lines : List (List ℕ)) (last : List ℕ) (rest : Option (List ℕ)) : Type 0 where
  at_newline : (more : List ℕ) → bytes ≡ flat_map with_newline lines ++ (last ++ 10 ∷ more) → EndsIn bytes lines last rest
  at_end : bytes ≡ flat_map with_newline lines ++ last → IsAtEnd rest → EndsIn bytes lines last rest

-- A write failed. `bytes` were read; they are the lines `lines` and the line `last`, and possibly bytes after it. The lines and `last` were
-- executed, and none before `last` is `quit`. The replies to the lines were written, and a beginning of the reply to `last`, not all of it.
pub record WriteFails (core_size : ℕ) (input left : Option (List ℕ)) (s : SessionState) (v : Option (List ℕ)) (t : SessionState) (w : Option (List ℕ)) : Type 0 where
  pub bytes : List ℕ
  pub lines : List (List ℕ)
  pub last : List ℕ
  pub text : List ℕ
  pub consumed : Consumes input left bytes
  pub ends : EndsIn bytes lines last left
  pub each : AllByRecursion IsLine (lines ++ last ∷ [])
  pub goes_on : AllByRecursion (GoesOn core_size) lines
  pub broken : BrokenAt core_size s lines last t text
  pub written : Appends v w text
