-- The laws of the program: theorems about the definitions. They say what a run has written and read, whatever the machine, its memory,
-- and the division of the input into reads.
use Rattle.std.specs.Prelude.{◌≡◌, ℕ, Bool, false, true, List, [], ◌∷◌, ◌++◌, All, Option, Some, IsSome, drop}
use Rattle.std.specs.Io.KnownBytes.{Keeps}
use Rattle.mars_cell.specs.Load.{lines_of}
use Rattle.mars_session.specs.Script.{SessionState}
use Rattle.mars_app.specs.Debugger.Lines.{line_request}
use Rattle.mars_app.specs.Debugger.Transcript.{ReadFails, Transcript, WriteFails, answer, until_quit}
use Rattle.mars_app.specs.Faults.{RunFails}
use Rattle.mars_app.specs.Options.{AskForHelp, said_by}
use Rattle.mars_app.specs.Runs.{RunSucceeds}
use Rattle.mars_app.specs.Streams.{StreamsValue}
use Rattle.mars_app.specs.declared.fault.RunFault.{RunFault}
use Rattle.mars_app.specs.declared.fault.RunFault.TheVariants.{Commands, OutOfMemory, Output}

-- The streams of a program that starts: an input of which nothing was read, and an output to which nothing was written.
abbrev pub started_with : List ℕ → StreamsValue
started_with input = record { unread = Some input; written = Some [] }

-- The contents of all files are known, and the arguments do not request the help, of which no definition has the text.
abbrev pub AreGiven : List (List ℕ) → (List ℕ → Option (List ℕ)) → Type 0
AreGiven words known = (AskForHelp words → ⊥) × All (λ name. IsSome (known name)) (said_by words).files

-- Two runs without an error have written the same bytes, if they were given the same arguments, files and input.
abbrev pub EqualRunsWriteTheSame : Type 0
EqualRunsWriteTheSame = (words : List (List ℕ)) (known : List ℕ → Option (List ℕ)) (input : List ℕ) (one other : StreamsValue)
    → AreGiven words known
    → RunSucceeds words known (started_with input) one → RunSucceeds words known (started_with input) other
    → one.written ≡ other.written

-- The bytes of the output `one` are a beginning of the bytes of the output `other`, or all of them.
pub record IsBeginning (one other : Option (List ℕ)) : Type 0 where
  pub text : List ℕ
  pub rest : List ℕ
  pub begun : one ≡ Some text
  pub whole : other ≡ Some (text ++ rest)

-- A run that ended with an error has written a beginning of what a run without an error writes, if both were given the
-- same arguments, files and input.
abbrev pub FailedRunsWriteABeginning : Type 0
FailedRunsWriteABeginning = (words : List (List ℕ)) (known : List ℕ → Option (List ℕ)) (input : List ℕ) (one other : StreamsValue) (f : RunFault)
    → AreGiven words known
    → RunFails words known (started_with input) one f → RunSucceeds words known (started_with input) other
    → IsBeginning one.written other.written

-- Whether an error comes from the system: no memory, or a read or a write that failed. All others come from the arguments and the
-- files.
abbrev pub is_of_system : RunFault → Bool
is_of_system OutOfMemory = true
is_of_system Output = true
is_of_system Commands = true
is_of_system _ = false

-- An error of the arguments or the files recurs: no run with the same arguments and files succeeds, whatever its input.
abbrev pub ErrorsRecur : Type 0
ErrorsRecur = (words : List (List ℕ)) (known : List ℕ → Option (List ℕ)) (old new before after : StreamsValue) (f : RunFault)
    → AreGiven words known → is_of_system f ≡ false
    → RunFails words known old new f → RunSucceeds words known before after → ⊥

-- A run that does not debug reads nothing of its input, with or without an error.
abbrev pub OnlyTheDebuggerReads : Type 0
OnlyTheDebuggerReads = (words : List (List ℕ)) (known : List ℕ → Option (List ℕ)) (old new : StreamsValue) → (said_by words).debugger ≡ false
    → (RunSucceeds words known old new → Keeps old.unread new.unread)
    × ((f : RunFault) → RunFails words known old new f → Keeps old.unread new.unread)

-- A failed read is only a pause: if the session then continues with the unfinished line and the bytes `more` after it,
-- the rest of the replies to the whole input is written.
abbrev pub FailedReadsArePauses : Type 0
FailedReadsArePauses = (core : ℕ) (input left v w : Option (List ℕ)) (s t u : SessionState) (failed : ReadFails core input left s v t w) (more text : List ℕ)
    → Transcript core t (until_quit core (lines_of (failed.rest ++ more))) u text
    → Transcript core s (until_quit core (lines_of (failed.bytes ++ more))) u (failed.text ++ text)

-- A failed write is only a pause, except that the end of one reply is lost: if the session then continues with the
-- lines after the last executed one, the rest of the replies to all lines is written.
abbrev pub FailedWritesArePauses : Type 0
FailedWritesArePauses = (core : ℕ) (input left v w : Option (List ℕ)) (s t u : SessionState) (failed : WriteFails core input left s v t w)
    (lines : List (List ℕ)) (text : List ℕ) → Transcript core t lines u text →
    let reply = (answer failed.broken.poor failed.broken.between (line_request core failed.last)).1 in
    Transcript core s (failed.lines ++ failed.last ∷ lines) u (failed.text ++ drop failed.broken.count reply ++ text)
