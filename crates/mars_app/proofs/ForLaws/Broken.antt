-- What the debugger has written if a read or a write fails is a beginning of its replies to its whole input.
use Rattle.std.proofs.Common.{◌≡◌, ◌≢◌, refl, ap, sym, ◌∙◌, ℕ, ◌<◌, Bool, true, false, List, [], ◌∷◌, ◌++◌, length, take, drop, Option, None, Some, arith, append_assoc, append-nil, take-append-drop}
use Rattle.std.specs.Prelude.{is_some}
use Rattle.std.specs.Io.KnownBytes.{Consumes}
use Rattle.std.specs.List.{flat_map, AllByRecursion}
use Rattle.mars_session.specs.Script.{SessionState}
use Rattle.mars_cell.specs.Load.{lines_of}
use Rattle.mars_cell.specs.Written.{with_newline}
use Rattle.mars_app.specs.Debugger.Lines.{IsLine, line_request}
use Rattle.mars_app.specs.Debugger.Requests.{request_of}
use Rattle.mars_app.specs.Debugger.Words.{first_word}
use Rattle.mars_app.specs.Debugger.Transcript.{EndsIn, GoesOn, ReadFails, Transcript, WriteFails, answer, core_size_of, until_quit}
use Rattle.mars_app.specs.Debugger.Transcript.EndsIn.{at_newline, at_end}
use Rattle.mars_app.specs.Laws.{IsBeginning}
use Rattle.mars_app.specs.declared.debugger.request.Request.{Request}
use Rattle.mars_app.specs.declared.debugger.request.Request.TheVariants.{Quit}
use Rattle.mars_app.proofs.ForLaws.Given.{appended, replies_to}
use Rattle.mars_app.proofs.ForLaws.Replies.{replies, transcript_is}
use Rattle.mars_app.proofs.Transcripts.LinesOf.{every_split, lines_of-line, lines_of-lines, lines_of-open, until_quit-lines}
use Rattle.mars_app.proofs.Transcripts.Reading.{Transcript-append, Transcript-one}

-- The replies to lines begin with the replies to the first part of these lines.
replies-append : (core : ℕ) (t : SessionState) (front more : List (List ℕ)) → (rest : List ℕ) × (replies core t (front ++ more) ≡ replies core t front ++ rest)
replies-append core t [] more = (replies core t more, refl)
replies-append core t (l ∷ front) more =
    let here = answer false t (line_request core l) in
    let next = replies-append core here.0 front more in
    (next.0, ap (λ text. here.1 ++ text) next.1 ∙ sym (append_assoc here.1 (replies core here.0 front) next.0))

-- A line that has a reply is neither empty nor `quit`.
quiet_quit : (poor : Bool) (t : SessionState) (r : Request) (n : ℕ) → n < length (answer poor t r).1 → r ≢ Quit
unfolding answer
quiet_quit poor t r n short is = let none : n < 0 = rw is at short in absurd (omega (arith, none))

quiet_nothing : (core : ℕ) (poor : Bool) (t : SessionState) (n : ℕ) → n < length (answer poor t (line_request core [])).1 → ⊥
unfolding answer request_of first_word
quiet_nothing core poor t n short = omega (arith, short)

-- A text of which the last part was cut off, and what follows it.
pub cut_off : (before reply rest text : List ℕ) (n : ℕ) → text ≡ before ++ take n reply → (before ++ reply) ++ rest ≡ text ++ (drop n reply ++ rest)
cut_off before reply rest text n is =
    append_assoc before reply rest
    ∙ ap (λ reply. before ++ (reply ++ rest)) (sym (take-append-drop n reply))
    ∙ ap (λ more. before ++ more) (append_assoc (take n reply) (drop n reply) rest)
    ∙ sym (append_assoc before (take n reply) (drop n reply ++ rest))
    ∙ ap (λ front. front ++ (drop n reply ++ rest)) (sym is)

module _ (input : List ℕ) (s : SessionState) (evicts : is_some s.retention.most ≡ true) where
  abbrev core : ℕ
  core = core_size_of s

  -- The bytes of the input that are left.
  left_of : (left : Option (List ℕ)) (bytes : List ℕ) → Consumes (Some input) left bytes → (more : List ℕ) × (input ≡ bytes ++ more) × (left ≡ Some more)
  left_of None bytes consumed = absurd consumed
  left_of (Some more) bytes consumed = (more, consumed, refl)

  -- If the input begins with lines, they are executed first.
  executed : (front : List (List ℕ)) (more : List ℕ) → input ≡ flat_map with_newline front ++ more → AllByRecursion IsLine front → AllByRecursion (GoesOn core) front
      → until_quit core (lines_of input) ≡ front ++ until_quit core (lines_of more)
  executed front more is each goes_on = rw (is, lines_of-lines front more each, until_quit-lines core front (lines_of more) goes_on) refl

  begins : (front more : List (List ℕ)) (t : SessionState) (text : List ℕ) → until_quit core (lines_of input) ≡ front ++ more → Transcript core s front t text
      → (rest : List ℕ) × (replies_to input s ≡ text ++ rest)
  begins front more t text are answers =
      let whole = replies-append core s front more in
      (whole.0, ap (replies core s) are ∙ whole.1 ∙ ap (λ front. front ++ whole.0) (sym (transcript_is core evicts answers)))

  pub read_fails : (one other left : Option (List ℕ)) (t : SessionState) → ReadFails core (Some input) left s (Some []) t one
      → other ≡ Some (replies_to input s) → IsBeginning one other
  read_fails one other left t h wrote =
      let unread = left_of left h.bytes h.consumed in
      let front = flat_map with_newline h.lines in
      let is = unread.1 ∙ ap (λ bytes. bytes ++ unread.0) h.splits.whole ∙ append_assoc front h.rest unread.0 in
      let whole = begins h.lines _ t h.text (executed h.lines (h.rest ++ unread.0) is h.splits.each h.goes_on) h.answers in
      record { text = h.text; rest = whole.0; begun = appended one h.text h.written; whole = wrote ∙ ap Some whole.1 }

  -- The lines of the input that are executed begin with `front` and the line `last`, whose reply was cut off.
  last_line : (left : Option (List ℕ)) (bytes more : List ℕ) (front : List (List ℕ)) (last : List ℕ) (poor : Bool) (t : SessionState) (n : ℕ)
      → input ≡ bytes ++ more → left ≡ Some more → AllByRecursion IsLine (front ++ last ∷ []) → AllByRecursion (GoesOn core) front
      → n < length (answer poor t (line_request core last)).1 → EndsIn bytes front last left
      → (others : List (List ℕ)) × (until_quit core (lines_of input) ≡ (front ++ last ∷ []) ++ others)
  unfolding until_quit
  last_line left bytes more front last poor t n is unread each goes_on short (at_newline after whole) =
      let lines = every_split IsLine front last each in
      let following = lines_of (after ++ more) in
      let are = is ∙ ap (λ bytes. bytes ++ more) whole ∙ append_assoc (flat_map with_newline front) (last ++ 10 ∷ after) more
      ∙ ap (λ rest. flat_map with_newline front ++ rest) (append_assoc last (10 ∷ after) more) in
      let rest = ap (until_quit core) (lines_of-line last (after ++ more) lines.1)
      ∙ until_quit-lines core (last ∷ []) following (quiet_quit poor t (line_request core last) n short, tt) in (
        until_quit core following,
        executed front (last ++ 10 ∷ (after ++ more)) are lines.0 goes_on ∙ ap (λ rest. front ++ rest) rest ∙ sym (append_assoc front (last ∷ []) (until_quit core following)),
      )
  last_line left bytes more front [] poor t n is unread each goes_on short (at_end whole end) = absurd (quiet_nothing core poor t n short)
  last_line left bytes more front (b ∷ bs) poor t n is unread each goes_on short (at_end whole end) =
      let last = b ∷ bs in
      let lines = every_split IsLine front last each in
      let ended : more ≡ [] = rw unread at end in
      let are = is ∙ ap (λ more. bytes ++ more) ended ∙ append-nil bytes ∙ whole in
      let rest = ap (until_quit core) (lines_of-open last lines.1) ∙ until_quit-lines core (last ∷ []) [] (quiet_quit poor t (line_request core last) n short, tt) in
      ([], executed front last are lines.0 goes_on ∙ ap (λ rest. front ++ rest) rest ∙ sym (append_assoc front (last ∷ []) []))

  pub write_fails : (one other left : Option (List ℕ)) (t : SessionState) → WriteFails core (Some input) left s (Some []) t one
      → other ≡ Some (replies_to input s) → IsBeginning one other
  write_fails one other left t h wrote =
      let b = h.broken in
      let unread = left_of left h.bytes h.consumed in
      let reply = (answer b.poor b.between (line_request core h.last)).1 in
      let lines = last_line left h.bytes unread.0 h.lines h.last b.poor b.between b.count unread.1 unread.2 h.each h.goes_on b.short h.ends in
      let answers = Transcript-append core b.answers (Transcript-one core b.poor b.between h.last) in
      let whole = begins (h.lines ++ h.last ∷ []) lines.0 _ (b.before ++ reply) lines.1 answers in
      record {
        text = h.text;
        rest = drop b.count reply ++ whole.0;
        begun = appended one h.text h.written;
        whole = wrote ∙ ap Some (whole.1 ∙ cut_off b.before reply whole.0 h.text b.count b.text_is);
      }
