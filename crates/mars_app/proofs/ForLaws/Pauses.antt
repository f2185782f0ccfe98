-- Failed reads and writes of the debugger are only pauses: its session may continue.
use Rattle.std.proofs.Common.{◌≡◌, refl, ap, subst, sym, ◌∙◌, ◌∷◌, ◌++◌, drop, append_assoc}
use Rattle.std.specs.List.{flat_map}
use Rattle.mars_cell.specs.Load.{lines_of}
use Rattle.mars_cell.specs.Written.{with_newline}
use Rattle.mars_app.specs.Debugger.Lines.{line_request}
use Rattle.mars_app.specs.Debugger.Transcript.{Transcript, answer, until_quit}
use Rattle.mars_app.specs.Debugger.Transcript.Transcript.{line}
use Rattle.mars_app.specs.Laws.{FailedReadsArePauses, FailedWritesArePauses}
use Rattle.mars_app.proofs.ForLaws.Broken.{cut_off}
use Rattle.mars_app.proofs.Transcripts.LinesOf.{lines_of-lines, until_quit-lines}
use Rattle.mars_app.proofs.Transcripts.Reading.{Transcript-append}

pub failed_reads_are_pauses : FailedReadsArePauses
failed_reads_are_pauses core input left v w s t u failed more text answers =
    let front = flat_map with_newline failed.lines in
    let bytes = ap (λ bytes. bytes ++ more) failed.splits.whole ∙ append_assoc front failed.rest more in
    let lines : until_quit core (lines_of (failed.bytes ++ more)) ≡ failed.lines ++ until_quit core (lines_of (failed.rest ++ more)) =
    ap (λ bytes. until_quit core (lines_of bytes)) bytes ∙ ap (until_quit core) (lines_of-lines failed.lines (failed.rest ++ more) failed.splits.each)
    ∙ until_quit-lines core failed.lines (lines_of (failed.rest ++ more)) failed.goes_on in
    subst (λ lines. Transcript core s lines u (failed.text ++ text)) (sym lines) (Transcript-append core failed.answers answers)

pub failed_writes_are_pauses : FailedWritesArePauses
failed_writes_are_pauses core input left v w s t u failed lines text answers =
    let b = failed.broken in
    let reply = (answer b.poor b.between (line_request core failed.last)).1 in
    let rest : Transcript core b.between (failed.last ∷ lines) u (reply ++ text) =
    line b.poor failed.last (subst (λ t. Transcript core t lines u text) b.session answers) refl in
    subst (Transcript core s (failed.lines ++ failed.last ∷ lines) u)
    (sym (append_assoc b.before reply text) ∙ cut_off b.before reply text failed.text b.count b.text_is ∙ sym (append_assoc failed.text (drop b.count reply) text))
    (Transcript-append core b.answers rest)
