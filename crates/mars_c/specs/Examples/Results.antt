-- What follows from the definitions of results and errors, one condition at a time: reported errors, sources and load
-- files, buffers, edits, blocks and lineups.
use Rattle.std.specs.Prelude.{◌≡◌, ◌<◌, ◌≤◌, ⊤, ℕ, zero, suc, All, Option, None, Some, List, [], ◌∷◌, ◌++◌, Result, Ok, Err, drop, length, map, refl, slice_get, slice_index_or}
use Rattle.std.proofs.Common.{ap, arith, inl, inr, rules, subst, sym, ◌∙◌}
use Rattle.std.proofs.Math.Nat.{mul-le-mul_right}
use Rattle.std.proofs.lemmas.Bool.{le-ltb}
use Rattle.mars_cell.specs.Load.{lines_of}
use Rattle.mars_cell.specs.ParameterFaults.{checked_parameters}
use Rattle.mars_cell.specs.Parameters.{Parameters}
use Rattle.mars_cell.specs.Warriors.{WarriorValue}
use Rattle.mars_cell.specs.declared.fault.LoadFault.{LoadFault}
use Rattle.mars_cell.specs.declared.instruction.Cell.{Cell}
use Rattle.mars_cell.specs.declared.parameters.ParamFault.{ParamFault}
use Rattle.mars_core.specs.Block.{Spells, block_mark, block_of, field_words, head_of}
use Rattle.mars_core.specs.Edit.{edit_fault}
use Rattle.mars_core.specs.State.{State}
use Rattle.mars_core.specs.declared.battle.block.BlockFault.TheVariants as block
use Rattle.mars_core.specs.declared.battle.edit.Edit.{Edit}
use Rattle.mars_core.specs.declared.battle.edit.Edit.TheVariants.{SetCell, MoveProcess, KillProcess, Spawn}
use Rattle.mars_core.specs.declared.battle.edit.EditFault.{EditFault}
use Rattle.mars_core.specs.declared.battle.edit.EditFault.TheVariants.{NoSuchWarrior}
use Rattle.mars_session.specs.Script.{SessionState}
use Rattle.mars_app.specs.Debugger.Transcript.{Transcript, until_quit}
use Rattle.mars_app.specs.Debugger.Transcript.Transcript.{none}
use Rattle.mars_app.specs.Debugging.{session_at}
use Rattle.mars_match.specs.declared.fault.MatchFault.{MatchFault}
use Rattle.mars_match.specs.declared.fault.MatchFault.TheVariants as fight
use Rattle.redcode_asm.specs.SourceLines.{CellLines}
use Rattle.redcode_asm.specs.declared.lines.CellLine.{CellLine}
use Rattle.redcode_text.specs.declared.fault.ExprFault.{ExprFault}
use Rattle.mars_c.specs.Battles.{IsDebugged}
use Rattle.mars_c.specs.Blocks.{HoldsEdited, HoldsStart, IsPlayable, Means, OverflowsStart, RefusesEdit, RefusesPlay, RefusesWords, Reports}
use Rattle.mars_c.specs.Cells.{plain_cell}
use Rattle.mars_c.specs.Codes.{block_fault_of, fault_of}
use Rattle.mars_c.specs.Debugging.{Debugs}
use Rattle.mars_c.specs.Entrants.{AreEntrants, plain_program}
use Rattle.mars_c.specs.Examples.{nano}
use Rattle.mars_c.specs.Examples.Wrong.{no_mark, no_round_3}
use Rattle.mars_c.specs.Outcomes.{AreChosen, FailsLineup, IsLineup, IsNoLineup, IsWrongLineup, RefusesLineup, indices_of}
use Rattle.mars_c.specs.Programs.{AreLines, BeginsWith, HoldsAny, HoldsLines, HoldsProgram, HoldsText, IsAssembled, IsLoadFile, IsLoaded, IsShort, OverflowsAssembled, OverflowsProgram, OverflowsText}
use Rattle.mars_c.specs.Refusals.{AreWarriors, Fails, HasCause, IsOutOfRange, RefusesLoad, RefusesSource, RefusesWriting, fight_refusal}
use Rattle.mars_c.specs.Settings.{parameters_in}
use Rattle.mars_c.specs.declared.cells.MarsCell.{MarsCell}
use Rattle.mars_c.specs.declared.edits.MarsEdit.{MarsEdit}
use Rattle.mars_c.specs.declared.faults.BlockRefusal.{BlockRefusal}
use Rattle.mars_c.specs.declared.faults.BlockRefusal.TheVariants as refused
use Rattle.mars_c.specs.declared.faults.CallRefusal.{CallRefusal}
use Rattle.mars_c.specs.declared.faults.CallRefusal.TheVariants as call
use Rattle.mars_c.specs.declared.faults.MarsFault.{MarsFault}
use Rattle.mars_c.specs.declared.outcomes.MarsLineup.{MarsLineup}
use Rattle.mars_c.specs.declared.ranges.LineupFault.{LineupFault}
use Rattle.mars_c.specs.declared.ranges.LineupFault.TheVariants.{Count, Index}
use Rattle.mars_c.specs.declared.ranges.SettingsFault.TheVariants.{Rows}
use Rattle.mars_c.specs.declared.settings.MarsSettings.{MarsSettings}
use Rattle.mars_c.specs.declared.warriors.EntrantFault.TheVariants as entrant
use Rattle.mars_c.specs.declared.warriors.MarsProgram.{MarsProgram}
use Rattle.mars_c.specs.declared.warriors.MarsWarrior.{MarsWarrior}

-- ---- Errors

-- The reported error is the error of the refusal, and the refusal holds.
pub what_is_reported : (f : MarsFault)
    → (HasCause (λ r. r ≡ call.OutOfMemory) f → f ≡ fault_of call.OutOfMemory)
    × (Reports (λ r. r ≡ refused.OutOfMemory) f → f ≡ block_fault_of refused.OutOfMemory)
what_is_reported f = (λ t. t.1 ∙ ap fault_of t.2, λ t. t.1 ∙ ap block_fault_of t.2)

-- A number in its range is no error. A number out of its range has the error of its setting, and no other error.
pub ranges : (IsOutOfRange Rows ⊤ (call.Settings Rows) → ⊥) × (IsOutOfRange Rows ⊥ call.OutOfMemory → ⊥)
ranges = (λ o. o.1 tt, λ o. let e : ◌≡◌ {A = CallRefusal} call.OutOfMemory (call.Settings Rows) = o.0 in cc)

-- A match that fails is refused with its own error.
pub the_error_of_a_match : (s : MarsSettings) (text : List ℕ) (cells : List MarsCell) (entrants : List MarsWarrior) (refusal : CallRefusal)
    → Fails {X = ℕ} s text cells entrants (λ a ws. Err fight.OutOfMemory) refusal → refusal ≡ call.OutOfMemory
the_error_of_a_match s text cells entrants refusal (a, ws, fault, made, are, is, held) =
    let fails : ◌≡◌ {A = Result ℕ MatchFault} (Err fight.OutOfMemory) (Err fault) = is in
    let same : fight.OutOfMemory ≡ fault = cc in
    held ∙ sym (ap fight_refusal same)

-- ---- Sources and load files

-- A source that is assembled has no error except `OutOfMemory`, and one list of lines.
pub assembled : (s : MarsSettings) (count : ℕ) (source : List ℕ) (w : WarriorValue) (refusal : CallRefusal)
    → IsAssembled s count source w → RefusesSource s count source refusal → refusal ≡ call.OutOfMemory
assembled s count source w call.OutOfMemory is refuses = refl
assembled s count source w (call.Parameters f) (p, allowed, is) refuses = cc
assembled s count source w (call.Assembly f) (p, allowed, is) (q, too, refuses) = cc
assembled s count source w other is refuses = absurd refuses

pub one_list : (s : MarsSettings) (count : ℕ) (source : List ℕ) (one other : CellLines) → AreLines s count source one → AreLines s count source other → one ≡ other
one_list s count source one other (p, allowed, is) (q, too, are) = cc

-- A load file that is read has no error except `OutOfMemory`.
pub read : (s : MarsSettings) (text : List ℕ) (w : WarriorValue) (refusal : CallRefusal)
    → IsLoaded s text w → RefusesLoad s text refusal → refusal ≡ call.OutOfMemory
read s text w call.OutOfMemory is refuses = refl
read s text w (call.Parameters f) (p, allowed, is) refuses = cc
read s text w (call.Load f) (p, allowed, is) (q, too, refuses) = cc
read s text w other is refuses = absurd refuses

-- A program without names, of `length` cells.
abbrev of_length : ℕ → MarsProgram
of_length length = record { warrior = record { length = length; start = 0 }; name = []; author = [] }

abbrev no_core : MarsSettings
no_core = record (nano 1 1 0) { core = 0 }

-- No load file has one cell for a program of two cells, no cell, no core, or no byte.
pub no_load_file : (one : MarsCell) (text : List ℕ)
    → (IsLoadFile (nano 1 1 0) (one ∷ []) (of_length 2) text → ⊥)
    × (IsLoadFile (nano 1 1 0) [] (of_length 0) text → ⊥)
    × (IsLoadFile no_core (one ∷ []) (of_length 1) text → ⊥)
    × (IsLoadFile (nano 1 1 0) (one ∷ []) (of_length 1) [] → ⊥)
no_load_file one text = (
  λ f. let e : 2 ≡ 1 = f.3 in omega (arith, e),
  λ f. let e : 0 < 0 = f.4.inside in omega (arith, e),
  λ f. let e : Ok f.0 ≡ checked_parameters (parameters_in no_core) = sym f.2 in cc,
  λ f. let e = f.5 in cc,
)

-- A program is reported as warrior 0. Its error is never `OutOfMemory`, it has no error without a core, and it may start at its first
-- cell.
pub no_error_of_a_program : (one : MarsCell)
    → (RefusesWriting (nano 1 1 0) (one ∷ []) (of_length 1) (call.Warrior 1 entrant.Start) → ⊥)
    × (RefusesWriting (nano 1 1 0) (one ∷ []) (of_length 1) (call.Warrior 0 entrant.OutOfMemory) → ⊥)
    × (RefusesWriting no_core [] (of_length 0) (call.Warrior 0 entrant.Start) → ⊥)
    × (RefusesWriting (nano 1 1 0) (one ∷ []) (of_length 1) (call.Warrior 0 entrant.Start) → ⊥)
no_error_of_a_program one = (
  λ r. let e : 1 ≡ 0 = r.2 in omega (arith, e),
  λ r. r.3 refl,
  λ r. let e : Ok r.0 ≡ checked_parameters (parameters_in no_core) = sym r.1 in cc,
  λ r. let e : 1 ≤ 0 = r.4 in omega (arith, e),
)

-- ---- Buffers

-- A buffer holds the program or the text that it is about, and nothing else.
pub a_program_in_places : (v : WarriorValue) (program : MarsProgram) (before after : List MarsCell) → HoldsProgram (λ w. w ≡ v) program before after
    → (program ≡ plain_program v) × (length v.cells ≤ length before) × (after ≡ map plain_cell v.cells ++ drop (length v.cells) before)
a_program_in_places v program before after (w, is, numbers, room, cells) =
    subst (λ (w : WarriorValue). (program ≡ plain_program w) × (length w.cells ≤ length before) × (after ≡ map plain_cell w.cells ++ drop (length w.cells) before))
    is (numbers, room, cells)

pub too_few_places : (v : WarriorValue) (program : MarsProgram) (places : List MarsCell) → OverflowsProgram (λ w. w ≡ v) program places
    → (program ≡ plain_program v) × (length places < length v.cells)
too_few_places v program places (w, is, numbers, few) =
    subst (λ (w : WarriorValue). (program ≡ plain_program w) × (length places < length w.cells)) is (numbers, few)

pub a_text_in_a_buffer : (text : List ℕ) (count : ℕ) (before after : List ℕ) → HoldsText (λ other. other ≡ text) count before after → BeginsWith text count before after
a_text_in_a_buffer text count before after (other, is, begins) = subst (λ text. BeginsWith text count before after) is begins

pub too_short_a_buffer : (text : List ℕ) (count : ℕ) (buffer : List ℕ) → OverflowsText (λ other. other ≡ text) count buffer → (count ≡ length text) × (length buffer < count)
too_short_a_buffer text count buffer (other, is, over) = (over.0 ∙ ap (λ (text : List ℕ). length text) is, over.1)

-- The length of the labels is reported, and lines and labels are in their buffers, unless a buffer is empty.
pub lines_in_buffers : (made : CellLines) (count : ℕ) (lines_before lines : List CellLine) (labels_before labels : List ℕ)
    → HoldsLines (λ other. other ≡ made) count lines_before lines labels_before labels
    → (count ≡ length made.labels) × HoldsAny made.lines lines_before lines × HoldsAny made.labels labels_before labels
lines_in_buffers made count lines_before lines labels_before labels (other, is, counted, rows, bytes) =
    subst (λ (made : CellLines). (count ≡ length made.labels) × HoldsAny made.lines lines_before lines × HoldsAny made.labels labels_before labels) is (counted, rows, bytes)

-- Without buffers only the places can be too few.
pub too_few_places_for_lines : (s : MarsSettings) (warriors : ℕ) (source : List ℕ) (program : MarsProgram) (places : List MarsCell) (count : ℕ)
    → OverflowsAssembled s warriors source program places count [] []
    → (w : WarriorValue) × IsAssembled s warriors source w × (program ≡ plain_program w) × (length places < length w.cells)
too_few_places_for_lines s warriors source program places count (w, made, is, are, numbers, counted, inl few) = (w, is, numbers, few)
too_few_places_for_lines s warriors source program places count (w, made, is, are, numbers, counted, inr (inl (some, short))) = absurd (some refl)
too_few_places_for_lines s warriors source program places count (w, made, is, are, numbers, counted, inr (inr (some, short))) = absurd (some refl)

-- A buffer with a place for each value is not too short.
pub long_enough : (labels : List ℕ) → IsShort labels labels → ⊥
long_enough labels (some, short) = omega (arith, short)

-- ---- Edits

-- The numbers of an edit of the kind `what`, with warrior 1, its process 2, address 3 and the cell `cell`.
abbrev numbers : ℕ → MarsCell → MarsEdit
numbers what cell = record { what = what; warrior = 1; place = 2; address = 3; cell = cell }

pub no_edit_5 : (cell : MarsCell) (e : Edit) → Means (numbers 5 cell) e → ⊥
no_edit_5 cell (SetCell address one) m = let e : 5 ≡ 1 = m.0 in omega (arith, e)
no_edit_5 cell (MoveProcess warrior place address) m = let e : 5 ≡ 2 = m.0 in omega (arith, e)
no_edit_5 cell (KillProcess warrior place) m = let e : 5 ≡ 3 = m.0 in omega (arith, e)
no_edit_5 cell (Spawn warrior address) m = let e : 5 ≡ 4 = m.0 in omega (arith, e)

-- The edit that numbers mean has the numbers that its kind needs.
pub edits : (numbered : MarsCell) (cell : Cell) (w i a : ℕ)
    → (Means (numbers 1 numbered) (SetCell a cell) → (a ≡ 3) × (plain_cell cell ≡ numbered))
    × (Means (numbers 2 numbered) (MoveProcess w i a) → (w ≡ 1) × (i ≡ 2) × (a ≡ 3))
    × (Means (numbers 3 numbered) (KillProcess w i) → (w ≡ 1) × (i ≡ 2))
    × (Means (numbers 4 numbered) (Spawn w a) → (w ≡ 1) × (a ≡ 3))
edits numbered cell w i a = (λ m. (m.1, m.2), λ m. (m.1, m.2, m.3), λ m. (m.1, m.2), λ m. (m.1, m.2))

-- ---- Blocks

unmarked : (s : State) (words : List ℕ) → Spells s (0 ∷ words) → ⊥
unfolding block_of head_of field_words
unmarked s words h = let e : 0 ≡ block_mark = ap (λ words. slice_index_or words 0 0) h.block in omega (arith, e)

-- Words without the mark of a block are no battle to play, edit or debug.
pub no_battle : (words after text : List ℕ) (n : MarsEdit) (history : ℕ)
    → (RefusesPlay (0 ∷ words) refused.Capacity → ⊥)
    × (HoldsEdited n (0 ∷ words) after → ⊥)
    × (Debugs (0 ∷ words) history [] text → ⊥)
no_battle words after text n history = (
  λ r. unmarked r.0 words r.1,
  λ h. no_mark h.0 words h.2,
  λ d. unmarked d.0 words d.2,
)

-- Words that spell a battle are not refused, except for `OutOfMemory`.
pub a_block : (s : State) (words : List ℕ) (refusal : BlockRefusal) → Spells s words → RefusesWords words refusal → refusal ≡ refused.OutOfMemory
a_block s words refused.OutOfMemory spells refuses = refl
a_block s words (refused.Block fault) spells refuses = absurd (refuses.2 s spells)
a_block s words other spells refuses = absurd refuses

pub no_block_has_the_error_out_of_memory : (words : List ℕ) → RefusesWords words (refused.Block block.OutOfMemory) → ⊥
no_block_has_the_error_out_of_memory words r = r.0 refl

-- A start and an edit write a block, which is never empty.
pub written : (s : MarsSettings) (cells : List MarsCell) (entrants : List MarsWarrior) (round : ℕ) (n : MarsEdit) (words : List ℕ)
    → (HoldsStart s cells entrants round words [] → ⊥) × (HoldsStart s cells entrants round [] words → ⊥) × (HoldsEdited n words [] → ⊥)
unfolding block_of head_of field_words
written s cells entrants round n words = (λ h. let e = h.3 in cc, λ h. omega (arith, h.2), λ h. let e = h.5 in cc)

-- Numbers that mean no edit make none, and no battle starts with a round that the match does not have.
pub nothing_written : (cells : List MarsCell) (entrants : List MarsWarrior) (cell : MarsCell) (words after : List ℕ)
    → (HoldsStart (nano 3 7 0) cells entrants 3 words after → ⊥)
    × (OverflowsStart (nano 3 7 0) cells entrants 3 words → ⊥)
    × (HoldsEdited (numbers 5 cell) words after → ⊥)
nothing_written cells entrants cell words after = (
  λ h. no_round_3 cells entrants h.0 h.1,
  λ o. no_round_3 cells entrants o.0 o.1,
  λ h. no_edit_5 cell h.1 h.3,
)

-- There is no warrior 16, so its process is not killed.
abbrev kill : MarsCell → MarsEdit
kill cell = record { what = 3; warrior = 16; place = 0; address = 0; cell = cell }

no_warrior_16 : (s : State) (words : List ℕ) (cell : MarsCell) (e : Edit) → IsPlayable s words → Means (kill cell) e → edit_fault s e ≡ Some NoSuchWarrior
unfolding edit_fault
no_warrior_16 s words cell (SetCell address one) playable m = let e : 3 ≡ 1 = m.0 in absurd (omega (arith, e))
no_warrior_16 s words cell (MoveProcess warrior place address) playable m = let e : 3 ≡ 2 = m.0 in absurd (omega (arith, e))
no_warrior_16 s words cell (KillProcess warrior place) playable m = rw (m.1, le-ltb 16 (length s.queues) playable.spells.valid.few) refl
no_warrior_16 s words cell (Spawn warrior address) playable m = let e : 3 ≡ 4 = m.0 in absurd (omega (arith, e))

pub no_warrior_16_is_killed : (words after : List ℕ) (cell : MarsCell) (fault : EditFault)
    → (HoldsEdited (kill cell) words after → ⊥)
    × (RefusesEdit words (kill cell) (refused.Edit 0 fault) → fault ≡ NoSuchWarrior)
no_warrior_16_is_killed words after cell fault = (
  λ h. let e : ◌≡◌ {A = Option EditFault} None (Some NoSuchWarrior) = sym h.4 ∙ no_warrior_16 h.0 words cell h.1 h.2 h.3 in cc,
  λ r. let e : Some fault ≡ Some NoSuchWarrior = sym r.4 ∙ no_warrior_16 r.0 words cell r.1 r.2 r.3 in cc,
)

-- If the words are no battle or the numbers mean no edit, the refusal is not the error of an edit.
pub no_error_of_an_edit : (words : List ℕ) (n : MarsEdit) (cell : MarsCell) (fault : EditFault)
    → (RefusesEdit (0 ∷ words) n (refused.Edit 0 fault) → ⊥) × (RefusesEdit words (numbers 5 cell) (refused.Edit 0 fault) → ⊥)
no_error_of_an_edit words n cell fault = (λ r. no_mark r.0 words r.2, λ r. no_edit_5 cell r.1 r.3)

-- 4,194,368 words are enough for every battle.
pub enough_words : (words : List ℕ) → 4194368 ≤ length words → RefusesPlay words refused.Capacity → ⊥
enough_words words many (s, spells, few) =
    let params = spells.valid.params in
    let one = mul-le-mul_right s.params.processes spells.valid.few in
    let core = params.core_most in
    let most = params.processes_most in
    omega (arith, many, few, one, core, most)

-- The debugger requires a history, and replies nothing if there are no lines.
pub debugged : (words lines text : List ℕ) (history : ℕ)
    → (Debugs words 0 lines text → ⊥) × (Debugs words history [] text → text ≡ [])
unfolding lines_of until_quit
debugged words lines text history = (λ d. omega (arith, d.3.0), λ d. replies d.0 d.1 d.4)
  where
    nothing_left : (bytes more : List ℕ) → [] ≡ bytes ++ more → bytes ≡ []
    nothing_left [] more e = refl
    nothing_left (b ∷ bytes) more e = absurd cc

    no_lines : (core : ℕ) (s t : SessionState) (text : List ℕ) → Transcript core s [] t text → text ≡ []
    no_lines core s t text none = refl

    replies : (s : State) (session : SessionState) → IsDebugged s history [] session text → text ≡ []
    replies s session (None, done) = absurd done.consumed
    replies s session (Some more, done) =
        let all = nothing_left done.bytes more done.consumed in
        let answers = rw all at done.answers in
        done.written ∙ no_lines s.params.core_size (session_at history s) session done.text answers

-- ---- Lineups

pub lineups : (count : ℕ) (one : MarsLineup) (refusal : CallRefusal)
    → (IsLineup count one → IsWrongLineup count (one ∷ []) refusal → ⊥) × (IsWrongLineup count (one ∷ []) call.OutOfMemory → ⊥)
lineups count one refusal = (
  λ is wrong. right is wrong.0 wrong.1 wrong.2 wrong.4 wrong.5,
  λ wrong. let e : ◌≡◌ {A = CallRefusal} call.OutOfMemory (call.Lineup wrong.0 wrong.2) = wrong.6 in cc,
)
  where
    right : IsLineup count one → (index : ℕ) (other : MarsLineup) (fault : LineupFault) → slice_get (one ∷ []) index ≡ Some other → IsNoLineup count other fault → ⊥
    right is zero other Count at broken = let same : one ≡ other = cc in broken (subst (λ (one : MarsLineup). AreWarriors one.count) same is.warriors)
    right is zero other Index at broken = let same : one ≡ other = cc in broken (subst (λ one. All (λ i. i < count) (indices_of one)) same is.indices)
    right is (suc index) other fault at broken = let none : ◌≡◌ {A = Option MarsLineup} None (Some other) = at in cc

-- A lineup of one warrior, the first one.
abbrev first : MarsLineup
first = record { seed = 0; count = 1; warrior = 0 ∷ []; counting = 0 }

no_load : (f : LoadFault) (m : MatchFault) → call.Load f ≡ fight_refusal m → ⊥
no_load f m e = search rules

-- No match of a lineup fails without a core, without its warrior, or with an error of a load file.
pub no_failing_match : (s : MarsSettings) (ws : List WarriorValue) (f : ExprFault) (e : LoadFault)
    → (RefusesLineup no_core ws first (call.Score f) → ⊥)
    × (RefusesLineup (nano 1 1 0) [] first (call.Score f) → ⊥)
    × (RefusesLineup s ws first (call.Load e) → ⊥)
no_failing_match s ws f e = (without_core, without_warrior, of_a_file)
  where
    without_core : RefusesLineup no_core ws first (call.Score f) → ⊥
    without_core (inl entry) = entry
    without_core (inr fails) =
        let same : ◌≡◌ {A = Result Parameters ParamFault} (Ok fails.0) (checked_parameters (parameters_in no_core)) = sym fails.4 in cc

    chosen : (ws : List WarriorValue) → AreChosen [] (0 ∷ []) ws → ⊥
    chosen [] are = cc
    chosen (w ∷ ws) are = cc

    without_warrior : RefusesLineup (nano 1 1 0) [] first (call.Score f) → ⊥
    without_warrior (inl entry) = entry
    without_warrior (inr fails) = chosen fails.2 fails.6

    of_a_file : RefusesLineup s ws first (call.Load e) → ⊥
    of_a_file (inl entry) = entry
    of_a_file (inr fails) = no_load e fails.3 fails.8

-- No lineup fails if there is no lineup, if the core has no cells, or if cells belong to no warrior.
pub no_failing_lineup : (one : MarsCell) (lineups : List MarsLineup) (refusal : CallRefusal)
    → (FailsLineup (nano 1 1 0) [] [] [] refusal → ⊥)
    × (FailsLineup no_core [] [] lineups refusal → ⊥)
    × (FailsLineup (nano 1 1 0) (one ∷ []) [] lineups refusal → ⊥)
no_failing_lineup one lineups refusal = (
  λ f. let e : ◌≡◌ {A = Option MarsLineup} None (Some f.4.1) = f.4.4 in cc,
  λ f. let e : Ok f.0 ≡ checked_parameters (parameters_in no_core) = sym f.2 in cc,
  λ f. entrants f.0 f.1 f.3,
)
  where
    entrants : (p : Parameters) (ws : List WarriorValue) → AreEntrants p (one ∷ []) [] ws → ⊥
    entrants p [] are = cc
    entrants p (w ∷ ws) are = are
