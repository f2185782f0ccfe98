-- The capacity of a block is still enough after turns and edits, and lists of edits.
use Rattle.std.specs.Prelude.{MatchOption, Result}
use Rattle.mars_core.specs.declared.record.Atom.{Atom}
use Rattle.mars_core.specs.declared.battle.edit.EditFault.{EditFault}
use Rattle.std.proofs.Common.{Option, None, Some, Ok, Err, ◌≡◌, ℕ, zero, suc, ◌+◌, ◌*◌, ◌-◌, ◌≤◌, ◌∙◌, ◌<◌, Bool, true, false, List, [], ◌∷◌, ◌++◌, length, get_or, take, add-one, ap, sym, refl, arith}
use Rattle.std.proofs.Math.Seq.{take-suc}
use Rattle.std.proofs.lemmas.Fn.{FoldsTo-push}
use Rattle.std.specs.List.{AllZip, FoldsTo}
use Rattle.mars_cell.specs.Parameters.{Parameters}
use Rattle.mars_core.specs.State.{State, is_over_of}
use Rattle.mars_core.specs.Turn.{turn_of, after_turns}
use Rattle.mars_core.specs.Edit.{edit_fault, edited}
use Rattle.mars_core.specs.Shape.{SameShape}
use Rattle.mars_core.specs.declared.battle.edit.Edit.{Edit}
use Rattle.mars_core.proofs.CallerLemmas.{shape-turn_of, shape-edited}
use Rattle.mars_c.specs.Blocks.{Makes, Means, capacity_of, played_rows}
use Rattle.mars_c.specs.declared.edits.MarsEdit.{MarsEdit}
use Rattle.mars_c.proofs.Played.{add_turns, over_stays, turn_first}

capacity_alike : (s t : State) → SameShape s t → capacity_of s ≡ capacity_of t
capacity_alike s t same =
    ap (λ (p : Parameters). 64 + 3 * p.core_size + length s.queues * p.processes) same.params
    ∙ ap (λ (n : ℕ). 64 + 3 * t.params.core_size + n * t.params.processes) same.warriors

capacity_by : (over : Bool) (n : ℕ) (s : State) → is_over_of s ≡ over → capacity_of (after_turns n (turn_of s)) ≡ capacity_of (turn_of s) → capacity_of (after_turns (suc n) s) ≡ capacity_of s
capacity_by true n s over inner = ap capacity_of (over_stays (suc n) s over)
capacity_by false n s running inner = ap capacity_of (turn_first n s running) ∙ inner ∙ capacity_alike (turn_of s) s (shape-turn_of s)

-- Turns and edits keep the capacity that a battle needs.
pub capacity_played : (n : ℕ) (s : State) → capacity_of (after_turns n s) ≡ capacity_of s
capacity_played zero s = refl
capacity_played (suc n) s = capacity_by (is_over_of s) n s refl (capacity_played n (turn_of s))

pub capacity_edited : (s : State) (e : Edit) → capacity_of (edited s e) ≡ capacity_of s
capacity_edited s e = capacity_alike (edited s e) s (shape-edited s e)

-- `count` turns, followed by the others, are `turns` turns.
pub played_on : (turns count many : ℕ) (s : State) → count ≤ turns → many ≡ count → after_turns (turns - count) (after_turns many s) ≡ after_turns turns s
played_on turns count many s h e =
    ap (λ (n : ℕ). after_turns (turns - count) (after_turns n s)) e ∙ add_turns count (turns - count) s ∙ ap (λ (n : ℕ). after_turns n s) (omega arith)

-- Without rows, no turn is recorded.
pub none_played : {Row : Type 0} → (row_of : State → Row) → (turns : ℕ) → (s : State) → (rows : List Row) → length rows ≡ 0 → rows ≡ played_rows row_of turns s rows
none_played row_of zero s [] none = refl
none_played row_of (suc turns) s [] none = refl
none_played row_of turns s (row ∷ rows) none = absurd (omega (arith, none))

-- Several edits keep the capacity that a battle needs, too.
pub capacity_makes : (s t : State) (edits : List Edit) → FoldsTo Makes s edits t → capacity_of t ≡ capacity_of s
capacity_makes s t [] is = ap capacity_of (sym is)
capacity_makes s t (e ∷ edits) (j, made, on) = capacity_makes j t edits on ∙ ap capacity_of made.1 ∙ capacity_edited s e

-- If edit `i` of a list has no error and is made, the first `i + 1` edits were made.
pub makes_next : (s t new : State) (edits : List Edit) (i : ℕ) (e d : Edit) → FoldsTo Makes s (take i edits) t → i < length edits → get_or edits i d ≡ e
    → edit_fault t e ≡ None → new ≡ edited t e → FoldsTo Makes s (take (i + 1) edits) new
makes_next s t new edits i e d before inside is none made =
    rw (add-one, take-suc edits i d inside, is) (FoldsTo-push Makes s (take i edits) t e new before (none, made))

zip_push : (numbers : List MarsEdit) (edits : List Edit) (one : MarsEdit) (e : Edit) → AllZip Means numbers edits → Means one e
    → AllZip Means (numbers ++ one ∷ []) (edits ++ e ∷ [])
zip_push [] [] one e before means = (means, tt)
zip_push [] (x ∷ edits) one e before means = absurd before
zip_push (n ∷ numbers) [] one e before means = absurd before
zip_push (n ∷ numbers) (x ∷ edits) one e before means = (before.0, zip_push numbers edits one e before.1 means)

-- If the numbers so far mean the edits, and the next numbers mean `e`, then together they mean the edits and `e`.
pub mean_next : (numbers : List MarsEdit) (edits : List Edit) (i : ℕ) (one d : MarsEdit) (e : Edit) → AllZip Means (take i numbers) edits → i < length numbers
    → get_or numbers i d ≡ one → Means one e → AllZip Means (take (i + 1) numbers) (edits ++ e ∷ [])
mean_next numbers edits i one d e before inside is means =
    rw (add-one, take-suc numbers i d inside, is) (zip_push (take i numbers) edits one e before means)

-- If the result `r` of an edit is a record, the edit had no error, so the battle has become `state`.
pub edit_made : (o : Option EditFault) (r : Result Atom EditFault) (x y : Atom) (new state old : State) → r ≡ Ok x → MatchOption o (r ≡ Ok y) (λ fault. r ≡ Err fault) → MatchOption o (new ≡ state) (λ _. new ≡ old) → new ≡ state
edit_made None r x y new state old is answer made = made
edit_made (Some fault) r x y new state old is answer made = absurd (cc)

-- An edit that was made had no error.
pub edit_possible : (o : Option EditFault) (r : Result Atom EditFault) (x y : Atom) → r ≡ Ok x → MatchOption o (r ≡ Ok y) (λ fault. r ≡ Err fault) → o ≡ None
edit_possible None r x y is answer = refl
edit_possible (Some fault) r x y is answer = absurd (cc)
