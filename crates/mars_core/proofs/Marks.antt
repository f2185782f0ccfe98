-- The marks that the code sets one after the other are those of the turn.
use Rattle.std.proofs.Common.{◌≡◌, ℕ, List, [], ◌∷◌, ◌++◌, Bool, true, false, map, get_or, set, ap, sym, ◌∙◌, refl}
use Rattle.std.specs.Prelude.{if◌then◌else◌}
use Rattle.std.proofs.lemmas.List.{append-nil, map-append, map-set}
use Rattle.std.proofs.Math.Seq.{map-set_same}
use Rattle.mars_cell.specs.declared.instruction.Cell.{Cell}
use Rattle.mars_cell.specs.declared.instruction.Mode.{Mode}
use Rattle.mars_cell.specs.declared.instruction.Mode.TheVariants.{Immediate, Direct, AIndirect, BIndirect, APredecrement, BPredecrement, APostincrement, BPostincrement}
use Rattle.mars_cell.specs.Parameters.{Parameters}
use Rattle.mars_core.specs.State.{State, cell_at, queue_of}
use Rattle.mars_core.specs.Writes.{WrittenCore, write_cell, write_field}
use Rattle.mars_core.specs.Operand.{predecremented, postincremented, evaluated}
use Rattle.mars_core.specs.Touched.{pointed_addresses, touched}
use Rattle.mars_core.specs.Turn.{front_of, turn_record}
use Rattle.mars_core.specs.Marks.{Marks, marked, marks_after, marks_of, written_at}
use Rattle.mars_core.specs.Code.Marks.{marks_by, pointed_writes, with_marks}
use Rattle.mars_core.specs.Code.Operands.{AreOperands, a_evaluated, b_evaluated, unwritten}
use Rattle.mars_core.specs.declared.machine.execution.Operands.{Operands}
use Rattle.mars_core.specs.declared.machine.marks.Mark.{Mark}
use Rattle.mars_core.specs.declared.machine.writes.CellChange.{CellChange}
use Rattle.mars_core.proofs.Steps.{evaluated_written}

-- ---- One mark

marks_are : (d e f x y z : List Bool) → d ≡ x → e ≡ y → f ≡ z → ◌≡◌ {A = Marks} (record { executed = d; written = e; touched = f }) (record { executed = x; written = y; touched = z })
marks_are d e f x y z p q r = rw (p, q, r) refl

-- The mark of the cell at `a` is replaced by the mark `m`.
module _ (marks : List Mark) (a : ℕ) (m d : Mark) where
  set_is : (kind : Mark → Bool) → kind m ≡ true → map kind (set marks a m) ≡ set (map kind marks) a true
  set_is kind e = map-set kind marks a m ∙ ap (λ b. set (map kind marks) a b) e

  kept : (kind : Mark → Bool) → kind m ≡ kind (get_or marks a d) → map kind (set marks a m) ≡ map kind marks
  kept kind e = map-set_same kind marks a m d e

  pub marked_executed : m.executed ≡ true → m.written ≡ (get_or marks a d).written → m.touched ≡ true → marks_of (set marks a m) ≡ with_marks (a ∷ []) [] (a ∷ []) (marks_of marks)
  marked_executed e w t =
      marks_are _ _ _ _ _ _ (set_is (λ (m : Mark). m.executed) e) (kept (λ (m : Mark). m.written) w) (set_is (λ (m : Mark). m.touched) t)

  pub marked_written : m.executed ≡ (get_or marks a d).executed → m.written ≡ true → m.touched ≡ (get_or marks a d).touched → marks_of (set marks a m) ≡ with_marks [] (a ∷ []) [] (marks_of marks)
  marked_written e w t =
      marks_are _ _ _ _ _ _ (kept (λ (m : Mark). m.executed) e) (set_is (λ (m : Mark). m.written) w) (kept (λ (m : Mark). m.touched) t)

  pub marked_touched : m.executed ≡ (get_or marks a d).executed → m.written ≡ (get_or marks a d).written → m.touched ≡ true → marks_of (set marks a m) ≡ with_marks [] [] (a ∷ []) (marks_of marks)
  marked_touched e w t =
      marks_are _ _ _ _ _ _ (kept (λ (m : Mark). m.executed) e) (kept (λ (m : Mark). m.written) w) (set_is (λ (m : Mark). m.touched) t)

-- ---- The addresses of the writes

-- The writes of an evaluation are at the cell of which its mode writes a field.
evaluated_at : (p : Parameters) (core : List Cell) (pc : ℕ) (mode : Mode) (n : ℕ) → written_at (evaluated p (unwritten core) pc mode n).written.changes ≡ pointed_writes p pc mode n
unfolding evaluated predecremented postincremented write_field write_cell
evaluated_at p core pc Immediate n = refl
evaluated_at p core pc Direct n = refl
evaluated_at p core pc AIndirect n = refl
evaluated_at p core pc BIndirect n = refl
evaluated_at p core pc APredecrement n = refl
evaluated_at p core pc BPredecrement n = refl
evaluated_at p core pc APostincrement n = refl
evaluated_at p core pc BPostincrement n = refl

operands_at : (p : Parameters) (core : List Cell) (pc : ℕ) (i : Cell) → written_at (b_evaluated p core pc i).written.changes ≡ pointed_writes p pc i.a_mode i.a ++ pointed_writes p pc i.b_mode i.b
operands_at p core pc i =
    let a = (a_evaluated p core pc i).written in
    let b = (evaluated p (unwritten a.core) pc i.b_mode i.b).written in
    ap (λ (w : WrittenCore). written_at w.changes) (evaluated_written p a pc i.b_mode i.b)
    ∙ map-append (λ (change : CellChange). change.address) a.changes b.changes
    ∙ ap (λ l. l ++ written_at b.changes) (evaluated_at p core pc i.a_mode i.a)
    ∙ ap (λ l. pointed_writes p pc i.a_mode i.a ++ l) (evaluated_at p a.core pc i.b_mode i.b)

-- The addresses of the writes, followed by that of the B-target if it was written.
pub target_at : (w : Bool) (before more after : List CellChange) (to : ℕ) → written_at more ≡ to ∷ [] → (if w then before ++ more else before) ≡ after → written_at after ≡ written_at before ++ (if w then to ∷ [] else [])
target_at true before more after to one e =
    ap written_at (sym e) ∙ map-append (λ (change : CellChange). change.address) before more ∙ ap (λ l. written_at before ++ l) one
target_at false before more after to one e = ap written_at (sym e) ∙ sym (append-nil (written_at before))

-- ---- All marks of a turn

marked-append : (xs ys : List ℕ) (marks : List Bool) → marked (xs ++ ys) marks ≡ marked ys (marked xs marks)
marked-append [] ys marks = refl
marked-append (a ∷ xs) ys marks = marked-append xs ys (set marks a true)

-- The marks that the code sets for an instruction with these operands.
abbrev pub marked_so : Parameters → ℕ → Cell → Operands → Marks → Marks
marked_so p pc i o marks =
    with_marks [] (if o.written then o.b_write ∷ [] else []) (o.b_write ∷ [])
    (with_marks [] [] (o.b_read ∷ [])
    (with_marks [] (pointed_writes p pc i.b_mode i.b) (pointed_addresses p pc i.b_mode i.b)
    (with_marks [] [] (o.a_read ∷ [])
    (with_marks [] (pointed_writes p pc i.a_mode i.a) (pointed_addresses p pc i.a_mode i.a)
    (with_marks (pc ∷ []) [] (pc ∷ []) marks)))))

module _ (p : Parameters) (core : List Cell) (pc : ℕ) (o : Operands) (at : AreOperands p core pc o) (marks : Marks) where
  pub marks_so : marked_so p pc (cell_at core pc) o marks ≡ marks_by p core pc marks
  unfolding touched
  marks_so =
      let i = cell_at core pc in
      let wa = pointed_writes p pc i.a_mode i.a in
      let wb = pointed_writes p pc i.b_mode i.b in
      let target = if o.written then o.b_write ∷ [] else [] in
      let pa = pointed_addresses p pc i.a_mode i.a in
      let pb = pointed_addresses p pc i.b_mode i.b in
      let w : marked target (marked wb (marked wa marks.written)) ≡ marked ((wa ++ wb) ++ target) marks.written =
      sym (marked-append (wa ++ wb) target marks.written ∙ ap (marked target) (marked-append wa wb marks.written)) in
      let last = o.b_read ∷ o.b_write ∷ [] in
      let t : marked last (marked (o.a_read ∷ pb) (marked (pc ∷ pa) marks.touched)) ≡ marked ((pc ∷ pa) ++ (o.a_read ∷ pb) ++ last) marks.touched =
      sym (marked-append ((pc ∷ pa) ++ (o.a_read ∷ pb)) last marks.touched ∙ ap (marked last) (marked-append (pc ∷ pa) (o.a_read ∷ pb) marks.touched)) in
      marks_are _ _ _ _ _ _ refl
      (w ∙ ap (λ l. marked (l ++ target) marks.written) (sym (operands_at p core pc i)) ∙ ap (λ l. marked l marks.written) (sym at.writes))
      (t ∙ rw (at.a_read, at.b_read, at.b_write) refl)

-- The marks of the execution at the front of the queue are those of the turn.
pub marks_in_turn : (s : State) (marks : Marks) → marks_by s.params s.core (front_of (queue_of s.queues s.next)) marks ≡ marks_after s marks
unfolding turn_record
marks_in_turn s marks = refl
