-- The cells after some turns are what the last writes of these turns wrote.
use Rattle.std.proofs.Common.{◌≡◌, refl, ap, sym, ◌∙◌, ℕ, zero, suc, ◌<◌, ◌==◌, true, false, List, [], ◌∷◌, ◌++◌, length, set, inl, if◌then◌else◌}
use Rattle.std.proofs.lemmas.Bool.{eqb-true, eqb-false}
use Rattle.std.proofs.lemmas.List.{length-set, get_or-set_same, get_or-set_other}
use Rattle.mars_cell.specs.declared.instruction.Cell.{Cell}
use Rattle.mars_cell.specs.Cells.{empty_cell}
use Rattle.mars_core.specs.State.{State, cell_at, is_over_of}
use Rattle.mars_core.specs.Turn.{after_turns, turn_of, turn_record}
use Rattle.mars_core.specs.Record.{applied, rewritten}
use Rattle.mars_core.specs.Validity.{IsValid}
use Rattle.mars_core.specs.Laws.{CellsAreTheLastWritten, last_written, writes_in}
use Rattle.mars_core.specs.declared.machine.writes.CellChange.{CellChange}
use Rattle.mars_core.proofs.CallerLemmas.{shape-turn_of}
use Rattle.mars_core.proofs.Rewritten.{record_applied}
use Rattle.mars_core.proofs.Turns.{turn_valid}

last_written-append : (address : ℕ) (xs ys : List CellChange) (cell : Cell) → last_written address (xs ++ ys) cell ≡ last_written address ys (last_written address xs cell)
last_written-append address [] ys cell = refl
last_written-append address (x ∷ xs) ys cell = last_written-append address xs ys (if x.address == address then x.after else cell)

one_write : (c : CellChange) (core : List Cell) (address : ℕ) → address < length core
    → cell_at (set core c.address c.after) address ≡ (if c.address == address then c.after else cell_at core address)
one_write c core address inside =
    elim (c.address == address) as (λ b. (c.address == address) ≡ b → cell_at (set core c.address c.after) address ≡ (if b then c.after else cell_at core address)) [
      | true ↦ λ e. let same : c.address ≡ address = eqb-true c.address address e in
          rw same (get_or-set_same core address c.after empty_cell inside)
      | false ↦ λ e. get_or-set_other core c.address address c.after empty_cell (λ same. eqb-false c.address address e (sym same))
    ] refl

rewritten_at : (changes : List CellChange) (core : List Cell) (address : ℕ) → address < length core
    → cell_at (rewritten changes core) address ≡ last_written address changes (cell_at core address)
rewritten_at [] core address inside = refl
rewritten_at (c ∷ changes) core address inside =
    rewritten_at changes (set core c.address c.after) address (rw (length-set core c.address c.after) inside)
    ∙ ap (last_written address changes) (one_write c core address inside)

turn_rewrites : (s : State) → IsValid s → is_over_of s ≡ false → (turn_of s).core ≡ rewritten (turn_record s).cells.items s.core
unfolding applied
turn_rewrites s v running =
    sym (ap (λ (t : State). t.core) (record_applied s (turn_record s) (turn_of s) (inl (record { valid = v; running = running; state_is = refl; atom_is = refl }))))

pub cells_are_the_last_written : CellsAreTheLastWritten
cells_are_the_last_written s zero address v inside = refl
cells_are_the_last_written s (suc n) address v inside =
    elim (is_over_of s) as (λ b. is_over_of s ≡ b → cell_at (if b then s else after_turns n (turn_of s)).core address
    ≡ last_written address (if b then [] else (turn_record s).cells.items ++ writes_in n (turn_of s)) (cell_at s.core address)) [
      | true ↦ λ e. refl
      | false ↦ λ e.
          let t = turn_of s in
          let changes = (turn_record s).cells.items in
          let here : address < length s.core = rw v.core.size inside in
          let there : address < t.params.core_size = rw (shape-turn_of s).params inside in
          cells_are_the_last_written t n address (turn_valid s v e) there
          ∙ ap (last_written address (writes_in n t)) (ap (λ core. cell_at core address) (turn_rewrites s v e) ∙ rewritten_at changes s.core address here)
          ∙ sym (last_written-append address changes (writes_in n t) (cell_at s.core address))
    ] refl
