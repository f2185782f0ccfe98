-- The cells that an execution touches: where they may be, and that no other cells matter to it.
use Rattle.std.proofs.Common.{◌≡◌, ◌≢◌, ℕ, ◌<◌, List, [], ◌∷◌, length, All, refl, ap, sym, ◌∙◌}
use Rattle.std.proofs.lemmas.List.{map-id, get_or-set_other}
use Rattle.std.proofs.lemmas.List.Elements.{All-head, All-tail, All-weaker}
use Rattle.mars_cell.specs.declared.instruction.Cell.{Cell}
use Rattle.mars_cell.specs.Cells.{empty_cell}
use Rattle.mars_cell.specs.Parameters.{Parameters, AreInRange}
use Rattle.mars_core.specs.State.{State, cell_at, queue_of}
use Rattle.mars_core.specs.Touched.{touched, touched_in_turn}
use Rattle.mars_core.specs.Turn.{front_of, execution_of, executed, turn_of}
use Rattle.mars_core.specs.Record.{rewritten}
use Rattle.mars_core.specs.Validity.{IsCore, IsValid}
use Rattle.mars_core.specs.declared.machine.writes.CellChange.{CellChange}
use Rattle.mars_core.proofs.ForLaws.Alike.{Corresponds, Alike, AlikeExecution, execution_alike, touched_alike}
use Rattle.mars_core.proofs.Rewritten.{execution_replays}
use Rattle.mars_core.proofs.TouchedInside.{front_inside, touched_inside}

module _ (p : Parameters) (r : AreInRange p) (pc : ℕ) (start : pc < p.core_size) where
  -- An instruction in two cores with the same cells wherever `Holds` is true: at least where it touches the first core.
  module _ (Holds : ℕ → Type 0) (core other : List Cell) (size : length core ≡ p.core_size) (size_there : length other ≡ p.core_size)
      (holds : All Holds (touched p core pc)) (same : (a : ℕ) → Holds a → cell_at core a ≡ cell_at other a) where
    abbrev pub Near : ℕ → Type 0
    Near a = Holds a × (a < p.core_size)

    pub itself : Corresponds p (λ a. a) Near pc pc
    itself = record {
      one = λ a b near near_b same. same;
      inside = λ a near. near.1;
      inside_there = λ a near. near.1;
      step = λ d. refl;
      start = start;
      start_there = start;
    }

    near : All Near (touched p core pc)
    near = λ k d h. (holds k d h, touched_inside p r pc start core k d h)

    cores : Alike p.core_size (λ a. a) Near core other
    cores = record { size = size; size_there = size_there; cells = λ a near. sym (same a near.0) }

    pub both : AlikeExecution p (λ a. a) Near pc pc itself (execution_of p core pc) (execution_of p other pc)
    both = execution_alike p (λ a. a) Near pc pc itself core other cores near

    pub same_touched : touched p core pc ≡ touched p other pc
    same_touched = sym (touched_alike p (λ a. a) Near pc pc itself core other cores near ∙ map-id (touched p core pc))

-- Cells that are not touched do not matter.
pub untouched_cells : (p : Parameters) (core other : List Cell) (pc : ℕ) → AreInRange p → IsCore p.core_size core → IsCore p.core_size other → pc < p.core_size → All (λ a. cell_at core a ≡ cell_at other a) (touched p core pc) → ((execution_of p core pc).queued ≡ (execution_of p other pc).queued) × ((execution_of p core pc).written.changes ≡ (execution_of p other pc).written.changes) × (touched p core pc ≡ touched p other pc)
untouched_cells p core other pc r fits fits_other start all =
    let e = both p r pc start (λ a. cell_at core a ≡ cell_at other a) core other fits.size fits_other.size all (λ a same. same) in (
      sym (e.queued ∙ map-id (execution_of p core pc).queued),
      sym (e.written.changes ∙ map-id (execution_of p core pc).written.changes),
      same_touched p r pc start (λ a. cell_at core a ≡ cell_at other a) core other fits.size fits_other.size all (λ a same. same),
    )

-- Changes at other addresses leave a cell unchanged.
pub rewritten_beside : (changes : List CellChange) (core : List Cell) (a : ℕ) → All (λ (c : CellChange). a ≢ c.address) changes → cell_at (rewritten changes core) a ≡ cell_at core a
rewritten_beside [] core a all = refl
rewritten_beside (c ∷ changes) core a all =
    rewritten_beside changes _ a (All-tail (λ (c : CellChange). a ≢ c.address) c changes all)
    ∙ get_or-set_other core c.address a c.after empty_cell (All-head (λ (c : CellChange). a ≢ c.address) c changes all)

-- A turn changes no cell that it does not touch.
pub untouched_stays : (s : State) (a : ℕ) → IsValid s → All (λ b. a ≢ b) (touched_in_turn s) → cell_at (turn_of s).core a ≡ cell_at s.core a
unfolding turn_of executed
untouched_stays s a v beside =
    let p = s.params in
    let pc = front_of (queue_of s.queues s.next) in
    let start = front_inside s v in
    let e = both p v.params pc start (λ b. a ≢ b) s.core s.core v.core.size v.core.size beside (λ b other. refl) in
    let changes = (execution_of p s.core pc).written.changes in
    let all = All-weaker (λ (c : CellChange). (a ≢ c.address) × (c.address < p.core_size)) (λ (c : CellChange). a ≢ c.address) (λ c near. near.0) changes e.written.near in
    ap (λ core. cell_at core a) (sym (execution_replays p s.core pc)) ∙ rewritten_beside changes s.core a all
