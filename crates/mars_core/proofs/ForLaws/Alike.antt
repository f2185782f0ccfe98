-- Instructions at two addresses, in cores that are alike wherever the first instruction touches a cell, do the same.
-- The proof follows an execution once, for a map of addresses, a set of near addresses, and conditions on both
-- (`Corresponds`). A shifted battle, and a core with other untouched cells, are two instances.
use Rattle.std.proofs.Common.{◌≡◌, ℕ, ◌<◌, Bool, true, false, cond, List, [], ◌∷◌, length, map, set, refl, ap, sym, ◌∙◌, inl, inr, Option, None, Some, All}
use Rattle.std.proofs.lemmas.Bool.{cases_eq}
use Rattle.std.proofs.lemmas.List.{length-set, get_or-set_same, get_or-set_other, map-append}
use Rattle.std.proofs.lemmas.List.Elements.{All-head, All-nil, All-push, All-tail}
use Rattle.mars_cell.specs.declared.instruction.Cell.{Cell}
use Rattle.mars_cell.specs.declared.instruction.Field.{Field}
use Rattle.mars_cell.specs.declared.instruction.Field.TheVariants.{ANumber, BNumber}
use Rattle.mars_cell.specs.declared.instruction.Mode.{Mode}
use Rattle.mars_cell.specs.declared.instruction.Mode.TheVariants.{Immediate, Direct, AIndirect, BIndirect, APredecrement, BPredecrement, APostincrement, BPostincrement}
use Rattle.mars_cell.specs.declared.instruction.Modifier.{Modifier}
use Rattle.mars_cell.specs.declared.instruction.Op.{Op}
use Rattle.mars_cell.specs.declared.instruction.Op.TheVariants.{Dat, Mov, Add, Sub, Mul, Div, Mod, Jmp, Jmz, Jmn, Djn, Seq, Sne, Slt, Spl, Nop}
use Rattle.mars_cell.specs.Cells.{empty_cell}
use Rattle.mars_cell.specs.Parameters.{Parameters}
use Rattle.mars_core.specs.State.{cell_at}
use Rattle.mars_core.specs.Addresses.{address_after, fold, raised, lowered}
use Rattle.mars_core.specs.Writes.{WrittenCore, write_cell, write_field}
use Rattle.mars_core.specs.Operand.{Operand, Evaluation, pointed_address, direct_operand, indirect_operand, predecremented, postincremented, evaluated}
use Rattle.mars_core.specs.Effect.{division, effect_of}
use Rattle.mars_core.specs.Touched.{pointed_addresses, touched}
use Rattle.mars_core.specs.Turn.{Execution, after_effect, execution_of}
use Rattle.mars_core.specs.declared.machine.writes.CellChange.{CellChange}
use Rattle.mars_core.proofs.Folding.{after_none}
use Rattle.mars_core.proofs.Listed.{listed, Parts, parts_of, map-listed}

-- Each address of the first core has an address `there` in the second. The map is injective on near addresses; all
-- addresses that the first instruction touches are near.
pub record Corresponds (p : Parameters) (there : ℕ → ℕ) (Near : ℕ → Type 0) (pc pc' : ℕ) : Type 0 where
  pub one : (a b : ℕ) → Near a → Near b → there a ≡ there b → a ≡ b
  pub inside : (a : ℕ) → Near a → a < p.core_size
  pub inside_there : (a : ℕ) → Near a → there a < p.core_size
  pub step : (d : ℕ) → address_after p.core_size pc' d ≡ there (address_after p.core_size pc d)
  pub start : pc < p.core_size
  pub start_there : pc' < p.core_size

-- The near cells are the same in both cores, at corresponding addresses.
pub record Alike (m : ℕ) (there : ℕ → ℕ) (Near : ℕ → Type 0) (core core' : List Cell) : Type 0 where
  pub size : length core ≡ m
  pub size_there : length core' ≡ m
  pub cells : (a : ℕ) → Near a → cell_at core' (there a) ≡ cell_at core a

-- A change of a cell, at the address in the second core.
abbrev pub changed_there : (ℕ → ℕ) → CellChange → CellChange
changed_there there change = record change { address = there change.address }

module _ (p : Parameters) (there : ℕ → ℕ) (Near : ℕ → Type 0) (pc pc' : ℕ) (k : Corresponds p there Near pc pc') where
  -- The same cells were written in both cores, only at near addresses.
  pub record AlikeWritten (w w' : WrittenCore) : Type 0 where
    pub cores : Alike p.core_size there Near w.core w'.core
    pub changes : w'.changes ≡ map (changed_there there) w.changes
    pub near : All (λ (c : CellChange). Near c.address) w.changes

  cell_set : (core core' : List Cell) (a b : ℕ) (cell : Cell) → Near a → Near b → Alike p.core_size there Near core core' → cell_at (set core' (there a) cell) (there b) ≡ cell_at (set core a cell) b
  cell_set core core' a b cell near near_b alike =
      elim (cases_eq b a) [
        | inl same ↦
            let inside : a < length core = rw alike.size (k.inside a near) in
            let inside' : there a < length core' = rw alike.size_there (k.inside_there a near) in
            rw same (get_or-set_same core' (there a) cell empty_cell inside' ∙ sym (get_or-set_same core a cell empty_cell inside))
        | inr other ↦
            get_or-set_other core' (there a) (there b) cell empty_cell (λ e. other (k.one b a near_b near e))
            ∙ alike.cells b near_b ∙ sym (get_or-set_other core a b cell empty_cell other)
      ]

  pub set_alike : (core core' : List Cell) (a : ℕ) (cell : Cell) → Near a → Alike p.core_size there Near core core' → Alike p.core_size there Near (set core a cell) (set core' (there a) cell)
  set_alike core core' a cell near alike = record {
    size = simp length-set alike.size;
    size_there = simp length-set alike.size_there;
    cells = λ b near_b. cell_set core core' a b cell near near_b alike;
  }

  -- The address of the cell that an operand copies.
  abbrev copied : Operand → ℕ
  copied operand = address_after p.core_size pc operand.read

  -- Both cells to which the number of an indirect mode leads are near.
  abbrev ArePointedNear : ℕ → Type 0
  ArePointedNear n = All Near (address_after p.core_size pc (fold p.core_size p.read_limit n) ∷ pointed_address p pc n ∷ [])

  first_near : (a b : ℕ) → All Near (a ∷ b ∷ []) → Near a
  first_near a b all = All-head Near a (b ∷ []) all

  second_near : (a b : ℕ) → All Near (a ∷ b ∷ []) → Near b
  second_near a b all = All-head Near b [] (All-tail Near a (b ∷ []) all)

  written_alike : (w w' : WrittenCore) (a : ℕ) (cell : Cell) → Near a → AlikeWritten w w' → AlikeWritten (write_cell w a cell) (write_cell w' (there a) cell)
  unfolding write_cell
  written_alike w w' a cell near alike = record {
    cores = set_alike w.core w'.core a cell near alike.cores;
    changes = rw (alike.changes, alike.cores.cells a near, map-append) refl;
    near = All-push (λ (c : CellChange). Near c.address) w.changes _ alike.near near;
  }

  field_alike : (f : ℕ → ℕ) (field : Field) (w w' : WrittenCore) (d : ℕ) → Near (address_after p.core_size pc d) → AlikeWritten w w' → AlikeWritten (write_field f field w (address_after p.core_size pc d)) (write_field f field w' (address_after p.core_size pc' d))
  unfolding write_field
  field_alike f field w w' d near alike =
      rw (k.step d, alike.cores.cells (address_after p.core_size pc d) near) (written_alike w w' (address_after p.core_size pc d) _ near alike)

  module _ (core core' : List Cell) (alike : Alike p.core_size there Near core core') where
    at_step : (d : ℕ) → Near (address_after p.core_size pc d) → cell_at core' (address_after p.core_size pc' d) ≡ cell_at core (address_after p.core_size pc d)
    at_step d near = ap (cell_at core') (k.step d) ∙ alike.cells (address_after p.core_size pc d) near

    direct_alike : (r w : ℕ) → Near (copied (direct_operand p core pc r w)) → direct_operand p core' pc' r w ≡ direct_operand p core pc r w
    unfolding direct_operand
    direct_alike r w near = rw (at_step (fold p.core_size p.read_limit r) near) refl

    indirect_alike : (field : Field) (n : ℕ) → ArePointedNear n → Near (copied (indirect_operand p field core pc n)) → indirect_operand p field core' pc' n ≡ indirect_operand p field core pc n
    unfolding indirect_operand
    indirect_alike field n pointed near =
        rw (at_step (fold p.core_size p.read_limit n) (first_near _ _ pointed), at_step (fold p.core_size p.write_limit n) (second_near _ _ pointed))
        (direct_alike _ _ near)

  -- The evaluations return the same operand.
  record AlikeEvaluation (e e' : Evaluation) : Type 0 where
    pub written : AlikeWritten e.written e'.written
    pub operand : e'.operand ≡ e.operand

  module _ (w w' : WrittenCore) (alike : AlikeWritten w w') (n : ℕ) where
    module _ (field : Field) (pointed : ArePointedNear n) where
      indirect_evaluated : Near (copied (indirect_operand p field w.core pc n)) → AlikeEvaluation (record { written = w; operand = indirect_operand p field w.core pc n }) (record { written = w'; operand = indirect_operand p field w'.core pc' n })
      indirect_evaluated near = record { written = alike; operand = indirect_alike w.core w'.core alike.cores field n pointed near }

      before_alike : Near (copied (predecremented p field w pc n).operand) → AlikeEvaluation (predecremented p field w pc n) (predecremented p field w' pc' n)
      unfolding predecremented
      before_alike near =
          let written = field_alike (lowered p.core_size) field w w' (fold p.core_size p.write_limit n) (second_near _ _ pointed) alike in
          record { written = written; operand = indirect_alike _ _ written.cores field n pointed near }

      after_alike : Near (copied (postincremented p field w pc n).operand) → AlikeEvaluation (postincremented p field w pc n) (postincremented p field w' pc' n)
      unfolding postincremented
      after_alike near = record {
        written = field_alike (raised p.core_size) field w w' (fold p.core_size p.write_limit n) (second_near _ _ pointed) alike;
        operand = indirect_alike w.core w'.core alike.cores field n pointed near;
      }

    evaluated_alike : (mode : Mode) → All Near (pointed_addresses p pc mode n) → Near (copied (evaluated p w pc mode n).operand) → AlikeEvaluation (evaluated p w pc mode n) (evaluated p w' pc' mode n)
    unfolding evaluated
    evaluated_alike Immediate pointed near = record { written = alike; operand = rw (at_step w.core w'.core alike.cores 0 near) refl }
    evaluated_alike Direct pointed near = record { written = alike; operand = direct_alike w.core w'.core alike.cores n n near }
    evaluated_alike AIndirect pointed near = indirect_evaluated ANumber pointed near
    evaluated_alike BIndirect pointed near = indirect_evaluated BNumber pointed near
    evaluated_alike APredecrement pointed near = before_alike ANumber pointed near
    evaluated_alike BPredecrement pointed near = before_alike BNumber pointed near
    evaluated_alike APostincrement pointed near = after_alike ANumber pointed near
    evaluated_alike BPostincrement pointed near = after_alike BNumber pointed near

  one_there : (d : ℕ) → address_after p.core_size pc' d ∷ [] ≡ map there (address_after p.core_size pc d ∷ [])
  one_there d = ap (λ a. a ∷ []) (k.step d)

  some_there : (b : Bool) → cond b (address_after p.core_size pc' 1 ∷ []) [] ≡ map there (cond b (address_after p.core_size pc 1 ∷ []) [])
  some_there true = one_there 1
  some_there false = refl

  -- The addresses that are queued in the second core are those of the first, mapped.
  queued_alike : (op : Op) (modifier : Modifier) (a b target : Cell) (jump : ℕ) → (effect_of p.core_size op modifier a b target pc' jump).queued ≡ map there (effect_of p.core_size op modifier a b target pc jump).queued
  unfolding effect_of division
  queued_alike Dat modifier a b target jump = refl
  queued_alike Mov modifier a b target jump = one_there _
  queued_alike Add modifier a b target jump = one_there _
  queued_alike Sub modifier a b target jump = one_there _
  queued_alike Mul modifier a b target jump = one_there _
  queued_alike Div modifier a b target jump = some_there _
  queued_alike Mod modifier a b target jump = some_there _
  queued_alike Jmp modifier a b target jump = one_there _
  queued_alike Jmz modifier a b target jump = one_there _
  queued_alike Jmn modifier a b target jump = one_there _
  queued_alike Djn modifier a b target jump = one_there _
  queued_alike Seq modifier a b target jump = one_there _
  queued_alike Sne modifier a b target jump = one_there _
  queued_alike Slt modifier a b target jump = one_there _
  queued_alike Spl modifier a b target jump = rw (k.step 1, k.step jump) refl
  queued_alike Nop modifier a b target jump = one_there _

  target_alike : (op : Op) (modifier : Modifier) (a b target : Cell) (jump : ℕ) → (effect_of p.core_size op modifier a b target pc' jump).target ≡ (effect_of p.core_size op modifier a b target pc jump).target
  unfolding effect_of division
  target_alike Dat modifier a b target jump = refl
  target_alike Mov modifier a b target jump = refl
  target_alike Add modifier a b target jump = refl
  target_alike Sub modifier a b target jump = refl
  target_alike Mul modifier a b target jump = refl
  target_alike Div modifier a b target jump = refl
  target_alike Mod modifier a b target jump = refl
  target_alike Jmp modifier a b target jump = refl
  target_alike Jmz modifier a b target jump = refl
  target_alike Jmn modifier a b target jump = refl
  target_alike Djn modifier a b target jump = refl
  target_alike Seq modifier a b target jump = refl
  target_alike Sne modifier a b target jump = refl
  target_alike Slt modifier a b target jump = refl
  target_alike Spl modifier a b target jump = refl
  target_alike Nop modifier a b target jump = refl

  effect_alike : (w w' : WrittenCore) (a : ℕ) (target : Option Cell) → Near a → AlikeWritten w w' → AlikeWritten (after_effect w a target) (after_effect w' (there a) target)
  effect_alike w w' a None near alike = alike
  effect_alike w w' a (Some cell) near alike = written_alike w w' a cell near alike

  -- The executions leave cores that are alike, and queue corresponding addresses.
  pub record AlikeExecution (e e' : Execution) : Type 0 where
    pub written : AlikeWritten e.written e'.written
    pub queued : e'.queued ≡ map there e.queued

  -- The rest of an execution, after both operands are evaluated.
  abbrev finished : ℕ → Cell → Evaluation → Evaluation → Execution
  finished at instruction a b =
      let address = address_after p.core_size at b.operand.write in
      let effect = effect_of p.core_size instruction.op instruction.modifier a.operand.copy b.operand.copy (cell_at b.written.core address) at a.operand.read in
      record { written = after_effect b.written address effect.target; queued = effect.queued }

  finished_alike : (i : Cell) (a a' b b' : Evaluation) → a'.operand ≡ a.operand → AlikeEvaluation b b' → Near (address_after p.core_size pc b.operand.write) → AlikeExecution (finished pc i a b) (finished pc' i a' b')
  finished_alike i a a' b b' same alike near =
      let address = address_after p.core_size pc b.operand.write in
      let target = cell_at b.written.core address in
      let effect = effect_of p.core_size i.op i.modifier a.operand.copy b.operand.copy target pc a.operand.read in
      rw (same, alike.operand, k.step b.operand.write, alike.written.cores.cells address near)
      (record {
        written =
            rw (target_alike i.op i.modifier a.operand.copy b.operand.copy target a.operand.read)
            (effect_alike b.written b'.written address effect.target near alike.written);
        queued = queued_alike i.op i.modifier a.operand.copy b.operand.copy target a.operand.read;
      })

  -- The touched addresses, after both operands are evaluated.
  abbrev touched_by : ℕ → Cell → Evaluation → Evaluation → List ℕ
  touched_by at i a b =
      let m = p.core_size in
      listed at (pointed_addresses p at i.a_mode i.a) (address_after m at a.operand.read) (pointed_addresses p at i.b_mode i.b) (address_after m at b.operand.read) (address_after m at b.operand.write)

  pointed_there : (mode : Mode) (n : ℕ) → pointed_addresses p pc' mode n ≡ map there (pointed_addresses p pc mode n)
  pointed_there Immediate n = refl
  pointed_there Direct n = refl
  pointed_there mode n = rw (k.step (fold p.core_size p.read_limit n), k.step (fold p.core_size p.write_limit n)) refl

  pc_there : pc' ≡ there pc
  pc_there = sym (after_none p.core_size pc' k.start_there) ∙ k.step 0 ∙ ap there (after_none p.core_size pc k.start)

  touched_there : (i : Cell) (a a' b b' : Evaluation) → a'.operand ≡ a.operand → b'.operand ≡ b.operand → touched_by pc' i a' b' ≡ map there (touched_by pc i a b)
  touched_there i a a' b b' same same_b =
      rw (same, same_b, pointed_there i.a_mode i.a, pointed_there i.b_mode i.b, k.step a.operand.read, k.step b.operand.read, k.step b.operand.write, pc_there)
      (sym (map-listed there pc _ _ _ _ _))

  module _ (core core' : List Cell) (alike : Alike p.core_size there Near core core') (near : All Near (touched p core pc)) where
    abbrev i : Cell
    i = cell_at core pc

    abbrev a_of : List Cell → ℕ → Evaluation
    a_of core at = evaluated p (record { core = core; changes = [] }) at i.a_mode i.a

    abbrev b_of : List Cell → ℕ → Evaluation
    b_of core at = evaluated p (a_of core at).written at i.b_mode i.b

    parts : Parts Near pc (pointed_addresses p pc i.a_mode i.a) (copied (a_of core pc).operand) (pointed_addresses p pc i.b_mode i.b) (copied (b_of core pc).operand) (address_after p.core_size pc (b_of core pc).operand.write)
    unfolding touched
    parts = parts_of Near pc _ _ _ _ _ near

    same_instruction : cell_at core' pc' ≡ cell_at core pc
    same_instruction = ap (cell_at core') pc_there ∙ alike.cells pc parts.here

    a_alike : AlikeEvaluation (a_of core pc) (a_of core' pc')
    a_alike =
        evaluated_alike (record { core = core; changes = [] }) (record { core = core'; changes = [] })
        (record { cores = alike; changes = refl; near = All-nil (λ (c : CellChange). Near c.address) }) i.a i.a_mode parts.a_goes parts.a_copies

    b_alike : AlikeEvaluation (b_of core pc) (b_of core' pc')
    b_alike = evaluated_alike (a_of core pc).written (a_of core' pc').written a_alike.written i.b i.b_mode parts.b_goes parts.b_copies

    pub execution_alike : AlikeExecution (execution_of p core pc) (execution_of p core' pc')
    unfolding execution_of
    execution_alike =
        rw same_instruction
        (finished_alike i (a_of core pc) (a_of core' pc') (b_of core pc) (b_of core' pc') a_alike.operand b_alike parts.target_is)

    -- The second execution touches the corresponding cells.
    pub touched_alike : touched p core' pc' ≡ map there (touched p core pc)
    unfolding touched
    touched_alike =
        rw same_instruction
        (touched_there i (a_of core pc) (a_of core' pc') (b_of core pc) (b_of core' pc') a_alike.operand b_alike.operand)
