-- The addresses that an execution touches, and the address of the executed process, are in the core.
use Rattle.std.proofs.Common.{ℕ, ◌<◌, List, [], ◌∷◌, All}
use Rattle.std.proofs.lemmas.List.Elements.{All-cons, All-head, All-nil}
use Rattle.mars_cell.specs.declared.instruction.Cell.{Cell}
use Rattle.mars_cell.specs.declared.instruction.Mode.{Mode}
use Rattle.mars_cell.specs.declared.instruction.Mode.TheVariants.{Immediate, Direct}
use Rattle.mars_cell.specs.Parameters.{Parameters, AreInRange}
use Rattle.mars_core.specs.Addresses.{address_after, fold}
use Rattle.mars_core.specs.State.{State, cell_at, queue_of}
use Rattle.mars_core.specs.Writes.{WrittenCore}
use Rattle.mars_core.specs.Operand.{direct_operand, indirect_operand, predecremented, postincremented, evaluated}
use Rattle.mars_core.specs.Touched.{pointed_addresses, touched}
use Rattle.mars_core.specs.Turn.{front_of}
use Rattle.mars_core.specs.Validity.{IsValid}
use Rattle.mars_core.proofs.Fits.{address_inside}
use Rattle.mars_core.proofs.Listed.{all_of}
use Rattle.mars_core.proofs.Inside.{target_here}
use Rattle.mars_core.proofs.Turns.{queue_fits}

-- `Here` holds for every address to which a folded pointer leads.
module _ (p : Parameters) (pc : ℕ) (Here : ℕ → Type 0) (start : Here pc) (itself : Here (address_after p.core_size pc 0))
    (read : (n : ℕ) → Here (address_after p.core_size pc (fold p.core_size p.read_limit n)))
    (write : (n : ℕ) → Here (address_after p.core_size pc (fold p.core_size p.write_limit n))) where
  pointed_here : (mode : Mode) (n : ℕ) → All Here (pointed_addresses p pc mode n)
  pointed_here Immediate n = All-nil Here
  pointed_here Direct n = All-nil Here
  pointed_here mode n =
      let last = address_after p.core_size pc (fold p.core_size p.write_limit n) in
      All-cons Here _ (last ∷ []) (read n) (All-cons Here last [] (write n) (All-nil Here))

  copy_here : (written : WrittenCore) (mode : Mode) (n : ℕ) → Here (address_after p.core_size pc (evaluated p written pc mode n).operand.read)
  unfolding evaluated predecremented postincremented indirect_operand direct_operand
  copy_here written Immediate n = itself
  copy_here written mode n = read _

  -- `Here` holds for every touched address.
  pub touched_here : (core : List Cell) → All Here (touched p core pc)
  unfolding touched
  touched_here core =
      let i = cell_at core pc in
      let none : WrittenCore = record { core = core; changes = [] } in
      let a = evaluated p none pc i.a_mode i.a in
      all_of Here pc (pointed_addresses p pc i.a_mode i.a) _ (pointed_addresses p pc i.b_mode i.b) _ _
      (record {
        here = start;
        a_goes = pointed_here i.a_mode i.a;
        a_copies = copy_here none i.a_mode i.a;
        b_goes = pointed_here i.b_mode i.b;
        b_copies = copy_here a.written i.b_mode i.b;
        target_is = target_here p pc Here write itself a.written i.b_mode i.b;
      })

module _ (p : Parameters) (r : AreInRange p) (pc : ℕ) (start : pc < p.core_size) where
  pub touched_inside : (core : List Cell) → All (λ a. a < p.core_size) (touched p core pc)
  touched_inside core =
      let inside : (n : ℕ) → address_after p.core_size pc n < p.core_size = λ n. address_inside p.core_size pc n r.core_least in
      touched_here p pc (λ a. a < p.core_size) start (inside 0) (λ n. inside _) (λ n. inside _) core

pub front_inside : (s : State) → IsValid s → front_of (queue_of s.queues s.next) < s.params.core_size
front_inside s v = first_inside (queue_of s.queues s.next) (queue_fits s v s.next v.clock.next).addresses where
  first_inside : (q : List ℕ) → All (λ a. a < s.params.core_size) q → front_of q < s.params.core_size
  first_inside [] all = v.params.core_least
  first_inside (a ∷ q) all = All-head (λ a. a < s.params.core_size) a q all
