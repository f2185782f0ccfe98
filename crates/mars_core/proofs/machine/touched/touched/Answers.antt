use Rattle.std.proofs.Common.{◌≡◌, ℕ, List, [], ◌∷◌, ◌++◌, ap, ◌∙◌}
use Rattle.std.proofs.lemmas.List.{append_assoc}
use Rattle.mars_core.specs.Addresses.{address_after}
use Rattle.mars_core.specs.Code.Operands.{a_evaluated, b_evaluated}
use Rattle.mars_core.specs.State.{cell_at}
use Rattle.mars_core.specs.Touched.{pointed_addresses, touched}
use Rattle.mars_core.proofs.machine.touched.touched.Goals as goal

-- Appending one by one and appending a list give the same list.
in_order : (xs ys : List ℕ) (r s w : ℕ) → ((xs ++ r ∷ [] ++ ys) ++ s ∷ []) ++ w ∷ [] ≡ xs ++ r ∷ ys ++ s ∷ w ∷ []
in_order xs ys r s w = append_assoc _ (s ∷ []) (w ∷ []) ∙ ap (λ l. l ++ s ∷ w ∷ []) (append_assoc xs (r ∷ []) ys)

pub returns : goal.returns
unfolding touched
returns c = λ core is at_pc.
    let p = c.args.params.now in
    let pc = c.args.pc in
    let i = cell_at core pc in
    let a = (a_evaluated p core pc i).operand in
    let b = (b_evaluated p core pc i).operand in
    let at = address_after p.core_size pc in
    rw (
      c.push-4.ensures.items,
      c.push-3.ensures.items,
      c.add_pointed-2.ensures.added,
      c.push-2.ensures.items,
      c.add_pointed.ensures.added,
      c.push.ensures.items,
      c.new-addresses.ensures,
      at_pc.a_read,
      at_pc.b_read,
      at_pc.b_write,
      is,
    )
    (in_order (pc ∷ pointed_addresses p pc i.a_mode i.a) (pointed_addresses p pc i.b_mode i.b) (at a.read) (at b.read) (at b.write))
