-- What limits reach: writes, touched cells, and near distances as folded pointers. Cells out of reach do not matter.
use Rattle.std.proofs.Common.{ap, ◌≡◌, ◌≢◌, ℕ, List, ◌∙◌, ◌+◌, ◌-◌, ◌/◌, ◌%◌, ◌<◌, ◌≤◌, Bool, true, false, All, refl, sym, subst, arith, inl, inr}
use Rattle.std.specs.Prelude.{◌⊎◌, ◌↔◌, nat_lt, if◌then◌else◌}
use Rattle.std.proofs.Math.Nat.{mod-eq_of_lt}
use Rattle.std.proofs.lemmas.Bool.Decides.{nat_tests}
use Rattle.std.proofs.lemmas.List.Elements.{All-weaker}
use Rattle.mars_cell.specs.declared.instruction.Cell.{Cell}
use Rattle.mars_cell.specs.Parameters.{Parameters, AreInRange}
use Rattle.mars_core.specs.Addresses.{address_after, fold}
use Rattle.mars_core.specs.Reach.{IsNear, Reaches}
use Rattle.mars_core.specs.State.{State, cell_at, queue_of}
use Rattle.mars_core.specs.Touched.{touched}
use Rattle.mars_core.specs.Turn.{front_of, front_execution, execution_of, executed, turn_of, turn_record}
use Rattle.mars_core.specs.Validity.{IsCore, IsValid}
use Rattle.mars_core.specs.declared.machine.writes.CellChange.{CellChange}
use Rattle.mars_core.proofs.Folding.{after_none}
use Rattle.mars_core.proofs.ForLaws.Touched.{untouched_cells, rewritten_beside}
use Rattle.mars_core.proofs.TouchedInside.{touched_here}
use Rattle.mars_core.proofs.Rewritten.{execution_replays}
use Rattle.mars_core.proofs.Fits.{folded_inside}
use Rattle.mars_core.proofs.Inside.{execution_here}

near_either : (m limit r : ℕ) (b : Bool) → nat_lt (limit / 2) r ≡ b → limit ≤ m → IsNear m limit (if b then r + (m - limit) else r)
near_either m limit r true e h = inr (grind (arith, nat_tests))
near_either m limit r false e h = inl (grind (arith, nat_tests))

fold_near : (m limit n : ℕ) → limit ≤ m → IsNear m limit (fold m limit n)
unfolding fold
fold_near m limit n h = near_either m limit (n % limit) (nat_lt (limit / 2) (n % limit)) refl h

module _ (m limit pc : ℕ) (least : 1 ≤ limit) (most : limit ≤ m) where
  -- The address to which a folded pointer leads is reached.
  pub pointed_reached : (n : ℕ) → Reaches m limit pc (address_after m pc (fold m limit n))
  pointed_reached n = record {
    distance = fold m limit n;
    inside = folded_inside m limit n least most;
    near = fold_near m limit n most;
    address_is = refl;
  }

  -- The address of the process itself is reached.
  pub here_reached : Reaches m limit pc (address_after m pc 0)
  here_reached = record { distance = 0; inside = omega (arith, least, most); near = inl (omega arith); address_is = refl }

pub writes_near : (s : State) → IsValid s → All (λ (c : CellChange). Reaches s.params.core_size s.params.write_limit (front_of (queue_of s.queues s.next)) c.address) (turn_record s).cells.items
unfolding turn_record
writes_near s v =
    let p = s.params in
    let pc = front_of (queue_of s.queues s.next) in
    execution_here p pc (Reaches p.core_size p.write_limit pc)
    (pointed_reached p.core_size p.write_limit pc v.params.write_least v.params.write_most)
    (here_reached p.core_size p.write_limit pc v.params.write_least v.params.write_most) s.core

-- A turn changes no cell that the write limit does not reach.
pub far_cell_stays : (s : State) (a : ℕ) → IsValid s → (Reaches s.params.core_size s.params.write_limit (front_of (queue_of s.queues s.next)) a → ⊥) → cell_at (turn_of s).core a ≡ cell_at s.core a
unfolding turn_of executed turn_record
far_cell_stays s a v far =
    let pc = front_of (queue_of s.queues s.next) in
    let Reached : ℕ → Type 0 = Reaches s.params.core_size s.params.write_limit pc in
    let changes = (front_execution s.params s.core (queue_of s.queues s.next)).written.changes in
    let beside : All (λ (c : CellChange). a ≢ c.address) changes =
    All-weaker (λ (c : CellChange). Reached c.address) (λ (c : CellChange). a ≢ c.address) (λ c near same. far (subst Reached (sym same) near)) changes (writes_near s v) in
    ap (λ core. cell_at core a) (sym (execution_replays s.params s.core pc)) ∙ rewritten_beside changes s.core a beside

-- Every touched address is reached for reading or for writing.
pub touched_reached : (p : Parameters) (core : List Cell) (pc : ℕ) → AreInRange p → pc < p.core_size → All (λ a. Reaches p.core_size p.read_limit pc a ⊎ Reaches p.core_size p.write_limit pc a) (touched p core pc)
touched_reached p core pc r start =
    let Reached : ℕ → Type 0 = λ a. Reaches p.core_size p.read_limit pc a ⊎ Reaches p.core_size p.write_limit pc a in
    let itself : Reached (address_after p.core_size pc 0) = inl (here_reached p.core_size p.read_limit pc r.read_least r.read_most) in
    touched_here p pc Reached (subst Reached (after_none p.core_size pc start) itself) itself
    (λ n. inl (pointed_reached p.core_size p.read_limit pc r.read_least r.read_most n))
    (λ n. inr (pointed_reached p.core_size p.write_limit pc r.write_least r.write_most n)) core

pub far_cells : (p : Parameters) (core other : List Cell) (pc : ℕ) → AreInRange p → IsCore p.core_size core → IsCore p.core_size other → pc < p.core_size → ((a : ℕ) → Reaches p.core_size p.read_limit pc a ⊎ Reaches p.core_size p.write_limit pc a → cell_at core a ≡ cell_at other a) → ((execution_of p core pc).queued ≡ (execution_of p other pc).queued) × ((execution_of p core pc).written.changes ≡ (execution_of p other pc).written.changes)
far_cells p core other pc r fits fits_other start same =
    let touched_same = All-weaker (λ a. Reaches p.core_size p.read_limit pc a ⊎ Reaches p.core_size p.write_limit pc a) (λ a. cell_at core a ≡ cell_at other a) same (touched p core pc) (touched_reached p core pc r start) in
    let e = untouched_cells p core other pc r fits fits_other start touched_same in
    (e.0, e.1)

-- A pointer below the limit is its own remainder by the limit.
fold_small : (m limit n : ℕ) → n < limit → fold m limit n ≡ (if nat_lt (limit / 2) n then n + (m - limit) else n)
unfolding fold
fold_small m limit n h = rw (mod-eq_of_lt {n = n} {m = limit} h) refl

small_either : (m limit n : ℕ) (b : Bool) → nat_lt (limit / 2) n ≡ b → n ≤ limit / 2 → (if b then n + (m - limit) else n) ≡ n
small_either m limit n true e h = absurd (grind (arith, nat_tests))
small_either m limit n false e h = refl

back_either : (m limit n d : ℕ) (b : Bool) → nat_lt (limit / 2) n ≡ b → limit / 2 < n → n + (m - limit) ≡ d → (if b then n + (m - limit) else n) ≡ d
back_either m limit n d true e h is = is
back_either m limit n d false e h is = absurd (grind (arith, nat_tests))

-- Every near distance is the folded pointer of some number.
pointer_of : (m limit d : ℕ) → 1 ≤ limit → limit ≤ m → d < m → IsNear m limit d → (n : ℕ) × (n < m) × (fold m limit n ≡ d)
pointer_of m limit d least most h (inl ahead) =
    let small : d < limit = omega (arith, ahead, least) in
    (d, h, fold_small m limit d small ∙ small_either m limit d (nat_lt (limit / 2) d) refl ahead)
pointer_of m limit d least most h (inr back) =
    let n = d + limit - m in
    let small : n < limit = omega (arith, h, most, least) in
    (n, omega (arith, small, most), fold_small m limit n small ∙ back_either m limit n d (nat_lt (limit / 2) n) refl (omega (arith, back)) (omega (arith, back, most)))

pub pointers_reach : (m limit pc a : ℕ) → 1 ≤ limit → limit ≤ m → Reaches m limit pc a ↔ ((n : ℕ) × (n < m) × (a ≡ address_after m pc (fold m limit n)))
pointers_reach m limit pc a least most = (
  λ k. (let n = pointer_of m limit k.distance least most k.inside k.near in (n.0, n.1, k.address_is ∙ ap (address_after m pc) (sym n.2))),
  λ n. subst (Reaches m limit pc) (sym n.2) (pointed_reached m limit pc least most n.0),
)
