-- What the definitions exclude, one condition at a time: settings, rounds, histories, blocks and buffers.
use Rattle.std.specs.Prelude.{◌≡◌, ◌<◌, ◌≤◌, ◌+◌, ◌*◌, ℕ, Some, List, [], ◌∷◌, Result, Ok, Err, length, refl, slice_index_or}
use Rattle.std.proofs.Common.{ap, arith, replicate, sym, ◌∙◌}
use Rattle.std.specs.Option.{unwrap_or}
use Rattle.mars_cell.specs.Parameters.{Parameters}
use Rattle.mars_core.specs.Block.{block_mark, block_of, field_words, head_of, head_words}
use Rattle.mars_core.specs.State.{State}
use Rattle.mars_match.specs.declared.setup.Setup.{Setup}
use Rattle.redcode_text.specs.Tokens.{Scanned}
use Rattle.redcode_text.specs.declared.fault.ExprFault.{ExprFault}
use Rattle.redcode_text.specs.declared.fault.ExprFault.TheVariants.{Syntax}
use Rattle.mars_c.specs.Battles.{IsHistory, IsStart}
use Rattle.mars_c.specs.Blocks.{IsPlayable}
use Rattle.mars_c.specs.Programs.{BeginsWith}
use Rattle.mars_c.specs.Settings.{IsSetup, parameters_in}
use Rattle.mars_c.specs.Examples.{nano}
use Rattle.mars_c.specs.declared.cells.MarsCell.{MarsCell}
use Rattle.mars_c.specs.declared.warriors.MarsWarrior.{MarsWarrior}

-- ---- Setups

-- The same setup does not have two numbers of rounds, two seeds, or two positions.
pub one_number_of_rounds : (text : List ℕ) (setup : Setup) → IsSetup (nano 2 7 0) text setup → IsSetup (nano 3 7 0) text setup → ⊥
one_number_of_rounds text setup one other = let e : 2 ≡ 3 = sym one.plan.rounds ∙ other.plan.rounds in omega (arith, e)

pub one_seed : (text : List ℕ) (setup : Setup) → IsSetup (nano 2 7 0) text setup → IsSetup (nano 2 8 0) text setup → ⊥
one_seed text setup one other = let e : 7 ≡ 8 = sym one.plan.seed ∙ other.plan.seed in omega (arith, e)

pub one_position : (text : List ℕ) (setup : Setup) → IsSetup (nano 2 7 5) text setup → IsSetup (nano 2 7 6) text setup → ⊥
one_position text setup one other =
    let same : Some 5 ≡ Some 6 = sym one.plan.fixed ∙ other.plan.fixed in
    let e : 5 ≡ 6 = ap (λ o. unwrap_or o 0) same in
    omega (arith, e)

-- The parameters of the setup are those of the settings.
pub a_core_of_another_size : (text : List ℕ) (setup : Setup) → IsSetup (nano 2 7 0) text setup → setup.params.core_size ≡ 80
a_core_of_another_size text setup one =
    let same : parameters_in (nano 2 7 0) ≡ setup.params = cc in
    sym (ap (λ (p : Parameters). p.core_size) same)

-- The setup has the formula of the text, so a text that is no formula has no setup.
pub no_formula_of_257_bytes : (setup : Setup) → IsSetup (nano 2 7 0) (replicate 257 87) setup → ⊥
no_formula_of_257_bytes setup s = let e : ◌≡◌ {A = Result Scanned ExprFault} (Err Syntax) (Ok setup.formula) = s.formula in cc

pub rounds_out_of_range : (text : List ℕ) (setup : Setup) → (IsSetup (nano 0 7 0) text setup → ⊥) × (IsSetup (nano 100001 7 0) text setup → ⊥)
rounds_out_of_range text setup = (λ s. omega (arith, s.plan.rounds_allowed.0), λ s. omega (arith, s.plan.rounds_allowed.1))

pub seeds_out_of_range : (text : List ℕ) (setup : Setup) → (IsSetup (nano 1 0 0) text setup → ⊥) × (IsSetup (nano 1 2147483647 0) text setup → ⊥)
seeds_out_of_range text setup = (λ s. omega (arith, s.plan.seed_allowed.0), λ s. omega (arith, s.plan.seed_allowed.1))

-- ---- Battles

-- A match of three rounds has no round 3, because rounds are numbered from 0.
pub no_round_3 : (cells : List MarsCell) (entrants : List MarsWarrior) (s : State) → IsStart (nano 3 7 0) cells entrants 3 s → ⊥
no_round_3 cells entrants s start = let e : 3 < 3 = start.5 in omega (arith, e)

-- No warrior may be placed nearer than the distance, which is 5.
pub no_nearer_start : (cells : List MarsCell) (entrants : List MarsWarrior) (s : State) → IsStart (nano 3 7 4) cells entrants 0 s → ⊥
no_nearer_start cells entrants s start =
    let same : parameters_in (nano 3 7 4) ≡ start.0.params = cc in
    let distance : 5 ≡ start.0.params.distance = ap (λ (p : Parameters). p.distance) same in
    let fits = rw (start.2.plan.fixed) at start.4 in
    omega (arith, distance, fits.1)

pub histories : (IsHistory 0 → ⊥) × IsHistory 1 × IsHistory 1000000 × (IsHistory 1000001 → ⊥)
histories = (λ h. omega (arith, h.0), (omega arith, omega arith), (omega arith, omega arith), λ h. omega (arith, h.1))

-- ---- Blocks

-- Words without the mark of a block are no battle.
pub no_mark : (s : State) (words : List ℕ) → IsPlayable s (0 ∷ words) → ⊥
unfolding block_of head_of field_words
no_mark s words h = let e : 0 ≡ block_mark = ap (λ words. slice_index_or words 0 0) h.spells.block in omega (arith, e)

-- A battle needs room for all processes that it may ever have, not only for those that it has.
pub no_room_for_processes : (s : State) (words : List ℕ) → 1 ≤ length s.queues * s.params.processes
    → length words ≡ head_words + 3 * s.params.core_size → IsPlayable s words → ⊥
no_room_for_processes s words some is h = omega (arith, some, is, h.capacity)

-- ---- Buffers

-- A text of one byte is at the front of a buffer of two, but not with the count 2, in an empty buffer, or with another
-- byte after the text.
pub texts_in_buffers : BeginsWith {A = ℕ} (65 ∷ []) 1 (1 ∷ 2 ∷ []) (65 ∷ 2 ∷ [])
    × (BeginsWith {A = ℕ} (65 ∷ []) 2 (1 ∷ 2 ∷ []) (65 ∷ []) → ⊥)
    × (BeginsWith {A = ℕ} (65 ∷ []) 1 [] (65 ∷ []) → ⊥)
    × (BeginsWith {A = ℕ} (65 ∷ []) 1 (1 ∷ 2 ∷ []) (65 ∷ 3 ∷ []) → ⊥)
texts_in_buffers = (
  (refl, omega arith, refl),
  λ b. let e : 2 ≡ 1 = b.0 in omega (arith, e),
  λ b. let e : 1 ≤ 0 = b.1 in omega (arith, e),
  λ b. let e = ap (λ (bytes : List ℕ). slice_index_or bytes 1 0) b.2 in omega (arith, e),
)
