-- Battles at moments: the cells that are counted, and the steps that are made.
use Rattle.std.proofs.Common.{◌≡◌, ◌≢◌, ℕ, zero, suc, ◌<◌, ◌≤◌, ◌==◌, ◌+◌, ◌-◌, ◌*◌, true, false, not, cond, if◌then◌else◌, List, [], ◌∷◌, ◌++◌, get_or, length, set, take, map, replicate, append_assoc, append-nil, refl, subst, sym, ap, ◌∙◌, arith}
use Rattle.std.proofs.Math.Nat.{add_comm, suc-mul, zero-mul}
use Rattle.std.specs.List.{range_with_len}
use Rattle.std.proofs.lemmas.Bool.{eqb-true, eqb-false}
use Rattle.std.proofs.lemmas.List.{ext_get_or, get_or-replicate, get_or-set_other, get_or-set_same, length-set, take_all, length-take-le}
use Rattle.std.proofs.lemmas.List.Filters.{length-filter_both, length-filter_more}
use Rattle.std.proofs.lemmas.List.FromFn.{get_or-map-range_with_len, length-map-range_with_len}
use Rattle.mars_core.specs.Moments.{moment_of, moments_after, owned_by}
use Rattle.mars_core.specs.Past.{followed, pasts_after}
use Rattle.mars_core.specs.Search.{found_in}
use Rattle.mars_core.specs.State.{State, is_over_of}
use Rattle.mars_core.specs.Turn.{after_turns, turn_of}
use Rattle.mars_core.specs.declared.battle.moments.Moment.{Moment}
use Rattle.mars_core.specs.declared.past.Past.{Past}
use Rattle.mars_core.specs.declared.search.Condition.{Condition}
use Rattle.std.proofs.lemmas.Grind.{take-set_at}
use Rattle.mars_core.proofs.Pasts.{after-over, after-turn, followed-over, followed-turn, length-pasts_after}
use Rattle.mars_core.proofs.Reaching.{after_both}

-- `cells` has, for each of 16 warriors, how many of the first `i` pasts it owns.
pub record AreCounted (pasts : List Past) (i : ℕ) (cells : List ℕ) : Type 0 where
  pub size : length cells ≡ 16
  pub counted : (w : ℕ) → w < 16 → get_or cells w 0 ≡ owned_by (take i pasts) w

-- Before the first past, all counts are 0.
pub none_counted : (pasts : List Past) → AreCounted pasts 0 (replicate 16 0)
none_counted pasts = record { size = refl; counted = λ w below. get_or-replicate 16 w 0 0 below }

-- A warrior owns at most all cells.
owned_few : (pasts : List Past) (w : ℕ) → owned_by pasts w ≤ length pasts
owned_few pasts w =
    omega (arith, length-filter_both (λ (past : Past). past.owner == w) (λ (past : Past). not (past.owner == w)) (λ past. refl) pasts)

module _ (pasts : List Past) (i : ℕ) (cells : List ℕ) (c : AreCounted pasts i cells) (inside : i < length pasts) (d : Past) where
  abbrev past : Past
  past = get_or pasts i d

  more : (w : ℕ) → owned_by (take (i + 1) pasts) w ≡ owned_by (take i pasts) w + cond (past.owner == w) 1 0
  more w = length-filter_more (λ (one : Past). one.owner == w) pasts i d inside

  -- A count can be raised: it is at most the number of pasts before.
  pub count_few : (w : ℕ) → w < 16 → get_or cells w 0 ≤ i
  count_few w below = omega (arith, c.counted w below, owned_few (take i pasts) w, length-take-le i pasts (omega (arith, inside)))

  -- The next past has an owner that is counted.
  pub one_counted : (owner count : ℕ) → owner ≡ past.owner → owner < 16 → count ≡ get_or cells owner 0 + 1 → AreCounted pasts (i + 1) (set cells owner count)
  one_counted owner count owner_is below count_is = record {
    size = length-set cells owner count ∙ c.size;
    counted = λ w inside'. elim (past.owner == w) as (λ b. (past.owner == w) ≡ b → get_or (set cells owner count) w 0 ≡ owned_by (take (i + 1) pasts) w) [
      | true ↦ λ e.
          let here : owner ≡ w = owner_is ∙ eqb-true past.owner w e in
          rw (more w, e, ← here) (get_or-set_same cells owner count 0 (rw c.size below) ∙ omega (arith, count_is, c.counted owner below))
      | false ↦ λ e.
          let other : w ≢ owner = λ x. eqb-false past.owner w e (sym owner_is ∙ sym x) in
          rw (more w, e) (get_or-set_other cells owner w count 0 other ∙ omega (arith, c.counted w inside'))
    ] refl;
  }

  -- The next past has another owner.
  pub other_counted : 16 ≤ past.owner → AreCounted pasts (i + 1) cells
  other_counted above = record {
    size = c.size;
    counted = λ w below. elim (past.owner == w) as (λ b. (past.owner == w) ≡ b → get_or cells w 0 ≡ owned_by (take (i + 1) pasts) w) [
      | true ↦ λ e. let here : past.owner ≡ w = eqb-true past.owner w e in absurd (omega arith)
      | false ↦ λ e. rw (more w, e) (omega (arith, c.counted w below))
    ] refl;
  }

-- All cells are counted.
pub all_counted : (pasts : List Past) (i : ℕ) (cells : List ℕ) → AreCounted pasts i cells → length pasts ≤ i → cells ≡ map (owned_by pasts) (range_with_len 0 16)
all_counted pasts i cells c all =
    ext_get_or 0 cells (map (owned_by pasts) (range_with_len 0 16)) (c.size ∙ sym (length-map-range_with_len (owned_by pasts) 0 16))
    (λ w inside.
    let below : w < 16 = subst (λ n. w < n) c.size inside in
    c.counted w below ∙ ap (λ l. owned_by l w) (take_all i pasts all) ∙ sym (get_or-map-range_with_len (owned_by pasts) 0 16 w w 0 below (omega arith)))

-- Following `a + b` turns is following `a` turns and then `b` turns.
pub followed_both : (a b : ℕ) (s : State) (pasts : List Past) → followed (a + b) s pasts ≡ followed b (after_turns a s) (followed a s pasts)
followed_both zero b s pasts = ap (λ n. followed n s pasts) (omega arith)
followed_both (suc a) b s pasts =
    elim (is_over_of s) as (λ o. is_over_of s ≡ o → followed (suc a + b) s pasts ≡ followed b (after_turns (suc a) s) (followed (suc a) s pasts)) [
      | true ↦ λ over.
          followed-over (suc a + b) s pasts over
          ∙ sym (rw (after-over (suc a) s over, followed-over (suc a) s pasts over) (followed-over b s pasts over))
      | false ↦ λ running.
          followed-turn (suc a + b) (a + b) s pasts (omega arith) running
          ∙ followed_both a b (turn_of s) (pasts_after s pasts)
          ∙ sym (rw (after-turn (suc a) a s (omega arith) running, followed-turn (suc a) a s pasts (omega arith) running) refl)
    ] refl

pub length-followed : (n : ℕ) (s : State) (pasts : List Past) → length (followed n s pasts) ≡ length pasts
length-followed zero s pasts = refl
length-followed (suc n) s pasts =
    elim (is_over_of s) as (λ o. length (if o then pasts else followed n (turn_of s) (pasts_after s pasts)) ≡ length pasts) [
      | true ↦ refl
      | false ↦ length-followed n (turn_of s) (pasts_after s pasts) ∙ length-pasts_after s pasts
    ]

-- The number of turns in `k + 1` steps is that in one step and in `k` steps.
turns_left : (k step : ℕ) → suc k * step ≡ step + k * step
turns_left k step = suc-mul k step ∙ add_comm (k * step) step

-- From the state `first` on, `made` of `n` steps are made, and their moments are the first of `rows`.
pub record AreMade (n step : ℕ) (conditions : List Condition) (first : State) (pasts_first : List Past)
    (made : ℕ) (s : State) (pasts : List Past) (rows : List Moment) : Type 0 where
  pub size : length pasts ≡ s.params.core_size
  pub rows_are : moments_after n step conditions first pasts_first ≡ take made rows ++ moments_after (n - made) step conditions s pasts
  pub pasts_are : followed (n * step) first pasts_first ≡ followed ((n - made) * step) s pasts
  pub battle_is : after_turns (n * step) first ≡ after_turns ((n - made) * step) s

module _ (n step : ℕ) (conditions : List Condition) (first : State) (pasts_first : List Past) where
  pub none_made : (rows : List Moment) → length pasts_first ≡ first.params.core_size → AreMade n step conditions first pasts_first 0 first pasts_first rows
  none_made rows size = record {
    size = size;
    rows_are = ap (λ k. moments_after k step conditions first pasts_first) (omega arith);
    pasts_are = ap (λ k. followed (k * step) first pasts_first) (omega arith);
    battle_is = ap (λ k. after_turns (k * step) first) (omega arith);
  }

  module _ (made : ℕ) (s : State) (pasts : List Past) (rows : List Moment) (m : AreMade n step conditions first pasts_first made s pasts rows) where
    pub one_made : (t : State) (pasts' : List Past) (row : Moment) → made < n → made < length rows → t ≡ after_turns step s → pasts' ≡ followed step s pasts
        → t.params ≡ s.params → row ≡ moment_of t pasts' (length (found_in conditions step s pasts))
        → AreMade n step conditions first pasts_first (made + 1) t pasts' (set rows made row)
    one_made t pasts' row below inside t_is pasts_is params row_is =
        let k = n - (made + 1) in
        let left : n - made ≡ suc k = omega arith in
        record {
          size = rw (pasts_is, params) (length-followed step s pasts ∙ m.size);
          rows_are =
              m.rows_are
              ∙ ap (λ l. take made rows ++ l) (rw (left, t_is, pasts_is) (ap (λ x. x ∷ moments_after k step conditions (after_turns step s) (followed step s pasts)) (sym (rw (← t_is, ← pasts_is) row_is))))
              ∙ sym (append_assoc (take made rows) (row ∷ []) _)
              ∙ ap (λ l. l ++ moments_after k step conditions t pasts') (sym (take-set_at rows made (made + 1) row refl inside));
          pasts_are = m.pasts_are ∙ rw (left, turns_left k step, t_is, pasts_is) (followed_both step (k * step) s pasts);
          battle_is = m.battle_is ∙ rw (left, turns_left k step, t_is) (sym (after_both (k * step) step s));
        }

    pub all_made : n ≤ made → length rows ≤ made
        → (rows ≡ moments_after n step conditions first pasts_first) × (pasts ≡ followed (n * step) first pasts_first) × (s ≡ after_turns (n * step) first)
    all_made all whole =
        let none : n - made ≡ 0 = omega arith in (
          sym (m.rows_are ∙ rw none (append-nil (take made rows)) ∙ take_all made rows whole),
          sym (m.pasts_are ∙ rw (none, zero-mul step) refl),
          sym (m.battle_is ∙ rw (none, zero-mul step) refl),
        )
