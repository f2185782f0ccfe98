-- Tracing a process back over the turns of its warrior.
use Rattle.std.proofs.Common.{◌≡◌, ℕ, zero, suc, ◌<◌, ◌≤◌, ◌==◌, ◌+◌, ◌-◌, true, false, if◌then◌else◌, List, [], ◌∷◌, ◌++◌, get_or, length, drop, set, take, add-one, append_assoc, append-nil, length-append, inl, inr, ◌⊎◌, None, Some, refl, sym, ap, ◌∙◌, arith}
use Rattle.std.specs.Prelude.{nat_lt}
use Rattle.std.proofs.lemmas.Bool.{eq-eqb, le-ltb, lt-ltb, ne_eqb}
use Rattle.std.specs.Bool.{then_some}
use Rattle.std.proofs.lemmas.List.{length-drop, take_all, take_more}
use Rattle.mars_core.specs.Ancestors.{Lineage, lineage, traced, traced_in_turn}
use Rattle.mars_core.specs.Code.Ancestors.{own_turn, own_turns, traced_back}
use Rattle.mars_core.specs.Search.{filled}
use Rattle.mars_core.specs.State.{State, is_over_of, queue_of}
use Rattle.mars_core.specs.Turn.{after_turns, turn_of}
use Rattle.mars_core.specs.declared.battle.ancestors.OwnTurn.{OwnTurn}
use Rattle.mars_core.proofs.CallerLemmas.{turns-turn_of}
use Rattle.mars_core.proofs.Pasts.{after-over, after-turn}
use Rattle.mars_core.proofs.Searches.{filled-none, filled-push, given_if}

abbrev pub itself : ℕ → Lineage
itself place = record { births = []; place = place }

-- The lineage of a process depends only on the turns of its warrior.
pub lineage-own_turns : (n : ℕ) (s : State) (warrior place : ℕ) → lineage n s warrior place ≡ traced_back (own_turns n s warrior) (itself place)
lineage-own_turns zero s warrior place = refl
lineage-own_turns (suc n) s warrior place =
    elim (is_over_of s) as (λ o. (if o then itself place else traced_in_turn s warrior (lineage n (turn_of s) warrior place))
    ≡ traced_back (if o then [] else (if s.next == warrior then own_turn s warrior ∷ [] else []) ++ own_turns n (turn_of s) warrior) (itself place)) [
      | true ↦ refl
      | false ↦
          let later = lineage-own_turns n (turn_of s) warrior place in
          elim (s.next == warrior) as (λ b. (if b then traced (s.turns + 1) (length (drop 1 (queue_of s.queues warrior))) (lineage n (turn_of s) warrior place) else lineage n (turn_of s) warrior place)
          ≡ traced_back ((if b then own_turn s warrior ∷ [] else []) ++ own_turns n (turn_of s) warrior) (itself place)) [
            | true ↦ ap (traced (s.turns + 1) (length (drop 1 (queue_of s.queues warrior)))) later
            | false ↦ later
          ]
    ]

-- Of `turns` turns from the state `first` on, `made` are executed, and those of the warrior are kept in `own`.
pub record AreKept (turns : ℕ) (first : State) (warrior made : ℕ) (s : State) (own : List OwnTurn) : Type 0 where
  pub few : length own ≤ made
  pub own_are : own_turns turns first warrior ≡ own ++ own_turns (turns - made) s warrior
  pub battle_is : after_turns turns first ≡ after_turns (turns - made) s

own-turn : (n k : ℕ) (s : State) (warrior : ℕ) → n ≡ k + 1 → is_over_of s ≡ false
    → own_turns n s warrior ≡ (if s.next == warrior then own_turn s warrior ∷ [] else []) ++ own_turns k (turn_of s) warrior
own-turn n k s warrior e running = ap (λ m. own_turns m s warrior) e ∙ rw (add-one, running) refl

own-over : (n : ℕ) (s : State) (warrior : ℕ) → is_over_of s ≡ true → own_turns n s warrior ≡ []
own-over zero s warrior over = refl
own-over (suc n) s warrior over = rw over refl

module _ (turns : ℕ) (first : State) (warrior : ℕ) where
  pub none_kept : AreKept turns first warrior 0 first []
  none_kept = record {
    few = omega arith;
    own_are = ap (λ n. own_turns n first warrior) (omega arith);
    battle_is = ap (λ n. after_turns n first) (omega arith);
  }

  module _ (made : ℕ) (s : State) (own : List OwnTurn) (k : AreKept turns first warrior made s own) where
    -- If all turns are executed, or the battle is over, all turns of the warrior are kept.
    pub all_kept : (turns - made ≡ 0) ⊎ (is_over_of s ≡ true) → (own ≡ own_turns turns first warrior) × (s ≡ after_turns turns first)
    all_kept (inl none) = (
      sym (k.own_are ∙ rw none (append-nil own)),
      sym (k.battle_is ∙ rw none refl),
    )
    all_kept (inr over) = (
      sym (k.own_are ∙ rw (own-over (turns - made) s warrior over) (append-nil own)),
      sym (k.battle_is ∙ after-over (turns - made) s over),
    )

    module _ (t : State) (below : made < turns) (running : is_over_of s ≡ false) (t_is : t ≡ turn_of s) where
      next : (new own' : List OwnTurn) → (if s.next == warrior then own_turn s warrior ∷ [] else []) ≡ new → length new ≤ 1 → own' ≡ own ++ new
          → AreKept turns first warrior (made + 1) t own'
      next new own' new_is one own_is =
          let n = turns - (made + 1) in
          let left : turns - made ≡ n + 1 = omega arith in
          record {
            few = omega (arith, k.few, one, ap length own_is, length-append own new);
            own_are =
                k.own_are ∙ ap (λ l. own ++ l) (own-turn _ n s warrior left running ∙ rw (new_is, t_is) refl)
                ∙ sym (append_assoc own new _) ∙ ap (λ l. l ++ own_turns n t warrior) (sym own_is);
            battle_is = k.battle_is ∙ after-turn _ n s left running ∙ rw t_is refl;
          }

      pub one_kept : (turn : OwnTurn) (own' : List OwnTurn) → (s.next == warrior) ≡ true → turn ≡ own_turn s warrior → own' ≡ own ++ turn ∷ []
          → AreKept turns first warrior (made + 1) t own'
      one_kept turn own' is turn_is own_is =
          next (own_turn s warrior ∷ []) own' (rw is refl) (omega arith) (own_is ∙ ap (λ x. own ++ x ∷ []) turn_is)

      pub other_left : (s.next == warrior) ≡ false → AreKept turns first warrior (made + 1) t own
      other_left other = next [] own (rw other refl) (omega arith) (sym (append-nil own))

traced_back-append : (earlier later : List OwnTurn) (l : Lineage) → traced_back (earlier ++ later) l ≡ traced_back earlier (traced_back later l)
traced_back-append [] later l = refl
traced_back-append (own ∷ earlier) later l = ap (traced own.turn own.waiting) (traced_back-append earlier later l)

-- Traced back over the turns from `i` on, the process leads to the place `first`, with `count` births, which are in
-- `rows`.
pub record IsTraced (own : List OwnTurn) (place : ℕ) (rows_first : List ℕ) (i first count : ℕ) (rows : List ℕ) : Type 0 where
  pub births : List ℕ
  pub rest : traced_back own (itself place) ≡ traced_back (take i own) (record { births = births; place = first })
  pub count_is : count ≡ length births
  pub few : count + i ≤ length own
  pub rows_are : rows ≡ filled births rows_first

abbrev turn_at : List OwnTurn → ℕ → OwnTurn
turn_at own i = get_or own i (record { turn = 0; waiting = 0 })

module _ (own : List OwnTurn) (place : ℕ) (rows_first : List ℕ) where
  pub none_traced : (i : ℕ) → i ≡ length own → IsTraced own place rows_first i place 0 rows_first
  none_traced i all = record {
    births = [];
    rest = ap (λ l. traced_back l (itself place)) (sym (take_all i own (omega (arith, all))));
    count_is = refl;
    few = omega (arith, all);
    rows_are = sym (filled-none rows_first);
  }

  pub all_traced : (first count : ℕ) (rows : List ℕ) → (t : IsTraced own place rows_first 0 first count rows)
      → traced_back own (itself place) ≡ record { births = t.births; place = first }
  all_traced first count rows t = t.rest

  -- Back over the turn with the index `i`.
  module _ (j i first count : ℕ) (rows : List ℕ) (turn : OwnTurn) (t : IsTraced own place rows_first j first count rows)
      (more : j ≡ i + 1) (is : turn_at own i ≡ turn) where
    inside : i < length own
    inside = omega (arith, t.few, more)

    over_turn : (l : Lineage) → traced_back (take j own) l ≡ traced_back (take i own) (traced turn.turn turn.waiting l)
    over_turn l =
        ap (λ n. traced_back (take n own) l) more ∙ ap (λ x. traced_back x l) (take_more own i _ inside)
        ∙ traced_back-append (take i own) (turn_at own i ∷ []) l
        ∙ ap (λ (x : OwnTurn). traced_back (take i own) (traced x.turn x.waiting l)) is

    -- The process waited while the turn was executed.
    pub moved_up : first < turn.waiting → IsTraced own place rows_first i (first + 1) count rows
    moved_up below = record {
      births = t.births;
      rest = t.rest ∙ over_turn _ ∙ rw (lt-ltb first turn.waiting below) refl;
      count_is = t.count_is;
      few = omega (arith, t.few, more);
      rows_are = t.rows_are;
    }

    -- The turn executed the process.
    pub went_on : first ≡ turn.waiting → IsTraced own place rows_first i 0 count rows
    went_on at =
        let after : nat_lt first turn.waiting ≡ false = le-ltb first turn.waiting (omega (arith, at)) in
        record {
          births = t.births;
          rest = t.rest ∙ over_turn _ ∙ rw (after, eq-eqb first turn.waiting at) refl;
          count_is = t.count_is;
          few = omega (arith, t.few, more);
          rows_are = t.rows_are;
        }

    -- The process was born in the turn.
    pub was_born : (rows' : List ℕ) → turn.waiting < first → rows' ≡ set rows count turn.turn → IsTraced own place rows_first i 0 (count + 1) rows'
    was_born rows' above rows_is =
        let after : nat_lt first turn.waiting ≡ false = le-ltb first turn.waiting (omega arith) in
        let other : (first == turn.waiting) ≡ false = ne_eqb first turn.waiting (λ e. omega (arith, e)) in
        record {
          births = t.births ++ turn.turn ∷ [];
          rest = t.rest ∙ over_turn _ ∙ rw (after, other) refl;
          count_is = omega (arith, t.count_is, length-append t.births (turn.turn ∷ []));
          few = omega (arith, t.few, more);
          rows_are = rows_is ∙ rw (t.rows_are, t.count_is) (filled-push t.births turn.turn rows_first);
        }

-- What the code returns of the next turn, which leaves the state `t`.
pub own_turn_made : (s t : State) (warrior owner turn waiting count : ℕ) → is_over_of s ≡ false → t ≡ after_turns 1 s → owner ≡ s.next → turn ≡ t.turns
    → count ≡ length (queue_of s.queues warrior) → waiting ≡ count - 1
    → then_some (owner == warrior) (record { turn = turn; waiting = waiting }) ≡ (if s.next == warrior then Some (own_turn s warrior) else None)
own_turn_made s t warrior owner turn waiting count running t_is owner_is turn_is count_is waiting_is =
    let number : turn ≡ s.turns + 1 = turn_is ∙ ap (λ (x : State). x.turns) (t_is ∙ after-turn 1 0 s refl running) ∙ turns-turn_of s in
    let others : waiting ≡ length (drop 1 (queue_of s.queues warrior)) = waiting_is ∙ ap (λ n. n - 1) count_is ∙ sym (length-drop 1 (queue_of s.queues warrior)) in
    given_if (owner == warrior) _ ∙ rw (owner_is, number, others) refl

-- The turns that were kept of a copy lead to the lineage.
pub kept_lineage : (turns : ℕ) (s copy : State) (warrior place : ℕ) (own items : List OwnTurn) → own ≡ items → items ≡ own_turns turns copy warrior → copy ≡ s
    → traced_back own (itself place) ≡ lineage turns s warrior place
kept_lineage turns s copy warrior place own items own_is items_are copy_is =
    ap (λ l. traced_back l (itself place)) (own_is ∙ items_are ∙ ap (λ x. own_turns turns x warrior) copy_is) ∙ sym (lineage-own_turns turns s warrior place)
