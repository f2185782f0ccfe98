-- What the code notes of each warrior is what its turns did.
use Rattle.std.proofs.Common.{◌≡◌, ◌⊎◌, refl, sym, ◌∙◌, ap, ℕ, zero, suc, ◌+◌, ◌*◌, ◌<◌, ◌≤◌, Bool, true, false, cond, ◌||◌, nat_eq, inl, inr, List, [], ◌∷◌, All, length, map, replicate, get_or, set, arith}
use Rattle.std.specs.Prelude.{count_by, if◌then◌else◌}
use Rattle.std.specs.List.{list_any}
use Rattle.std.proofs.lemmas.Bool.{cases_eq, cases_lt}
use Rattle.std.proofs.lemmas.List.{length-map, length-set, length-replicate, get_or-replicate, get_or_default, get_or-set_same, get_or-set_other, get_or-map, set_past}
use Rattle.std.proofs.lemmas.List.Elements.{All-set}
use Rattle.std.proofs.lemmas.List.Sums.{sum_by-cons}
use Rattle.mars_core.specs.Marks.{marked, marks_of, written_at}
use Rattle.mars_core.specs.State.{State, is_over_of, queue_of}
use Rattle.mars_core.specs.Touched.{touched_in_turn}
use Rattle.mars_core.specs.Turn.{after_turns, front_of, turn_of, turn_record}
use Rattle.mars_core.specs.declared.machine.marks.Mark.{Mark}
use Rattle.mars_core.specs.declared.machine.writes.CellChange.{CellChange}
use Rattle.mars_match.specs.Battles.{end_of}
use Rattle.mars_match.specs.Counts.{counts_of, executes, how_many_below, splits, touches, turns_at, turns_from, turns_to_end, writes}
use Rattle.mars_match.specs.Code.Deeds.{DeedsValue, HasMarks, counts_in, no_deeds, noted, with_turn, with_turns}
use Rattle.mars_match.specs.declared.counts.Counts.{Counts}

-- ---- One more turn

no_turns : (n : ℕ) (s : State) → is_over_of s ≡ true → turns_from n s ≡ []
no_turns zero s over = refl
no_turns (suc n) s over = rw over refl

stays_over : (n : ℕ) (s : State) → is_over_of s ≡ true → after_turns n s ≡ s
stays_over zero s over = refl
stays_over (suc n) s over = rw over refl

module _ (n left : ℕ) (s : State) (more : left ≡ suc n) (on : is_over_of s ≡ false) where
  pub noted_more : (all : List DeedsValue) → noted (turns_from n (turn_of s)) (set all s.next (with_turn s (get_or all s.next (no_deeds 0)))) ≡ noted (turns_from left s) all
  noted_more all = rw (more, on) refl

  pub state_more : after_turns n (turn_of s) ≡ after_turns left s
  state_more = rw (more, on) refl

-- The loop over turns has ended, since none is left or the battle is over.
module _ (left last : ℕ) (start s : State) (many : last ≡ start.params.cycles * length start.queues) (ends : (left ≡ 0) ⊎ (is_over_of s ≡ true)) where
  none_left : turns_from left s ≡ []
  none_left = elim ends [
    | inl none ↦ rw none refl
    | inr over ↦ no_turns left s over
  ]

  same_left : after_turns left s ≡ s
  same_left = elim ends [
    | inl none ↦ rw none refl
    | inr over ↦ stays_over left s over
  ]

  pub all_noted : (first all : List DeedsValue) → noted (turns_from left s) all ≡ noted (turns_from last start) first → all ≡ noted (turns_to_end start) first
  unfolding turns_to_end
  all_noted first all e = sym (ap (λ turns. noted turns all) none_left) ∙ e ∙ ap (λ k. noted (turns_from k start) first) many

  pub at_end : after_turns left s ≡ after_turns last start → s ≡ end_of start
  unfolding end_of
  at_end e = sym same_left ∙ e ∙ ap (λ k. after_turns k start) many

-- ---- Marks

length-marked : (addresses : List ℕ) (marks : List Bool) → length (marked addresses marks) ≡ length marks
length-marked [] marks = refl
length-marked (a ∷ addresses) marks = length-marked addresses (set marks a true) ∙ length-set marks a true

or_assoc : (x y z : Bool) → ((x || y) || z) ≡ (x || (y || z))
or_assoc true y z = refl
or_assoc false y z = refl

or_true : (x : Bool) → (x || true) ≡ true
or_true true = refl
or_true false = refl

or_false : (x : Bool) → (x || false) ≡ x
or_false true = refl
or_false false = refl

-- The mark of the cell at `a` after that of the cell at `b` is set.
mark_at : (marks : List Bool) (b a : ℕ) → a < length marks → get_or (set marks b true) a false ≡ (get_or marks a false || nat_eq b a)
mark_at marks b a inside = elim (cases_eq b a) [
  | inl same ↦
      let test : nat_eq b a ≡ true = grind (arith, same) in
      let set_here : get_or (set marks b true) a false ≡ true = rw same (get_or-set_same marks a true false inside) in
      set_here ∙ sym (or_true (get_or marks a false)) ∙ ap (λ t. get_or marks a false || t) (sym test)
  | inr apart ↦
      let test : nat_eq b a ≡ false = grind (arith, apart) in
      get_or-set_other marks b a true false (λ e. apart (sym e)) ∙ sym (or_false (get_or marks a false)) ∙ ap (λ t. get_or marks a false || t) (sym test)
]

marked_at : (addresses : List ℕ) (marks : List Bool) (a : ℕ) → a < length marks → get_or (marked addresses marks) a false ≡ (get_or marks a false || list_any (λ b. nat_eq b a) addresses)
marked_at [] marks a inside = sym (or_false (get_or marks a false))
marked_at (b ∷ addresses) marks a inside =
    let long = length-set marks b true in
    let others : list_any (λ c. nat_eq c a) addresses ≡ list_any (λ c. nat_eq c a) addresses = refl in
    marked_at addresses (set marks b true) a (omega (arith, long, inside))
    ∙ ap (λ t. t || list_any (λ c. nat_eq c a) addresses) (mark_at marks b a inside)
    ∙ or_assoc (get_or marks a false) (nat_eq b a) (list_any (λ c. nat_eq c a) addresses)

-- ---- The deeds of a warrior

written_by : (changes : List CellChange) (a : ℕ) → list_any (λ b. nat_eq b a) (written_at changes) ≡ list_any (λ (change : CellChange). nat_eq change.address a) changes
written_by [] a = refl
written_by (change ∷ changes) a = ap (λ t. nat_eq change.address a || t) (written_by changes a)

executed_by : (t : State) (a : ℕ) → list_any (λ b. nat_eq b a) (front_of (queue_of t.queues t.next) ∷ []) ≡ executes a t
executed_by t a = or_false (nat_eq (front_of (queue_of t.queues t.next)) a)

marks-with_turn : (m : ℕ) (t : State) (d : DeedsValue) → HasMarks m d → HasMarks m (with_turn t d)
marks-with_turn m t d h = record {
  executed = length-marked (front_of (queue_of t.queues t.next) ∷ []) d.marks.executed ∙ h.executed;
  written = length-marked (written_at (turn_record t).cells.items) d.marks.written ∙ h.written;
  touched = length-marked (touched_in_turn t) d.marks.touched ∙ h.touched;
}

pub marks-with_turns : (m : ℕ) (turns : List State) (d : DeedsValue) → HasMarks m d → HasMarks m (with_turns turns d)
marks-with_turns m [] d h = h
marks-with_turns m (t ∷ turns) d h = marks-with_turns m turns (with_turn t d) (marks-with_turn m t d h)

turns-with_turns : (turns : List State) (d : DeedsValue) → (with_turns turns d).turns ≡ d.turns + length turns
turns-with_turns [] d = omega arith
turns-with_turns (t ∷ turns) d = turns-with_turns turns (with_turn t d) ∙ omega arith

spawned-with_turns : (turns : List State) (d : DeedsValue) → (with_turns turns d).spawned ≡ d.spawned + count_by splits turns
spawned-with_turns [] d = omega arith
spawned-with_turns (t ∷ turns) d =
    let more = sum_by-cons (λ (u : State). cond (splits u) 1 0) t turns in
    spawned-with_turns turns (with_turn t d) ∙ omega (arith, more)

executed-with_turns : (turns : List State) (d : DeedsValue) (a : ℕ) → a < length d.marks.executed → get_or (with_turns turns d).marks.executed a false ≡ (get_or d.marks.executed a false || list_any (executes a) turns)
executed-with_turns [] d a inside = sym (or_false (get_or d.marks.executed a false))
executed-with_turns (t ∷ turns) d a inside =
    let at = front_of (queue_of t.queues t.next) ∷ [] in
    let long = length-marked at d.marks.executed in
    executed-with_turns turns (with_turn t d) a (omega (arith, long, inside))
    ∙ ap (λ x. x || list_any (executes a) turns) (marked_at at d.marks.executed a inside ∙ ap (λ x. get_or d.marks.executed a false || x) (executed_by t a))
    ∙ or_assoc (get_or d.marks.executed a false) (executes a t) (list_any (executes a) turns)

written-with_turns : (turns : List State) (d : DeedsValue) (a : ℕ) → a < length d.marks.written → get_or (with_turns turns d).marks.written a false ≡ (get_or d.marks.written a false || list_any (writes a) turns)
written-with_turns [] d a inside = sym (or_false (get_or d.marks.written a false))
written-with_turns (t ∷ turns) d a inside =
    let changes = (turn_record t).cells.items in
    let long = length-marked (written_at changes) d.marks.written in
    written-with_turns turns (with_turn t d) a (omega (arith, long, inside))
    ∙ ap (λ x. x || list_any (writes a) turns) (marked_at (written_at changes) d.marks.written a inside ∙ ap (λ x. get_or d.marks.written a false || x) (written_by changes a))
    ∙ or_assoc (get_or d.marks.written a false) (writes a t) (list_any (writes a) turns)

touched-with_turns : (turns : List State) (d : DeedsValue) (a : ℕ) → a < length d.marks.touched → get_or (with_turns turns d).marks.touched a false ≡ (get_or d.marks.touched a false || list_any (touches a) turns)
touched-with_turns [] d a inside = sym (or_false (get_or d.marks.touched a false))
touched-with_turns (t ∷ turns) d a inside =
    let long = length-marked (touched_in_turn t) d.marks.touched in
    touched-with_turns turns (with_turn t d) a (omega (arith, long, inside))
    ∙ ap (λ x. x || list_any (touches a) turns) (marked_at (touched_in_turn t) d.marks.touched a inside)
    ∙ or_assoc (get_or d.marks.touched a false) (touches a t) (list_any (touches a) turns)

-- ---- The numbers of what a warrior did

map_replicate : (kind : Mark → Bool) (m : ℕ) (mark : Mark) → map kind (replicate m mark) ≡ replicate m (kind mark)
map_replicate kind zero mark = refl
map_replicate kind (suc m) mark = ap (λ l. kind mark ∷ l) (map_replicate kind m mark)

-- The deeds of a warrior with the given marks and without turns.
abbrev pub deeds_with : List Mark → DeedsValue
deeds_with marks = record { turns = 0; spawned = 0; marks = marks_of marks }

pub fresh_deeds : (m : ℕ) → deeds_with (replicate m (record { executed = false; written = false; touched = false })) ≡ no_deeds m
fresh_deeds m =
    let none : Mark = record { executed = false; written = false; touched = false } in
    rw (map_replicate (λ (k : Mark). k.executed) m none, map_replicate (λ (k : Mark). k.written) m none, map_replicate (λ (k : Mark). k.touched) m none) refl

-- The numbers that the code counts in its marks.
pub counts_are : (turns spawned executed written touched : ℕ) (marks : List Mark) →
    executed ≡ how_many_below (length marks) (λ a. get_or (marks_of marks).executed a false) →
    written ≡ how_many_below (length marks) (λ a. get_or (marks_of marks).written a false) →
    touched ≡ how_many_below (length marks) (λ a. get_or (marks_of marks).touched a false) →
    ◌≡◌ {A = Counts} (record { turns = turns; spawned = spawned; executed = executed; written = written; touched = touched }) (counts_in (record { turns = turns; spawned = spawned; marks = marks_of marks }))
counts_are turns spawned executed written touched marks e w t =
    let below = λ (kind : Mark → Bool). ap (λ n. how_many_below n (λ a. get_or (map kind marks) a false)) (sym (length-map marks kind)) in
    let executed_is = e ∙ below (λ (k : Mark). k.executed) in
    let written_is = w ∙ below (λ (k : Mark). k.written) in
    let touched_is = t ∙ below (λ (k : Mark). k.touched) in
    rw (executed_is, written_is, touched_is) refl

below_same : (m : ℕ) (f g : ℕ → Bool) → ((a : ℕ) → a < m → f a ≡ g a) → how_many_below m f ≡ how_many_below m g
below_same zero f g same = refl
below_same (suc m) f g same =
    let rest = below_same m f g (λ a h. same a (omega (arith, h))) in
    let here = same m (omega arith) in
    rw (rest, here) refl

-- If no mark was set at first, as many marks are set as addresses pass `test`.
fresh_marks : (m : ℕ) (marks : List Bool) (test : ℕ → Bool) → length marks ≡ m → ((a : ℕ) → a < m → get_or marks a false ≡ (get_or (replicate m false) a false || test a)) →
    how_many_below (length marks) (λ a. get_or marks a false) ≡ how_many_below m test
fresh_marks m marks test long same = rw long (below_same m (λ a. get_or marks a false) test (λ a h. same a h ∙ ap (λ t. t || test a) (get_or-replicate m a false false h)))

module _ (m : ℕ) (turns : List State) where
  inside_all : (a : ℕ) → a < m → a < length (replicate m false)
  inside_all a h = let long = length-replicate m false in omega (arith, long, h)

  pub sizes : HasMarks m (with_turns turns (no_deeds m))
  sizes = let long = length-replicate m false in marks-with_turns m turns (no_deeds m) (record { executed = long; written = long; touched = long })

  pub counts_fresh : counts_in (with_turns turns (no_deeds m)) ≡ record {
    turns = length turns;
    spawned = count_by splits turns;
    executed = how_many_below m (λ a. list_any (executes a) turns);
    written = how_many_below m (λ a. list_any (writes a) turns);
    touched = how_many_below m (λ a. list_any (touches a) turns);
  }
  counts_fresh =
      let d = with_turns turns (no_deeds m) in
      let many : d.turns ≡ length turns = turns-with_turns turns (no_deeds m) ∙ omega arith in
      let splitting : d.spawned ≡ count_by splits turns = spawned-with_turns turns (no_deeds m) ∙ omega arith in
      let executed = fresh_marks m d.marks.executed (λ a. list_any (executes a) turns) sizes.executed (λ a h. executed-with_turns turns (no_deeds m) a (inside_all a h)) in
      let written = fresh_marks m d.marks.written (λ a. list_any (writes a) turns) sizes.written (λ a h. written-with_turns turns (no_deeds m) a (inside_all a h)) in
      let touched = fresh_marks m d.marks.touched (λ a. list_any (touches a) turns) sizes.touched (λ a h. touched-with_turns turns (no_deeds m) a (inside_all a h)) in
      rw (many, splitting, executed, written, touched) refl

-- ---- The deeds of all warriors

pub length-noted : (turns : List State) (all : List DeedsValue) → length (noted turns all) ≡ length all
length-noted [] all = refl
length-noted (t ∷ turns) all = length-noted turns (set all t.next (with_turn t (get_or all t.next (no_deeds 0)))) ∙ length-set all t.next (with_turn t (get_or all t.next (no_deeds 0)))

pub noted_at : (turns : List State) (all : List DeedsValue) (place : ℕ) (d : DeedsValue) → place < length all → get_or (noted turns all) place d ≡ with_turns (turns_at place turns) (get_or all place d)
noted_at [] all place d inside = refl
noted_at (t ∷ turns) all place d inside =
    let x = with_turn t (get_or all t.next (no_deeds 0)) in
    let long = length-set all t.next x in
    let rest = noted_at turns (set all t.next x) place d (omega (arith, long, inside)) in
    elim (cases_eq t.next place) [
      | inl same ↦
          let test : nat_eq t.next place ≡ true = grind (arith, same) in
          let own : get_or all t.next (no_deeds 0) ≡ get_or all place d = ap (λ i. get_or all i (no_deeds 0)) same ∙ get_or_default all place (no_deeds 0) d inside in
          let here : get_or (set all t.next x) place d ≡ with_turn t (get_or all place d) =
          ap (λ i. get_or (set all t.next x) i d) (sym same) ∙ get_or-set_same all t.next x d (omega (arith, same, inside)) ∙ ap (with_turn t) own in
          rest ∙ ap (λ e. with_turns (turns_at place turns) e) here ∙ rw test refl
      | inr apart ↦
          let test : nat_eq t.next place ≡ false = grind (arith, apart) in
          rest ∙ ap (λ e. with_turns (turns_at place turns) e) (get_or-set_other all t.next place x d (λ e. apart (sym e))) ∙ rw test refl
    ]

-- After one more turn of a warrior, there still is a mark for each cell.
pub marks_more : (m : ℕ) (t : State) (all : List DeedsValue) → t.next < length all → All (HasMarks m) all → All (HasMarks m) (set all t.next (with_turn t (get_or all t.next (no_deeds 0))))
marks_more m t all inside marks =
    All-set (HasMarks m) all t.next (with_turn t (get_or all t.next (no_deeds 0))) (marks-with_turn m t (get_or all t.next (no_deeds 0)) (marks t.next (no_deeds 0) inside)) marks

one_more : (test : Bool) (n bound : ℕ) → n ≤ bound → n + (if test then 1 else 0) ≤ bound + 1
one_more true n bound h = omega (arith, h)
one_more false n bound h = omega (arith, h)

-- After one more turn of a warrior, no number of turns of a warrior is above `bound + 1`.
pub few_more : (bound : ℕ) (t : State) (all : List DeedsValue) → All (λ (d : DeedsValue). (d.turns ≤ bound) × (d.spawned ≤ bound)) all →
    All (λ (d : DeedsValue). (d.turns ≤ bound + 1) × (d.spawned ≤ bound + 1)) (set all t.next (with_turn t (get_or all t.next (no_deeds 0))))
few_more bound t all few =
    let P = λ (d : DeedsValue). (d.turns ≤ bound + 1) × (d.spawned ≤ bound + 1) in
    let x = with_turn t (get_or all t.next (no_deeds 0)) in
    let weaker : All P all = λ k d h. (omega (arith, (few k d h).0), omega (arith, (few k d h).1)) in
    elim (cases_lt t.next (length all)) [
      | inl inside ↦
          let own = few t.next (no_deeds 0) inside in
          All-set P all t.next x (omega (arith, own.0), one_more (splits t) (get_or all t.next (no_deeds 0)).spawned bound own.1) weaker
      | inr past ↦ rw (set_past all t.next x past) weaker
    ]

-- ---- From the start of a battle

module _ (s : State) (place : ℕ) (inside : place < length s.queues) where
  -- The numbers of the warrior at `place` are what it does to the end of the battle.
  pub counts_noted : (d : Counts) → get_or (map counts_in (noted (turns_to_end s) (replicate (length s.queues) (no_deeds s.params.core_size)))) place d ≡ counts_of s place
  unfolding counts_of
  counts_noted d =
      let m = s.params.core_size in
      let many = length-replicate (length s.queues) (no_deeds m) in
      let within : place < length (replicate (length s.queues) (no_deeds m)) = omega (arith, many, inside) in
      let long = length-noted (turns_to_end s) (replicate (length s.queues) (no_deeds m)) in
      get_or-map counts_in (noted (turns_to_end s) (replicate (length s.queues) (no_deeds m))) place (no_deeds m) d (omega (arith, long, within))
      ∙ ap counts_in (noted_at (turns_to_end s) (replicate (length s.queues) (no_deeds m)) place (no_deeds m) within)
      ∙ ap (λ e. counts_in (with_turns (turns_at place (turns_to_end s)) e)) (get_or-replicate (length s.queues) place (no_deeds m) (no_deeds m) inside)
      ∙ counts_fresh m (turns_at place (turns_to_end s))

-- After the turns of a list, the deeds of each warrior have a mark for each cell.
pub marks_noted : (m count : ℕ) (turns : List State) → All (HasMarks m) (noted turns (replicate count (no_deeds m)))
marks_noted m count turns =
    let long = length-noted turns (replicate count (no_deeds m)) in
    let many = length-replicate count (no_deeds m) in
    λ k d h.
    let within : k < length (replicate count (no_deeds m)) = omega (arith, long, h) in
    rw (noted_at turns (replicate count (no_deeds m)) k d within, get_or-replicate count k (no_deeds m) d (omega (arith, many, within))) (sizes m (turns_at k turns))
