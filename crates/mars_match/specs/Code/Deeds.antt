-- What the code notes of each warrior while a battle runs: numbers of turns, and a mark for each cell. A turn is given by the state
-- in which it begins.
use Rattle.std.specs.Prelude.{◌≡◌, ℕ, ◌+◌, ◌<◌, Bool, true, false, if◌then◌else◌, List, [], ◌∷◌, length, replicate, slice_index_or, slice_set}
use Rattle.mars_core.specs.Marks.{Marks, marks_after}
use Rattle.mars_core.specs.State.{State}
use Rattle.mars_match.specs.Counts.{counts_of, how_many_below, splits}
use Rattle.mars_match.specs.Fates.{no_counts}
use Rattle.mars_match.specs.declared.counts.Counts.{Counts}

-- What a warrior has done so far: the number of its turns, the number of those that queued two processes, and the marks.
pub record DeedsValue : Type 0 where
  pub turns : ℕ
  pub spawned : ℕ
  pub marks : Marks

-- The deeds of a warrior that has done nothing, in a core of `m` cells.
abbrev pub no_deeds : ℕ → DeedsValue
no_deeds m = record {
  turns = 0;
  spawned = 0;
  marks = record { executed = replicate m false; written = replicate m false; touched = replicate m false };
}

-- The deeds `d` have a mark of each kind for each of `m` cells.
pub record HasMarks (m : ℕ) (d : DeedsValue) : Type 0 where
  pub executed : length d.marks.executed ≡ m
  pub written : length d.marks.written ≡ m
  pub touched : length d.marks.touched ≡ m

-- The deeds of a warrior that has the deeds `d`, after its turn `t`.
abbrev pub with_turn : State → DeedsValue → DeedsValue
with_turn t d = record {
  turns = d.turns + 1;
  spawned = d.spawned + (if splits t then 1 else 0);
  marks = marks_after t d.marks;
}

-- The deeds of a warrior that has the deeds `d`, after its turns of the list.
abbrev pub with_turns : List State → DeedsValue → DeedsValue
with_turns [] d = d
with_turns (t ∷ turns) d = with_turns turns (with_turn t d)

-- The deeds of all warriors, in the order of turns, after the turns of the list. Before these turns they are `all`.
abbrev pub noted : List State → List DeedsValue → List DeedsValue
noted [] all = all
noted (t ∷ turns) all = noted turns (slice_set all t.next (with_turn t (slice_index_or all t.next (no_deeds 0))))

-- The counts of the deeds `d`.
abbrev pub counts_in : DeedsValue → Counts
counts_in d =
    let marks = λ (marks : List Bool). how_many_below (length marks) (λ a. slice_index_or marks a false) in
    record { turns = d.turns; spawned = d.spawned; executed = marks d.marks.executed; written = marks d.marks.written; touched = marks d.marks.touched }

-- The list `counts` has what each warrior did from the state `s` on, in the order of turns. It is empty if that is not
-- counted.
abbrev pub AreCounts : Bool → State → List Counts → Type 0
AreCounts false s counts = counts ≡ []
AreCounts true s counts = (length counts ≡ length s.queues) × ((place : ℕ) (d : Counts) → place < length s.queues → slice_index_or counts place d ≡ counts_of s place)

-- What the warrior at `place` in the order of turns did, by the list `counts`; zeros if the list is empty.
abbrev pub listed_at : List Counts → ℕ → Counts
listed_at counts place = slice_index_or counts place no_counts
