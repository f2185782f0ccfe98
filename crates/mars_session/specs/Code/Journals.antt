-- A tape of one battle and the records between its places, as a history. Each record is stored with the mark of the place that
-- it leads to. Below, `es` is the list of these pairs, and `first` the mark of the first place, which is stored separately.
use Rattle.std.specs.Prelude.{◌≡◌, ℕ, zero, suc, ◌+◌, ◌-◌, ◌≤◌, Bool, false, List, [], ◌∷◌, length, slice_index_or}
use Rattle.mars_core.specs.State.{State}
use Rattle.mars_core.specs.Leads.{Leads}
use Rattle.mars_core.specs.Record.{reverted, applied}
use Rattle.mars_core.specs.declared.record.Atom.{Atom}
use Rattle.mars_core.specs.declared.record.Work.TheVariants as work
use Rattle.mars_session.specs.Limits.{max_history}
use Rattle.mars_session.specs.History.{Place, History, first_turns, last_turns}

-- The entry that reading past the end of the list returns.
abbrev pub no_entry : Atom × Bool
no_entry = (
  record {
    work = work.SetCell;
    cells = record { items = [] };
    queued = record { items = [] };
    next_before = 0;
    next_after = 0;
    cycle_added = false;
    died = false;
  },
  false,
)

-- The entry at index `i`: the record that leads from place `i` to the next one, and the mark of the next one.
abbrev pub entry_at : List (Atom × Bool) → ℕ → Atom × Bool
entry_at es i = slice_index_or es i no_entry

-- The mark of place `n`: each place after the first has its mark beside the record that leads to it.
abbrev pub mark_at : Bool → List (Atom × Bool) → ℕ → Bool
mark_at first es zero = first
mark_at first es (suc n) = (entry_at es n).1

-- The places before place `n`, whose state is `s`, the nearest first.
abbrev pub journal_before : Bool → List (Atom × Bool) → ℕ → State → List Place
journal_before first es zero s = []
journal_before first es (suc n) s =
    record { state = reverted (entry_at es n).0 s; mark = mark_at first es n } ∷ journal_before first es n (reverted (entry_at es n).0 s)

-- The `n` places after place `from`, whose state is `s`.
abbrev pub journal_after : List (Atom × Bool) → ℕ → ℕ → State → List Place
journal_after es from zero s = []
journal_after es from (suc n) s =
    record { state = applied (entry_at es from).0 s; mark = (entry_at es from).1 } ∷ journal_after es (from + 1) n (applied (entry_at es from).0 s)

-- The history of a tape whose battle has the state `s` and is at place `at`.
abbrev pub journal_history : Bool → List (Atom × Bool) → ℕ → State → History
journal_history first es at s = record {
  before = journal_before first es at s;
  present = record { state = s; mark = mark_at first es at };
  after = journal_after es at (length es - at) s;
}

-- The first `n` records lead to `s`, the state of place `n`.
abbrev pub LeadHere : List (Atom × Bool) → ℕ → State → Type 0
LeadHere es zero s = Unit {0}
LeadHere es (suc n) s =
    Leads (reverted (entry_at es n).0 s) (entry_at es n).0 s × LeadHere es n (reverted (entry_at es n).0 s)

-- The `n` records from index `from` on lead from `s`, the state of place `from`, to the states after it.
abbrev pub LeadOn : List (Atom × Bool) → ℕ → ℕ → State → Type 0
LeadOn es from zero s = Unit {0}
LeadOn es from (suc n) s =
    Leads s (entry_at es from).0 (applied (entry_at es from).0 s) × LeadOn es (from + 1) n (applied (entry_at es from).0 s)

-- The records in `es` lead from each place to the next one; place `at` is one of these places and has the state `s`.
pub record IsJournal (es : List (Atom × Bool)) (at : ℕ) (s : State) : Type 0 where
  pub inside : at ≤ length es
  pub here : LeadHere es at s
  pub on : LeadOn es at (length es - at) s

-- `from` and `to` are the numbers of turns of the first and the last place of `h`.
pub record HasEnds (h : History) (from to : ℕ) : Type 0 where
  pub first : from ≡ first_turns h
  pub last : to ≡ last_turns h

-- A journal of at most `most` records, as `IsJournal` defines it; `most` is 1 to `max_history`.
pub record IsRing (es : List (Atom × Bool)) (most at : ℕ) (s : State) : Type 0 where
  pub journal : IsJournal es at s
  pub some : 1 ≤ most
  pub few : most ≤ max_history
  pub within : length es ≤ most
