-- The values of tapes, the histories that can occur on tapes, and the records that lead from place to place.
use Rattle.std.specs.Prelude.{◌≡◌, ◌≤◌, ◌+◌, ℕ, zero, suc, Bool, true, false, List, [], ◌∷◌, None, ◌⊎◌}
use Rattle.mars_core.specs.State.{State, is_over_of}
use Rattle.mars_core.specs.Turn.{turn_of}
use Rattle.mars_core.specs.Edit.{edit_fault, edited}
use Rattle.mars_core.specs.Validity.{IsValid}
use Rattle.mars_core.specs.declared.battle.edit.Edit.{Edit}
use Rattle.mars_core.specs.declared.record.Atom.{Atom}
use Rattle.mars_core.specs.Leads.{Leads}
use Rattle.mars_session.specs.History.{Place, History, last_of, rewound, last_place}

-- A tape that keeps all places: its history, and the number of places that it can append without allocating, once the
-- places after the present one are dropped.
pub record TapeValue : Type 0 where
  pub history : History
  pub room : ℕ

-- A tape that evicts places: its history, the maximum number of places that it keeps beside the last one, and whether a
-- place was ever evicted.
pub record RingTapeValue : Type 0 where
  pub history : History
  pub most : ℕ
  pub forgotten : Bool

-- `t` is the state after a turn of `s`, or after an edit of `s`.
abbrev pub Follows : State → State → Type 0
Follows s t = ((is_over_of s ≡ false) × (t ≡ turn_of s)) ⊎ ((e : Edit) × (edit_fault s e ≡ None) × (t ≡ edited s e))

-- The states of `before`, the nearest first, lead up to `s` one after another, and the earliest state is valid.
abbrev pub FollowsAll : List Place → State → Type 0
FollowsAll [] s = IsValid s
FollowsAll (b ∷ before) s = Follows b.state s × FollowsAll before b.state

-- The first place follows `s`, and each other place follows the one before it.
abbrev pub AllFollow : State → List Place → Type 0
AllFollow s [] = Unit {0}
AllFollow s (a ∷ after) = Follows s a.state × AllFollow a.state after

-- The places of `h` follow one another, and the first one is valid.
pub record Steps (h : History) : Type 0 where
  pub before : FollowsAll h.before h.present.state
  pub after : AllFollow h.present.state h.after

-- The places of `h` follow one another, and the first and the last one are marked.
pub record IsTape (h : History) : Type 0 where
  pub steps : Steps h
  pub first : (rewound h).present.mark ≡ true
  pub last : (last_place h.present h.after).mark ≡ true

-- A tape `h` with at most `n` places before the last one. The first place of `h` need not be marked.
pub record IsTapeOf (n : ℕ) (h : History) : Type 0 where
  pub steps : Steps h
  pub last : (last_place h.present h.after).mark ≡ true
  pub within : last_of h ≤ n

-- `number` never falls from `s` along the places, and rises by at most one from place to place.
abbrev pub RisesFrom : (State → ℕ) → State → List Place → Type 0
RisesFrom number s [] = Unit {0}
RisesFrom number s (p ∷ ps) = (number s ≤ number p.state) × (number p.state ≤ number s + 1) × RisesFrom number p.state ps

-- The numbers of turns never fall from the first place on, and rise by at most one from place to place.
abbrev pub TurnsRise : History → Type 0
TurnsRise h = RisesFrom (λ (s : State). s.turns) (rewound h).present.state (rewound h).after

-- The record `atom` leads from place `i` to the next one; `p` is place 0, and the places of the list follow it.
abbrev pub LeadsFrom : Place → List Place → ℕ → Atom → Type 0
LeadsFrom p [] i atom = ⊥
LeadsFrom p (q ∷ ps) zero atom = Leads p.state atom q.state
LeadsFrom p (q ∷ ps) (suc i) atom = LeadsFrom q ps i atom

-- The record `atom` leads from place `i` of the list to place `i + 1`.
abbrev pub LeadsAt : List Place → ℕ → Atom → Type 0
LeadsAt [] i atom = ⊥
LeadsAt (p ∷ ps) i atom = LeadsFrom p ps i atom
