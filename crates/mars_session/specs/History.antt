-- A history of whole states with marks, and the operations on it. Functions with the parameters `before`, `p` and `after` take
-- the three parts of a history: the places before the present one, the present one, and those after it.
use Rattle.std.specs.Prelude.{ℕ, Bool, true, false, ◌+◌, ◌==◌, List, [], ◌∷◌, ◌++◌, length, reverse, Option, Some, None, if◌then◌else◌}
use Rattle.mars_core.specs.State.{State}

-- A place of a history: a state that was reached, and whether undo and redo stop there.
pub record Place : Type 0 where
  pub state : State
  pub mark : Bool

-- Places in order, one of which is the present one. `before` has the places before the present one, the nearest first;
-- `after` has the places after it, in order. So going one place back or forward changes only the fronts of the two
-- lists. The laws state what commands and moves do in terms of `places`, the whole list: `CommandsAppend`,
-- `UndoFindsNearest`, `RedoFindsNearest`, `GotoFindsFirst`, `MovesKeepPlaces`.
pub record History : Type 0 where
  pub before : List Place
  pub present : Place
  pub after : List Place

-- The history whose only place has the state `s` and is marked.
abbrev pub beginning : State → History
beginning s = record { before = []; present = record { state = s; mark = true }; after = [] }

-- All places of `h` in order.
abbrev pub places : History → List Place
places h = reverse h.before ++ h.present ∷ h.after

-- The number of the present place, counted from 0.
abbrev pub position_of : History → ℕ
position_of h = length h.before

-- The number of places after the present one.
abbrev pub following : History → ℕ
following h = length h.after

-- The number of the last place, counted from 0.
abbrev pub last_of : History → ℕ
last_of h = length h.before + length h.after

-- Marks the present place.
abbrev pub marked : History → History
marked h = record h { present = record { state = h.present.state; mark = true } }

-- Drops all places after the present one.
abbrev pub cut : History → History
cut h = record h { after = [] }

-- Replaces the places after the present one by an unmarked place with the state `s`, which becomes the present one.
abbrev pub append : History → State → History
append h s = record { before = h.present ∷ h.before; present = record { state = s; mark = false }; after = [] }

-- Appends an unmarked place for each state of a list in order, as `append` does.
abbrev pub append_all : History → List State → History
append_all h [] = h
append_all h (s ∷ ss) = append_all (append h s) ss

-- The history after an accepted command that reaches `s` and then `ss`: the present place is marked, the places after
-- it are dropped, these states are appended, and the last place is marked.
abbrev pub after_command : History → State → List State → History
after_command h s ss = marked (append_all (append (cut (marked h)) s) ss)

-- The history of the three parts, one place back if there is a place before `p`.
abbrev pub step_back : List Place → Place → List Place → History
step_back [] p after = record { before = []; present = p; after = after }
step_back (b ∷ before) p after = record { before = before; present = b; after = p ∷ after }

-- The history `h`, one place back if there is a place before the present one.
abbrev pub back : History → History
back h = step_back h.before h.present h.after

-- The history of the three parts, one place forward if there is a place after `p`.
abbrev pub step_forward : List Place → Place → List Place → History
step_forward before p [] = record { before = before; present = p; after = [] }
step_forward before p (a ∷ after) = record { before = p ∷ before; present = a; after = after }

-- The history `h`, one place forward if there is a place after the present one.
abbrev pub forward : History → History
forward h = step_forward h.before h.present h.after

-- Back from `p` to the nearest marked place before it, or None if there is none.
abbrev pub marked_before : List Place → Place → List Place → Option History
marked_before [] p after = None
marked_before (b ∷ before) p after =
    if b.mark then Some (record { before = before; present = b; after = p ∷ after })
    else marked_before before b (p ∷ after)

-- Back from the present place to the nearest marked place before it, or None if there is none.
abbrev pub undo : History → Option History
undo h = marked_before h.before h.present h.after

-- Forward from `p` to the nearest marked place after it, or None if there is none.
abbrev pub marked_after : List Place → Place → List Place → Option History
marked_after before p [] = None
marked_after before p (a ∷ after) =
    if a.mark then Some (record { before = p ∷ before; present = a; after = after })
    else marked_after (p ∷ before) a after

-- Forward from the present place to the nearest marked place after it, or None if there is none.
abbrev pub redo : History → Option History
redo h = marked_after h.before h.present h.after

-- The history of the three parts, with its first place as the present one.
abbrev pub rewound_from : List Place → Place → List Place → History
rewound_from [] p after = record { before = []; present = p; after = after }
rewound_from (b ∷ before) p after = rewound_from before b (p ∷ after)

-- The history `h`, with its first place as the present one.
abbrev pub rewound : History → History
rewound h = rewound_from h.before h.present h.after

-- Forward from `p` to the first place with `t` turns, or None if there is none; `p` itself is included.
abbrev pub first_at_turn_from : ℕ → List Place → Place → List Place → Option History
first_at_turn_from t before p [] =
    if p.state.turns == t then Some (record { before = before; present = p; after = [] }) else None
first_at_turn_from t before p (a ∷ after) =
    if p.state.turns == t then Some (record { before = before; present = p; after = a ∷ after })
    else first_at_turn_from t (p ∷ before) a after

-- From the present place, which is included, forward to the first place with `t` turns, or None if there is none.
abbrev pub first_at_turn : ℕ → History → Option History
first_at_turn t h = first_at_turn_from t h.before h.present h.after

-- From any place to the first place of the whole history with `t` turns, or None if there is none.
abbrev pub goto : ℕ → History → Option History
goto t h = first_at_turn t (rewound h)

-- The last place of `p` and the places after it.
abbrev pub last_place : Place → List Place → Place
last_place p [] = p
last_place p (a ∷ after) = last_place a after

-- The number of turns of the first place.
abbrev pub first_turns : History → ℕ
first_turns h = (rewound h).present.state.turns

-- The number of turns of the last place.
abbrev pub last_turns : History → ℕ
last_turns h = (last_place h.present h.after).state.turns
