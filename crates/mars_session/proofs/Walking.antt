-- What steps back and forward preserve, the history from its first place, and moves without a target.
use Rattle.std.proofs.Common.{◌≡◌, ℕ, zero, suc, ◌+◌, ◌<◌, ◌≤◌, List, [], ◌∷◌, length, Some, None, refl, ap, sym, ◌∙◌, arith, eq-eqb}
use Rattle.mars_session.specs.History.{Place, History, position_of, following, last_of, step_back, back, step_forward, forward, marked_before, undo, marked_after, redo, rewound_from, rewound, first_at_turn_from, first_at_turn, last_place, last_turns}

-- A step back keeps the places and their order.
rewound_step_back : (before : List Place) (p : Place) (after : List Place) → rewound (step_back before p after) ≡ rewound_from before p after
rewound_step_back [] p after = refl
rewound_step_back (b ∷ before) p after = refl

pub rewound_back : (h : History) → rewound (back h) ≡ rewound h
rewound_back h = rewound_step_back h.before h.present h.after

rewound_step_forward : (before : List Place) (p : Place) (after : List Place) → rewound (step_forward before p after) ≡ rewound_from before p after
rewound_step_forward before p [] = refl
rewound_step_forward before p (a ∷ after) = refl

pub rewound_forward : (h : History) → rewound (forward h) ≡ rewound h
rewound_forward h = rewound_step_forward h.before h.present h.after

position_step_forward : (before : List Place) (p : Place) (after : List Place) → 0 < length after → position_of (step_forward before p after) ≡ length before + 1
position_step_forward before p [] h = absurd (omega arith)
position_step_forward before p (a ∷ after) h = omega arith

pub position_forward : (h : History) → 0 < following h → position_of (forward h) ≡ position_of h + 1
position_forward h = position_step_forward h.before h.present h.after

-- The number of the last place, counted from the first place.
last_rewound_from : (before : List Place) (p : Place) (after : List Place) → following (rewound_from before p after) ≡ length before + length after
last_rewound_from [] p after = omega arith
last_rewound_from (b ∷ before) p after = last_rewound_from before b (p ∷ after) ∙ omega arith

pub last_rewound : (h : History) → following (rewound h) ≡ last_of h
last_rewound h = last_rewound_from h.before h.present h.after

-- Histories of the same places have the same number of the last place.
pub same_last : (h k : History) → rewound h ≡ rewound k → last_of h ≡ last_of k
same_last h k e = sym (last_rewound h) ∙ ap following e ∙ last_rewound k

-- `n` places forward.
forwards : ℕ → History → History
forwards zero h = h
forwards (suc n) h = forward (forwards n h)

forwards_rewound_from : (before : List Place) (p : Place) (after : List Place) → forwards (length before) (rewound_from before p after) ≡ record { before = before; present = p; after = after }
unfolding forwards
forwards_rewound_from [] p after = refl
forwards_rewound_from (b ∷ before) p after = ap forward (forwards_rewound_from before b (p ∷ after))

-- A history is determined by its places and its position.
pub same_place : (h k : History) → rewound h ≡ rewound k → position_of h ≡ position_of k → h ≡ k
same_place h k e n =
    let there = forwards_rewound_from h.before h.present h.after in
    let here = forwards_rewound_from k.before k.present k.after in
    sym there ∙ ap (λ m. forwards m (rewound h)) n ∙ ap (forwards (position_of k)) e ∙ here

-- No place is before the first place.
pub rewound_first : (before : List Place) (p : Place) (after : List Place) → (rewound_from before p after).before ≡ []
rewound_first [] p after = refl
rewound_first (b ∷ before) p after = rewound_first before b (p ∷ after)

rewound_at_first : (h : History) → h.before ≡ [] → rewound h ≡ h
rewound_at_first h e = rw (ap (λ (b : List Place). rewound_from b h.present h.after) e) (ap (λ (b : List Place). record { before = b; present = h.present; after = h.after }) (sym e))

-- Rewinding twice is the same as rewinding once.
pub rewound_again : (h : History) → rewound (rewound h) ≡ rewound h
rewound_again h = rewound_at_first (rewound h) (rewound_first h.before h.present h.after)

pub position_rewound : (h : History) → position_of (rewound h) ≡ 0
position_rewound h = ap length (rewound_first h.before h.present h.after)

undo_nothing : (before : List Place) (p : Place) (after : List Place) → length before ≤ 0 → marked_before before p after ≡ None
undo_nothing [] p after h = refl
undo_nothing (b ∷ before) p after h = absurd (omega arith)

pub undo_none : (h : History) → position_of h ≤ 0 → undo h ≡ None
undo_none h = undo_nothing h.before h.present h.after

redo_nothing : (before : List Place) (p : Place) (after : List Place) → length after ≤ 0 → marked_after before p after ≡ None
redo_nothing before p [] h = refl
redo_nothing before p (a ∷ after) h = absurd (omega arith)

pub redo_none : (h : History) → following h ≤ 0 → redo h ≡ None
redo_none h = redo_nothing h.before h.present h.after

turned_here_from : (t : ℕ) (before : List Place) (p : Place) (after : List Place) → p.state.turns ≡ t
    → first_at_turn_from t before p after ≡ Some (record { before = before; present = p; after = after })
turned_here_from t before p [] e = rw (eq-eqb p.state.turns t e) refl
turned_here_from t before p (a ∷ after) e = rw (eq-eqb p.state.turns t e) refl

pub turned_here : (t : ℕ) (h : History) → h.present.state.turns ≡ t → first_at_turn t h ≡ Some h
turned_here t h = turned_here_from t h.before h.present h.after

last_rewound_place : (before : List Place) (p : Place) (after : List Place) → last_turns (rewound_from before p after) ≡ (last_place p after).state.turns
last_rewound_place [] p after = refl
last_rewound_place (b ∷ before) p after = last_rewound_place before b (p ∷ after)

pub last_turns_rewound : (h : History) → last_turns (rewound h) ≡ last_turns h
last_turns_rewound h = last_rewound_place h.before h.present h.after
