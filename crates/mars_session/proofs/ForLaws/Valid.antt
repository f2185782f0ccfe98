-- Each place of a tape has a valid state.
use Rattle.std.proofs.Common.{◌≡◌, List, [], ◌∷◌, ◌++◌, ap, sym, ◌∙◌, arith, inl, inr}
use Rattle.std.specs.Prelude.{All, reverse}
use Rattle.std.proofs.lemmas.List.Elements.{All-cons}
use Rattle.mars_core.specs.State.{State}
use Rattle.mars_core.specs.Validity.{IsValid}
use Rattle.mars_core.specs.Laws.{TurnsStayValid, EditsStayValid}
use Rattle.mars_session.specs.History.{Place, History, places, rewound_from, rewound}
use Rattle.mars_session.specs.Tapes.{Follows, FollowsAll, AllFollow}
use Rattle.mars_session.specs.Laws.{PlacesAreValid}
use Rattle.mars_session.proofs.Walking.{rewound_first}
use Rattle.mars_session.proofs.Places.{places_rewound}
use Rattle.mars_session.proofs.Between.{AllFollow-rewound}

pub follows_valid : TurnsStayValid → EditsStayValid → (s t : State) → Follows s t → IsValid s → IsValid t
follows_valid turns edits s t (inl h) v = rw h.1 (turns s v h.0)
follows_valid turns edits s t (inr h) v = rw h.2 (edits s h.0 v h.1)

all_valid : TurnsStayValid → EditsStayValid → (s : State) (ps : List Place) → IsValid s → AllFollow s ps → All (λ (p : Place). IsValid p.state) ps
all_valid turns edits s [] v a = λ k d l. absurd (omega (arith, l))
all_valid turns edits s (p ∷ ps) v a =
    let here = follows_valid turns edits s p.state a.0 v in
    All-cons (λ (q : Place). IsValid q.state) p ps here (all_valid turns edits p.state ps here a.1)

first_valid : (before : List Place) (p : Place) (after : List Place) → FollowsAll before p.state → IsValid (rewound_from before p after).present.state
first_valid [] p after v = v
first_valid (b ∷ before) p after f = first_valid before b (p ∷ after) f.1

pub places_are_valid : TurnsStayValid → EditsStayValid → PlacesAreValid
places_are_valid turns edits h t =
    let r : History = rewound h in
    let first : r.before ≡ [] = rewound_first h.before h.present h.after in
    let all : places h ≡ r.present ∷ r.after = sym (places_rewound h.before h.present h.after) ∙ ap (λ (b : List Place). reverse b ++ r.present ∷ r.after) first in
    let v = first_valid h.before h.present h.after t.before in
    rw all (All-cons (λ (q : Place). IsValid q.state) r.present r.after v
    (all_valid turns edits r.present.state r.after v (AllFollow-rewound h.before h.present h.after t.before t.after)))
