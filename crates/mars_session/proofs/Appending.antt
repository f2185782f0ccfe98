-- Appending places one by one and evicting after each gives the same as appending all places and evicting once.
use Rattle.std.proofs.Common.{◌≡◌, ℕ, zero, suc, ◌<◌, ◌≤◌, Bool, true, false, List, [], ◌∷◌, length, take, Option, None, Some, Ok, refl, ap, ◌∙◌, arith, nat_lt}
use Rattle.std.specs.Prelude.{◌||◌}
use Rattle.std.proofs.lemmas.Bool.{ltb-true, ltb-false, lt-ltb}
use Rattle.mars_core.specs.State.{State}
use Rattle.mars_session.specs.declared.calls.Standing.{Standing}
use Rattle.mars_session.specs.declared.calls.Refusal.{Refusal}
use Rattle.mars_session.specs.History.{Place, History, cut, marked, append, append_all}
use Rattle.mars_session.specs.Retention.{Retention, left, retained, too_many, retention_after}
use Rattle.mars_session.specs.Script.{standing_of, appended}
use Rattle.mars_session.specs.Code.Appending.{Kept, go_on, go_on_all}

pub take_fewer : {X : Type 0} (k : ℕ) (xs : List X) → take k (take (suc k) xs) ≡ take k xs
take_fewer zero xs = refl
take_fewer (suc k) [] = refl
take_fewer (suc k) (x ∷ xs) = ap (λ ys. x ∷ ys) (take_fewer k xs)

take_again : (k : ℕ) (p : Place) (ps : List Place) → take k (p ∷ take k ps) ≡ take k (p ∷ ps)
take_again zero p ps = refl
take_again (suc k) p ps = ap (λ (qs : List Place). p ∷ qs) (take_fewer k ps)

left_again : (most : Option ℕ) (p : Place) (ps : List Place) → left most (p ∷ left most ps) ≡ left most (p ∷ ps)
left_again None p ps = refl
left_again (Some k) p ps = take_again k p ps

pub take_all : {X : Type 0} (k : ℕ) (xs : List X) → length xs ≤ k → take k xs ≡ xs
take_all zero [] l = refl
take_all zero (x ∷ xs) l = absurd (omega arith)
take_all (suc k) [] l = refl
take_all (suc k) (x ∷ xs) l = ap (λ ys. x ∷ ys) (take_all k xs (omega arith))

or_again : (f b c d : Bool) → (b ≡ true → d ≡ true) → (b ≡ false → c ≡ d) → (f || b) || c ≡ f || d
or_again true b c d y n = refl
or_again false true c d y n = sym_of (y refl)
  where
    sym_of : d ≡ true → true ≡ d
    sym_of e = cc
or_again false false c d y n = n refl

noted_again : (most : Option ℕ) (f : Bool) (ps : List Place) → (f || too_many most (length ps)) || too_many most (suc (length (left most ps))) ≡ f || too_many most (suc (length ps))
noted_again None true ps = refl
noted_again None false ps = refl
noted_again (Some k) f ps =
    or_again f (nat_lt k (length ps)) (nat_lt k (suc (length (take k ps)))) (nat_lt k (suc (length ps)))
    (λ e. let l : k < length ps = ltb-true k (length ps) e in lt-ltb k (suc (length ps)) (omega (arith, l)))
    (λ e. let l : length ps ≤ k = ltb-false k (length ps) e in rw (take_all k ps l) refl)

go_on_twice : (h : History) (m : Retention) (s t : State) → go_on (go_on (record { history = h; retention = m }) s) t ≡ go_on (record { history = append h s; retention = m }) t
go_on_twice h m s t =
    rw (left_again m.most (record { state = s; mark = false }) (h.present ∷ h.before), noted_again m.most m.forgotten (h.present ∷ h.before)) refl

-- Appending at least one place: evicting after each append gives the same as evicting once at the end.
pub all_kept : (h : History) (m : Retention) (s : State) (ss : List State)
    → go_on_all (go_on (record { history = h; retention = m }) s) ss ≡ record { history = retained m.most (append_all (append h s) ss); retention = retention_after m (append_all (append h s) ss) }
all_kept h m s [] = refl
all_kept h m s (t ∷ ss) = ap (λ (k : Kept). go_on_all k ss) (go_on_twice h m s t) ∙ all_kept (append h s) m t ss

-- A command for which there is room has the specified outcome.
pub command_made : (m n : Retention) (h end : History) (s : State) (ss : List State) (o : Option Refusal) (one all : Kept) (standing : Standing)
    → o ≡ None → one ≡ go_on (record { history = cut (marked h); retention = m }) s → all ≡ go_on_all one ss → end ≡ marked all.history → n ≡ all.retention → standing ≡ standing_of end
    → appended m h (s, ss) o ≡ record { history = end; retention = n; reply = Ok standing }
command_made m n h end s ss o one all standing room first others marks remembers stands =
    let made = others ∙ ap (λ (k : Kept). go_on_all k ss) first ∙ all_kept (cut (marked h)) m s ss in
    rw (room, stands, marks, remembers, made) refl
