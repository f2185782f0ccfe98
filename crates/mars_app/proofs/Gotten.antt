-- What the getters of `clap` return, as functions of the text of an option.
use Rattle.std.specs.Prelude.{◌≡◌, ℕ, ◌<◌, ◌≤◌, take, ◌^◌, Bool, true, false, ◌&&◌, map, option_map, nat_lt, List, [], ◌∷◌, length, Option, None, Some, Result, Ok, Err, codes, option_and_then, if◌then◌else◌}
use Rattle.std.specs.Borrow.{Bor}
use Rattle.std.specs.Char.{digit_value}
use Rattle.std.specs.List.{list_all}
use Rattle.std.specs.Option.{option_map_or, unwrap_or}
use Rattle.std.specs.Str.{bytes_eq}
use Rattle.std.specs.Str.Parse.{AllDigits, IsNumeral, ParsesBool, ParsesUnsigned, digits_value, without_leading_plus}
use Rattle.std.proofs.Common.{◌∙◌, ap, refl, sym}
use Rattle.std.proofs.lemmas.Bool.{lt-ltb, ltb-true}
use Rattle.std.proofs.lemmas.List.{take_all}
use Rattle.std.proofs.lemmas.Slice.Eq.{bytes_eq-Decides}
use Rattle.clap.proofs.WalkLemmas.{both}
use Rattle.clap.specs.Matches.{ReadsOne}
use Rattle.clap.specs.ValueTests.{is_numeral}
use Rattle.clap.specs.Walk.{Text}
use Rattle.mars_app.specs.Options.{number_of}

all_digits : (ds : List ℕ) → list_all (λ d. nat_lt (digit_value d) 10) ds ≡ true → AllDigits 10 ds
all_digits [] e = tt
all_digits (d ∷ ds) e =
    let parts = both _ _ e in
    (ltb-true _ _ parts.0, all_digits ds parts.1)

each_digit : (ds : List ℕ) → AllDigits 10 ds → list_all (λ d. nat_lt (digit_value d) 10) ds ≡ true
each_digit [] h = refl
each_digit (d ∷ ds) h = rw (lt-ltb (digit_value d) 10 h.0) (each_digit ds h.1)

-- Whether a text is a number of 32 bits.
abbrev fits : Text → Bool
fits text = is_numeral (without_leading_plus text) && nat_lt (digits_value 10 (without_leading_plus text)) (2 ^ 32)

fitting : (text : Text) → IsNumeral 10 (without_leading_plus text) × (digits_value 10 (without_leading_plus text) < 2 ^ 32) → fits text ≡ true
fitting text h = rw (lt-ltb _ _ h.0.0, each_digit _ h.0.1, lt-ltb _ _ h.1) refl

fitted : (text : Text) → fits text ≡ true → IsNumeral 10 (without_leading_plus text) × (digits_value 10 (without_leading_plus text) < 2 ^ 32)
fitted text e =
    let parts = both _ _ e in
    let numeral = both _ _ parts.0 in
    ((ltb-true _ _ numeral.0, all_digits _ numeral.1), ltb-true _ _ parts.1)

number_parsed : (E : Type 0) (text : Text) (r : Option ℕ) → ReadsOne {T = ℕ} {E = E} (ParsesUnsigned 32 10) text r → r ≡ number_of text
number_parsed E text (Some n) h = rw (fitting text h.0) (ap (λ x. Some x) h.1)
number_parsed E text None h = go (fits text) refl
  where
    go : (b : Bool) → fits text ≡ b → None ≡ (if b then Some (digits_value 10 (without_leading_plus text)) else None)
    go true e = absurd (h.1 (fitted text e))
    go false e = refl

-- What `get_one` reads as a number.
pub number_read : {E : Type 0} (G : List ℕ → Result ℕ E → Type 0) (text : Option Text) (r : Option ℕ)
    → ((t : Text) (x : Result ℕ E) → G t x → ParsesUnsigned 32 10 t x)
    → (text ≡ None → r ≡ None) → ((t : Text) → text ≡ Some t → ReadsOne G t r) → r ≡ option_and_then number_of text
number_read G None r parses none some = none refl
number_read {E = E} G (Some t) r parses none some = number_parsed E t r (parsed r (some t refl))
  where
    parsed : (given : Option ℕ) → ReadsOne G t given → ReadsOne {T = ℕ} {E = E} (ParsesUnsigned 32 10) t given
    parsed (Some n) h = parses t (Ok n) h
    parsed None h = (h.0, parses t (Err h.0) h.1)

-- What `get_one` reads as a Boolean: false for a missing text and for every text except `true`.
pub flag_read : (E : Type 0) (text : Option Text) (r : Option Bool) → (text ≡ None → r ≡ None)
    → ((t : Text) → text ≡ Some t → ReadsOne {T = Bool} {E = E} ParsesBool t r)
    → unwrap_or r false ≡ option_map_or (λ t. bytes_eq t (codes "true")) text false
flag_read E None r none some = ap (λ given. unwrap_or given false) (none refl)
flag_read E (Some t) r none some = parsed r (some t refl)
  where
    other : (b : Bool) → (b ≡ true → ⊥) → false ≡ b
    other true h = absurd (h refl)
    other false h = refl

    parsed : (given : Option Bool) → ReadsOne {T = Bool} {E = E} ParsesBool t given → unwrap_or given false ≡ bytes_eq t (codes "true")
    parsed (Some true) h = sym ((bytes_eq-Decides t (codes "true")).1 h)
    parsed (Some false) h = other _ (λ e. let bad : codes "true" ≡ codes "false" = sym ((bytes_eq-Decides t (codes "true")).0 e) ∙ h in cc)
    parsed None h = other _ (λ e. absurd (h.1.0 ((bytes_eq-Decides t (codes "true")).0 e)))

-- The text that `get_str` returns, or the text `other` if it returns none.
pub text_or_none : (r : Option (Bor Text)) (other : Bor Text) (o : Option Text) → option_map (λ s. s.now) r ≡ o → (unwrap_or r other).now ≡ unwrap_or o other.now
text_or_none (Some t) other o is = ap (λ given. unwrap_or given other.now) is
text_or_none None other o is = ap (λ given. unwrap_or given other.now) is

pub all_taken : (names : List (Bor Text)) (n : ℕ) → length names ≤ n → map (λ (name : Bor Text). name.now) (take n names) ≡ map (λ (name : Bor Text). name.now) names
all_taken names n all = ap (map (λ (name : Bor Text). name.now)) (take_all n names all)
