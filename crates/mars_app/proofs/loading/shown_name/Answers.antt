use Rattle.std.proofs.Common.{◌≡◌, ◌∙◌, ℕ, List, [], ◌∷◌, ◌++◌, flat_map, sym, ap, append-nil, map-id, string_bytes}
use Rattle.std.proofs.lemmas.Iterator.{YieldsList-from_chars}
use Rattle.std.proofs.lemmas.Iterator.Consumers.{YieldsList-end}
use Rattle.std.proofs.lemmas.Grind.{flat_map-append}
use Rattle.std.specs.Prelude.{encode_utf8}
use Rattle.mars_app.specs.Loading.{shown_character}
use Rattle.mars_app.proofs.loading.shown_name.Goals as goal

flat_map-push : (f : ℕ → List ℕ) (xs : List ℕ) (x : ℕ) → flat_map f (xs ++ x ∷ []) ≡ flat_map f xs ++ f x
flat_map-push f xs x = flat_map-append f xs (x ∷ []) ∙ ap (λ bytes. flat_map f xs ++ bytes) (append-nil (f x))

pub loop-character-preserved : goal.loop-character-preserved
loop-character-preserved c =
    let shown = λ (ch : ℕ). encode_utf8 (shown_character ch) in
    let one : string_bytes c.push.new.self ≡ string_bytes c.loop-character.shown ++ shown c.in-Some.character =
    c.in_ok-push.ensures.bytes ∙ ap (λ ch. string_bytes c.loop-character.shown ++ encode_utf8 ch) c.shown_character.ensures in
    one ∙ ap (λ bytes. bytes ++ shown c.in-Some.character) c.loop-character.invariant ∙ sym (flat_map-push shown c.loop-character.yielded c.in-Some.character)

pub returns : goal.returns
returns c =
    let end = YieldsList-end (YieldsList-from_chars c.args.name.now c.utf8.name cc) c.loop-character.yielded _ c.loop-character.yielded_by _ _ c.in-None.is c.next.ensures.steps in
    c.loop-character.invariant ∙ ap (flat_map (λ ch. encode_utf8 (shown_character ch))) (sym (map-id c.loop-character.yielded) ∙ end.0)
