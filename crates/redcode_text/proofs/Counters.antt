-- Counters are indices into the names, and new names leave the open loops unchanged.
use Rattle.std.proofs.Common.{◌≡◌, ◌∙◌, ℕ, ◌-◌, ◌<◌, suc, List, [], ◌∷◌, length, map, reverse, Option, Some, None, option_map, refl, ap, subst, sym, arith}
use Rattle.std.proofs.lemmas.List.{get_or-reverse, length-reverse}
use Rattle.redcode_text.specs.Code.Counters.{AreThere, IsThere, open_loop, open_loops}
use Rattle.redcode_text.specs.declared.lexer.open_loops.OpenLoop as code
use Rattle.redcode_text.specs.Lines.{name_at}
use Rattle.redcode_text.specs.Tokens.{with_name}
use Rattle.redcode_text.proofs.NamesMore.{at-append, with-front}

-- ---- More names

module _ (names : List (List ℕ)) (name : List ℕ) where
  counter-kept : (o : Option ℕ) → IsThere names o → option_map (name_at (with_name names name)) o ≡ option_map (name_at names) o
  counter-kept None there = refl
  counter-kept (Some n) there =
      let (more, e) = with-front names name in ap Some (ap (λ ns. name_at ns n) e ∙ at-append names more n (there n refl))

  each-kept : (ls : List code.OpenLoop) → AreThere names ls → map (open_loop (with_name names name)) ls ≡ map (open_loop names) ls
  each-kept [] there = refl
  each-kept (l ∷ ls) there =
      λ i. record { counter = counter-kept l.counter (there 0 l (omega arith)) i; round = l.round } ∷ each-kept ls (λ k d less. there (suc k) d (omega (arith, less))) i

-- Reversing the list of loops keeps their counters among the names.
there-reversed : (names : List (List ℕ)) (ls : List code.OpenLoop) → AreThere names ls → AreThere names (reverse ls)
there-reversed names ls there k d less =
    let inside : k < length ls = omega (arith, less, length-reverse ls) in
    subst (λ (l : code.OpenLoop). IsThere names l.counter) (sym (get_or-reverse ls k d inside)) (there (length ls - 1 - k) d (omega (arith, inside)))

pub loops-kept : (names : List (List ℕ)) (name : List ℕ) (ls : List code.OpenLoop) → AreThere names ls → open_loops (with_name names name) ls ≡ open_loops names ls
loops-kept names name ls there = each-kept names name (reverse ls) (there-reversed names ls there)
