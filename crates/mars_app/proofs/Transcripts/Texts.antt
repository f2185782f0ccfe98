-- Texts one after another, and a writer that failed in one of them.
use Rattle.std.proofs.Common.{◌≡◌, refl, ℕ, zero, suc, ◌+◌, ◌<◌, List, [], ◌++◌, Option, ◌⊎◌, inl, inr, arith, append_assoc, add-one, append-nil}
use Rattle.mars_cell.specs.Output.{CutShort}
use Rattle.mars_cell.proofs.CallerLemmas.{CutShort-front}
use Rattle.mars_app.specs.Debugger.Readings.{texts}

pub four_texts : (x y z last : List ℕ) → x ++ ((y ++ z) ++ last) ≡ (x ++ y) ++ (z ++ last)
four_texts x y z last = rw (append_assoc y z last, append_assoc x y (z ++ last)) refl

-- ---- Texts by number

module _ (f : ℕ → List ℕ) where
  pub texts-one_more : (i : ℕ) → texts f (i + 1) ≡ texts f i ++ f i
  unfolding texts
  texts-one_more i = rw add-one refl

  below_suc : (i n : ℕ) → i < suc n → (i < n) ⊎ (i ≡ n)
  below_suc i n h = grind arith

  -- The texts consist of those before text `i`, text `i`, and the rest.
  pub texts-around : (n i : ℕ) → i < n → (rest : List ℕ) × (texts f n ≡ texts f i ++ (f i ++ rest))
  unfolding texts
  texts-around zero i h = absurd (omega arith)
  texts-around (suc n) i h = elim (below_suc i n h) [
    | inl below ↦ let r = texts-around n i below in (r.0 ++ f n, rw (r.1, append_assoc, append_assoc) refl)
    | inr e ↦ ([], rw (e, append-nil) refl)
  ]

  -- If the writer failed within the texts before text `i`, it failed within the first `n` texts.
  pub texts_begun : (a b : Option (List ℕ)) (n i : ℕ) → CutShort a b (texts f i) → i < n → CutShort a b (texts f n)
  texts_begun a b n i cut inside = let r = texts-around n i inside in rw r.1 (CutShort-front a b (texts f i) (f i ++ r.0) cut)
