-- What several writes did, one after another, if one of them failed.
--
-- A failed allocation and a failed write have one statement (`WriteCutShort`): writing failed in the first of several
-- texts, in the last one, in one between these, or after the whole text.
use Rattle.std.proofs.Common.{◌≡◌, ℕ, ◌+◌, List, ◌++◌, length, take, Option, Result, Ok, Err, IfErr, inl, inr, arith, length-append}
use Rattle.std.proofs.Math.Seq.{take-append-add}
use Rattle.std.proofs.lemmas.List.{take-append-le, take_all}
use Rattle.std.proofs.KnownBytes.{Appends-trans}
use Rattle.std.specs.Io.KnownBytes.{Appends}
use Rattle.mars_cell.specs.Output.{CutShort}
use Rattle.mars_cell.proofs.CallerLemmas.{CutShort-back, CutShort-front}
use Rattle.mars_app.specs.Contests.{WriteCutShort}
use Rattle.mars_app.specs.declared.fault.RunFault.{RunFault}
use Rattle.mars_app.specs.declared.fault.RunFault.TheVariants.{Output, OutOfMemory}

-- Writing failed in the last text, which has a write of its own.
pub last_breaks : (result : Result (Unit {0}) RunFault) (a b c : Option (List ℕ)) (x y : List ℕ) → Appends a b x →
    IfErr result (λ fault. (fault ≡ Output) × CutShort b c y) → IfErr result (λ fault. WriteCutShort fault a c (x ++ y))
last_breaks (Ok u) a b c x y before w = tt
last_breaks (Err fault) a b c x y before w = inl (w.0, CutShort-back a b c x y before w.1)

module _ (fault : RunFault) where
  -- Writing failed in the first of two texts.
  pub WriteCutShort-front : (a b : Option (List ℕ)) (x y : List ℕ) → WriteCutShort fault a b x → WriteCutShort fault a b (x ++ y)
  WriteCutShort-front a b x y (inl w) = inl (w.0, CutShort-front a b x y w.1)
  WriteCutShort-front a b x y (inr w) =
      let same : take w.1 (x ++ y) ≡ take w.1 x = take-append-le w.1 x y w.2 in
      inr (w.0, w.1, (omega (arith, w.2, length-append x y)), rw same w.3)

  -- A text was written, and writing failed in the next one.
  pub WriteCutShort-back : (a b c : Option (List ℕ)) (x y : List ℕ) → Appends a b x → WriteCutShort fault b c y → WriteCutShort fault a c (x ++ y)
  WriteCutShort-back a b c x y before (inl w) = inl (w.0, CutShort-back a b c x y before w.1)
  WriteCutShort-back a b c x y before (inr w) =
      let same : take (length x + w.1) (x ++ y) ≡ x ++ take w.1 y = take-append-add x y w.1 in
      inr (w.0, length x + w.1, (omega (arith, w.2, length-append x y)), rw same (Appends-trans a b c x (take w.1 y) before w.3))

  -- A text was written, and writing failed in the next one, which is not the last.
  pub WriteCutShort-after : (a b c : Option (List ℕ)) (x y z : List ℕ) → Appends a b x → WriteCutShort fault b c y → WriteCutShort fault a c (x ++ (y ++ z))
  WriteCutShort-after a b c x y z before cut = WriteCutShort-back a b c x (y ++ z) before (WriteCutShort-front b c y z cut)

-- The whole text was written, and then an allocation failed.
pub whole_breaks : (fault : RunFault) (a b : Option (List ℕ)) (x : List ℕ) → fault ≡ OutOfMemory → Appends a b x → WriteCutShort fault a b x
whole_breaks fault a b x e w =
    let whole : take (length x) x ≡ x = take_all (length x) x (omega arith) in
    inr (e, length x, omega arith, rw whole w)
