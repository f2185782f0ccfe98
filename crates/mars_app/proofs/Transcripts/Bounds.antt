-- A limited number of reads takes a limited number of bytes of the input.
use Rattle.std.proofs.Common.{ℕ, [], ◌+◌, ◌≤◌, List, ◌++◌, length, take, Option, arith, length-append}
use Rattle.std.proofs.lemmas.List.{length-take}
use Rattle.std.proofs.KnownBytes.{Consumes-nil, Consumes-trans}
use Rattle.std.specs.Io.KnownBytes.{Consumes}
use Rattle.mars_app.specs.Debugger.Transcript.{TakesAtMost}

module _ (n : ℕ) (a b : Option (List ℕ)) (taken : TakesAtMost n a b) where
  -- One more read takes at most the bytes of its chunk.
  pub takes_more : (m : ℕ) (c : Option (List ℕ)) (k : ℕ) (chunk : List ℕ) → n + length chunk ≤ m → Consumes b c (take k chunk) → TakesAtMost m a c
  takes_more m c k chunk h more =
      (taken.0 ++ take k chunk, Consumes-trans a b c taken.0 (take k chunk) taken.1 more, omega (arith, taken.2, h, length-append taken.0 (take k chunk), length-take k chunk))

pub takes_none : (a : Option (List ℕ)) → TakesAtMost 0 a a
takes_none a = ([], Consumes-nil a, omega arith)
