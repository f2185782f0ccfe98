-- The sum of a candidate after one more match, and the sums of all candidates.
use Rattle.std.proofs.Common.{◌≡◌, ℕ, ◌+◌, ◌^◌, ℤ, pos, negsuc, neg_ℤ, ◌≤ℤ◌, List, [], ◌++◌, Err, Ok, Result, refl, sym, subst, true, arith}
use Rattle.std.proofs.lemmas.Bool.{ltb-true}
use Rattle.std.proofs.lemmas.Int.{ints}
use Rattle.redcode_text.specs.Results.{◌>>=◌}
use Rattle.mars_match.specs.Code.Tallies.{IsOf, IsSumOf, max_rounds, summed}
use Rattle.mars_match.specs.Rounds.{fits_in_64}
use Rattle.mars_match.specs.declared.fault.MatchFault.{MatchFault}
use Rattle.mars_match.specs.declared.table.Sum.{Sum}
use Rattle.mars_match.specs.declared.table.Tally.{Tally}

-- ---- One more match

fitting_low : (z : ℤ) → fits_in_64 z ≡ true → neg_ℤ (pos (2 ^ 63)) ≤ℤ z
fitting_low (pos n) e = omega (arith, ints)
fitting_low (negsuc n) e = omega (arith, ints, ltb-true n (2 ^ 63) e)

fitting_high : (z : ℤ) → fits_in_64 z ≡ true → z ≤ℤ pos (2 ^ 63)
fitting_high (pos n) e = omega (arith, ints, ltb-true n (2 ^ 63) e)
fitting_high (negsuc n) e = omega (arith, ints)

pub added_bounds : (k : ℕ) (sum more : Sum) (t : Tally) → more ≡ summed sum t → IsSumOf k sum → IsOf max_rounds t → fits_in_64 t.points ≡ true →
    IsSumOf (k + 1) more
added_bounds k sum more t is x y fits = subst (IsSumOf (k + 1)) (sym is) (record {
  low = omega (arith, ints, x.low, fitting_low t.points fits);
  high = omega (arith, ints, x.high, fitting_high t.points fits);
  wins = omega (arith, x.wins, y.wins);
  ties = omega (arith, x.ties, y.ties);
  losses = omega (arith, x.losses, y.losses);
})

-- ---- All candidates

abbrev pub before : List Sum → Result (List Sum) MatchFault → Result (List Sum) MatchFault
before sums others = others >>= λ more. Ok (sums ++ more)

pub none_before : (others : Result (List Sum) MatchFault) → before [] others ≡ others
none_before (Ok more) = refl
none_before (Err fault) = refl
