-- What the code of a call that did its work says: whether its result fits the buffers.
use Rattle.std.proofs.Common.{◌≡◌, Bool, true, false, if◌then◌else◌, arith, refl}
use Rattle.mars_c.specs.Codes.{numbered}
use Rattle.mars_c.specs.declared.faults.MarsFault.{MarsFault}

abbrev given_by : Bool → MarsFault
given_by does_fit = if does_fit then numbered 0 0 else numbered 10 0

pub fits : (does_fit : Bool) → (given_by does_fit).code ≡ 0 → does_fit ≡ true
fits true zero = refl
fits false zero = let e : 10 ≡ 0 = zero in absurd (omega (arith, e))

pub is_short : (does_fit : Bool) → (given_by does_fit).code ≡ 10 → does_fit ≡ false
is_short true ten = let e : 0 ≡ 10 = ten in absurd (omega (arith, e))
is_short false ten = refl
