use Rattle.std.proofs.Common.{◌∙◌, ◌≤◌, arith, ap, refl}
use Rattle.std.proofs.lemmas.List.{take_all}
use Rattle.std.specs.Str.Parse.{digits_value}
use Rattle.std.proofs.lemmas.Int.Digits.{digits_value_more}
use Rattle.mars_cell.proofs.Digits.{digit_below, few_below, digit_least, digit_fits, each_digit, digit_value_at}
use Rattle.mars_cell.proofs.numbers.value.Goals as goal

pub overflow_mul-value : goal.overflow_mul-value
overflow_mul-value c = let few = c.requires.few in let fits = digit_fits c.loop-digit.value c.loop-digit.digit-index 0 c.loop-digit.invariant.below (omega arith) (omega arith) in omega (arith, fits)

pub overflow_add-value : goal.overflow_add-value
overflow_add-value c = let small : c.from.result ≤ 9 = rw c.from.ensures (each_digit c.args.digits.now c.loop-digit.digit-index c.requires.digits c.loop-digit-test.true) in let few = c.requires.few in let fits = digit_fits c.loop-digit.value c.loop-digit.digit-index c.from.result c.loop-digit.invariant.below (omega arith) small in omega (arith, fits)

pub loop-digit-preserved : goal.loop-digit-preserved
loop-digit-preserved c = let small : c.from.result ≤ 9 = rw c.from.ensures (each_digit c.args.digits.now c.loop-digit.digit-index c.requires.digits c.loop-digit-test.true) in record {
  below = digit_below c.loop-digit.value c.loop-digit.digit-index c.from.result c.loop-digit.invariant.below small;
  same = rw (digits_value_more 10 c.args.digits.now c.loop-digit.digit-index c.loop-digit-test.true, digit_value_at c.args.digits.now c.loop-digit.digit-index c.requires.digits c.loop-digit-test.true, ← c.loop-digit.invariant.same, c.from.ensures) refl;
}

pub returns-clause-value : goal.returns-clause-value
returns-clause-value c = c.loop-digit.invariant.same ∙ ap (digits_value 10) (take_all c.loop-digit.digit-index c.args.digits.now c.loop-digit-test.false)

pub returns-clause-below : goal.returns-clause-below
returns-clause-below c = let few = c.requires.few in let end = c.loop-digit.auto.digit-index-end in few_below c.loop-digit.value c.loop-digit.digit-index c.loop-digit.invariant.below (omega arith)

pub overflow_sub-digit : goal.overflow_sub-digit
overflow_sub-digit c = digit_least c.args.digits.now c.loop-digit.digit-index c.requires.digits c.loop-digit-test.true
