use Rattle.std.proofs.Common.{arith, refl}
use Rattle.redcode_text.proofs.reader.Reading.new.Goals as goal

pub invariant_of-result-clause-few_lines : goal.invariant_of-result-clause-few_lines
invariant_of-result-clause-few_lines c = omega arith

pub invariant_of-result-clause-known_labels : goal.invariant_of-result-clause-known_labels
invariant_of-result-clause-known_labels c = rw (c.new-4.ensures, c.new-3.ensures.items) (λ n. refl)
