use Rattle.std.proofs.Common.{◌∙◌, Err, Some, ap, sym, arith, length-drop}
use Rattle.redcode_text.specs.declared.fault.TextProblem.TheVariants.{Duplicate}
use Rattle.redcode_text.specs.Tokens.{problem_at}
use Rattle.std.proofs.lemmas.List.{take_rest}
use Rattle.redcode_text.specs.Views.{predefined_of}
use Rattle.redcode_text.specs.Code.Readings.{reading_of}
use Rattle.redcode_text.proofs.NameSets.{may-label, name-more}
use Rattle.redcode_text.proofs.PartSteps.{operation-at, duplicate-at, other-at, end-at, label-at}
use Rattle.redcode_text.proofs.reader.Reading.parts_with.Goals as goal

pub returns-in_default : goal.returns-in_default
returns-in_default c =
    let (k, fuel, same) = c.loop-at.invariant.same in
    record {
      value = sym same ∙ other-at (predefined_of c.args.names.now) (reading_of c.args.self.now) c.args.tokens.now c.loop-at.at k _ c.loop-at.labels.items c.loop-at-test.true fuel c.in_default.not-Name;
      within = (c.loop-at.invariant.within, c.loop-at.invariant.within);
    }

pub returns-then-is_operation-clause-value : goal.returns-then-is_operation-clause-value
returns-then-is_operation-clause-value c =
    let (k, fuel, same) = c.loop-at.invariant.same in
    sym same ∙ operation-at (predefined_of c.args.names.now) (reading_of c.args.self.now) c.args.tokens.now c.loop-at.at k c.in-Name.name _ c.loop-at.labels.items c.loop-at-test.true fuel c.in-Name.is (sym c.is_operation.ensures ∙ c.if-is_operation.true)

pub returns-then-not-may_label-clause-value : goal.returns-then-not-may_label-clause-value
returns-then-not-may_label-clause-value c =
    let (k, fuel, same) = c.loop-at.invariant.same in
    rw c.at_token.ensures (sym same ∙ duplicate-at (predefined_of c.args.names.now) (reading_of c.args.self.now) c.args.tokens.now c.loop-at.at k c.in-Name.name _ c.loop-at.labels.items c.loop-at-test.true fuel c.in-Name.is (sym c.is_operation.ensures ∙ c.if-is_operation.false)
    (sym (may-label (predefined_of c.args.names.now) (reading_of c.args.self.now) c.loop-at.known c.loop-at.labels.items c.in-Name.name c.loop-at.invariant.known) ∙ sym c.may_label.ensures ∙ c.if-not-may_label.true)
    ∙ ap (λ span. Err (problem_at (Some span) Duplicate)) (sym c.span.ensures))

pub loop-at-preserved : goal.loop-at-preserved
loop-at-preserved c =
    let (k, fuel, same) = c.loop-at.invariant.same in
    record {
      within = omega (arith, simp (take_rest, length-drop) at c.colons.ensures.within);
      known = name-more c.insert.new.self c.loop-at.known c.loop-at.labels.items c.push.new.self.items c.in-Name.name c.in_ok-push.ensures.items c.in_ok-insert.ensures c.loop-at.invariant.known;
      same = rw c.in_ok-push.ensures.items (label-at (predefined_of c.args.names.now) (reading_of c.args.self.now) c.args.tokens.now c.loop-at.at k c.in-Name.name c.colons.result _ c.loop-at.labels.items _ c.loop-at-test.true fuel c.in-Name.is (sym c.is_operation.ensures ∙ c.if-is_operation.false)
          (sym (may-label (predefined_of c.args.names.now) (reading_of c.args.self.now) c.loop-at.known c.loop-at.labels.items c.in-Name.name c.loop-at.invariant.known) ∙ sym c.may_label.ensures ∙ c.if-not-may_label.false)
          (simp take_rest at c.colons.ensures.value) same);
    }

pub returns-clause-value : goal.returns-clause-value
returns-clause-value c =
    let (k, fuel, same) = c.loop-at.invariant.same in
    sym same ∙ end-at (predefined_of c.args.names.now) (reading_of c.args.self.now) c.args.tokens.now c.loop-at.at k c.loop-at.labels.items c.loop-at-test.false
