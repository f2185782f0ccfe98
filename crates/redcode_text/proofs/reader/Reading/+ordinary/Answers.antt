use Rattle.std.proofs.Common.{◌∙◌, ◌-◌, ◌<◌, [], ap, arith, drop, length, map, sym, take, unwrap_or}
use Rattle.std.proofs.lemmas.List.{length-map, take_rest}
use Rattle.std.proofs.lemmas.Result.{err_from_is_err_and}
use Rattle.redcode_text.specs.Views.{predefined_of}
use Rattle.redcode_text.specs.Code.Readings.{parts_at, reading_of}
use Rattle.redcode_text.specs.Code.Used.{lines_under, used}
use Rattle.redcode_text.specs.Lines.{each_line, ordinary_line}
use Rattle.redcode_text.proofs.OrdinarySteps.{ordinary-fails, ordinary-plain, ordinary-used}
use Rattle.redcode_text.proofs.UsedSteps.{line-at, line-done, line-ends, line-fails, lines-done, used-is, used-length}
use Rattle.redcode_text.proofs.reader.Reading.+ordinary.Goals as goal

pub read_ordinary-returns-in-Err-clause-value : goal.read_ordinary-returns-in-Err-clause-value
read_ordinary-returns-in-Err-clause-value t c = ordinary-fails (predefined_of c.args.names.now) c.args.number c.args.tokens.now (reading_of c.args.self.now) c.args.depth c.in-Err.problem c.in-Err.ensures.value

pub read_ordinary-returns-in_default-clause-value : goal.read_ordinary-returns-in_default-clause-value
read_ordinary-returns-in_default-clause-value t c =
    rw (ordinary-plain (predefined_of c.args.names.now) c.args.number c.args.tokens.now (reading_of c.args.self.now) c.args.depth (parts_at c.args.tokens.now c.in-Ok.parts) c.in-Ok.ensures.value (sym c.in_default.ensures))
    (simp take_rest at (rw c.last_span-operation_span.ensures at c.add_ordinary.ensures.value))

pub read_ordinary-returns-clause-value : goal.read_ordinary-returns-clause-value
read_ordinary-returns-clause-value t c =
    let tokens = c.args.tokens.now in let parts = c.in-Ok.parts in let ps = predefined_of c.args.names.now in let st = reading_of c.args.self.now in
    let lines = map (λ line. line.items) c.in-Some.lines.now in
    let text =
    sym (used-is (take parts.labels_end tokens) lines (drop parts.rest_at tokens))
    ∙ (λ i. used (take parts.labels_end tokens) (unwrap_or (c.in-Some.ensures i) []) (sym (take_rest tokens parts.rest_at) i)) in
    rw (ordinary-used ps c.args.number tokens st c.args.depth (parts_at tokens parts) lines c.if-depth-eq0.false c.in-Ok.ensures.value (sym c.in-Some.ensures)
    ∙ ap (λ ls. each_line (ordinary_line ps c.args.number (c.args.depth - 1)) ls st) text)
    c.read_used.ensures.value

pub read_used-returns-in_err-read_line-clause-value : goal.read_used-returns-in_err-read_line-clause-value
read_used-returns-in_err-read_line-clause-value t c =
    let p = err_from_is_err_and c.from_residual-in_err-read_line.result c.from_residual-in_err-read_line.ensures.1 in
    let ps = predefined_of c.args.names.now in let first = reading_of c.args.self.now in let at = c.loop-at.at in let before = c.args.operation.before.now in let behind = c.args.operation.behind.now in
    let under = lines_under first c.args.operation.name in
    let inside : at < length (used before under behind) = omega (arith, used-length before under behind, ap length c.lines_under.ensures, length-map c.lines_under.result.now (λ line. line.items), c.max-count.ensures, c.loop-at-test.true) in
    let found = line-at c.args.operation.name (reading_of c.loop-at.self) first before behind at (map (λ line. line.items) c.lines_under-in-loop-at.result.now) c.in_ok-line.line.items c.deref.result.now c.loop-at.invariant.equates c.lines_under-in-loop-at.ensures c.in_ok-line.ensures c.deref.ensures.value in
    rw (p.1, p.2) (line-fails (ordinary_line ps c.args.number c.args.depth) (used before under behind) at c.deref.result.now (reading_of c.loop-at.self) _ c.in_err-read_line.field-0.0 inside found c.loop-at.invariant.same c.in_err-read_line.ensures.value)

pub read_used-returns-then-self-clause-value : goal.read_used-returns-then-self-clause-value
read_used-returns-then-self-clause-value t c =
    let ps = predefined_of c.args.names.now in let first = reading_of c.args.self.now in let at = c.loop-at.at in let before = c.args.operation.before.now in let behind = c.args.operation.behind.now in
    let under = lines_under first c.args.operation.name in
    let inside : at < length (used before under behind) = omega (arith, used-length before under behind, ap length c.lines_under.ensures, length-map c.lines_under.result.now (λ line. line.items), c.max-count.ensures, c.loop-at-test.true) in
    let found = line-at c.args.operation.name (reading_of c.loop-at.self) first before behind at (map (λ line. line.items) c.lines_under-in-loop-at.result.now) c.in_ok-line.line.items c.deref.result.now c.loop-at.invariant.equates c.lines_under-in-loop-at.ensures c.in_ok-line.ensures c.deref.ensures.value in
    line-ends (ordinary_line ps c.args.number c.args.depth) (used before under behind) at c.deref.result.now (reading_of c.loop-at.self) _ (reading_of c.read_line.new.self) inside found c.loop-at.invariant.same c.in_ok-read_line.ensures.value c.if-self.true

pub read_used-loop-at-preserved : goal.read_used-loop-at-preserved
read_used-loop-at-preserved t c =
    let ps = predefined_of c.args.names.now in let first = reading_of c.args.self.now in let at = c.loop-at.at in let before = c.args.operation.before.now in let behind = c.args.operation.behind.now in
    let under = lines_under first c.args.operation.name in
    let inside : at < length (used before under behind) = omega (arith, used-length before under behind, ap length c.lines_under.ensures, length-map c.lines_under.result.now (λ line. line.items), c.max-count.ensures, c.loop-at-test.true) in
    let found = line-at c.args.operation.name (reading_of c.loop-at.self) first before behind at (map (λ line. line.items) c.lines_under-in-loop-at.result.now) c.in_ok-line.line.items c.deref.result.now c.loop-at.invariant.equates c.lines_under-in-loop-at.ensures c.in_ok-line.ensures c.deref.ensures.value in
    record {
      same = line-done (ordinary_line ps c.args.number c.args.depth) (used before under behind) at c.deref.result.now (reading_of c.loop-at.self) _ (reading_of c.read_line.new.self) inside found c.loop-at.invariant.same c.in_ok-read_line.ensures.value c.if-self.false;
      equates = c.read_line.ensures.equates ∙ c.loop-at.invariant.equates;
    }

pub read_used-returns-clause-value : goal.read_used-returns-clause-value
read_used-returns-clause-value t c =
    let ps = predefined_of c.args.names.now in let first = reading_of c.args.self.now in let before = c.args.operation.before.now in let behind = c.args.operation.behind.now in
    let under = lines_under first c.args.operation.name in
    lines-done (ordinary_line ps c.args.number c.args.depth) (used before under behind) c.loop-at.at (reading_of c.loop-at.self) _
    (omega (arith, used-length before under behind, ap length c.lines_under.ensures, length-map c.lines_under.result.now (λ line. line.items), c.max-count.ensures, c.loop-at-test.false))
    c.loop-at.invariant.same
