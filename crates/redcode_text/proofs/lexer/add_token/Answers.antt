use Rattle.std.proofs.Common.{◌+◌, ◌∙◌, Err, ap, sym, arith}
use Rattle.redcode_text.specs.declared.fault.TextProblem.TheVariants.{TooLong}
use Rattle.redcode_text.specs.Tokens.{problem_at, span_at}
use Rattle.redcode_text.proofs.Scans.{measured, one-fails, one-full, one-ok}
use Rattle.redcode_text.specs.Views.{scan_of}
use Rattle.redcode_text.specs.Code.SourceLoops.{loops_of}
use Rattle.redcode_text.specs.Code.Scanning.{with_names}
use Rattle.redcode_text.proofs.lexer.add_token.Goals as goal

pub returns-in-Err-clause-value : goal.returns-in-Err-clause-value
returns-in-Err-clause-value c =
    let text = c.args.text in
    rw c.at_token.ensures (one-fails (loops_of c.args.names.now) text.number c.args.room (text.at + c.args.at) c.args.at text.bytes.now (scan_of c.args.tokens.now c.args.names.now.table) c.in-Err.problem c.span_at.result (c.span_at.ensures ∙ ap (span_at (text.at + c.args.at)) c.unread_len.ensures.value) c.in-Err.ensures.value)

pub returns-then-len-room-clause-value : goal.returns-then-len-room-clause-value
returns-then-len-room-clause-value c =
    let text = c.args.text in let tokens = c.args.tokens.now in
    rw c.at_token-then-len-room.ensures (one-full (loops_of c.args.names.now) text.number c.args.room (text.at + c.args.at) c.args.at text.bytes.now (scan_of tokens c.args.names.now.table) (with_names c.read_token.new.names.table c.in-Ok.found) c.in-Ok.ensures.value (omega (arith, c.if-len-room.true, c.len.ensures, tokens.ok.0))
    ∙ ap (λ span. Err (problem_at span TooLong)) (sym c.span_at-then-len-room.ensures))

pub returns-in-Ok-push-clause-value : goal.returns-in-Ok-push-clause-value
returns-in-Ok-push-clause-value c =
    let text = c.args.text in let tokens = c.args.tokens.now in
    one-ok (loops_of c.args.names.now) text.number c.args.room (text.at + c.args.at) c.args.at text.bytes.now (scan_of tokens c.args.names.now.table) (with_names c.read_token.new.names.table c.in-Ok.found) c.in-Ok.ensures.value (omega (arith, c.if-len-room.false, c.len.ensures, tokens.ok.0))
    ∙ (λ i. measured c.in-Ok.found.len (record { tokens = sym c.in-Ok-push.ensures.items i; names = c.read_token.new.names.table }))
