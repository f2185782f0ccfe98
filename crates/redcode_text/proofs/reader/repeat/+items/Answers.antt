use Rattle.std.proofs.Common.{◌≡◌, ◌∷◌, ◌∙◌, ℕ, List, ap, arith, drop, option_map, slice_index_or}
use Rattle.std.proofs.lemmas.Result.{err_from_is_err_and}
use Rattle.redcode_text.specs.Expansion.{flat, rounds}
use Rattle.redcode_text.specs.declared.source.row.SourceRow as code
use Rattle.redcode_text.specs.Source.{RofLine, line_kind}
use Rattle.redcode_text.specs.Code.Counters.{innermost_counter}
use Rattle.redcode_text.specs.Code.Heads.{head_of}
use Rattle.redcode_text.specs.Code.SourceLoops.{loops_of}
use Rattle.redcode_text.specs.Lines.{Reading, name_at}
use Rattle.redcode_text.specs.Tokens.{OpenLoop}
use Rattle.redcode_text.specs.Code.Pairs.{here_from}
use Rattle.redcode_text.specs.Views.{predefined_of}
use Rattle.redcode_text.specs.Code.Readings.{reading_of}
use Rattle.redcode_text.proofs.LoopSteps.{head-fails-at, rounds-fail-at, loop-ended-at, rof-fails-at, loop-done-at, empty-rounds, round-fails, round-done, round-ended}
use Rattle.redcode_text.proofs.PairSteps.{ends-rof}
use Rattle.redcode_text.proofs.reader.repeat.+items.Goals as goal

pub read_loop-returns-in_err-head-clause-gives : goal.read_loop-returns-in_err-head-clause-gives
read_loop-returns-in_err-head-clause-gives t c =
    let p = err_from_is_err_and c.from_residual.result c.from_residual.ensures.1 in
    let ends = c.requires.ends c.args.at c.requires.within in
    rw (p.1, p.2) (head-fails-at (predefined_of c.args.names.now) c.args.source.rows.now c.args.at (slice_index_or c.args.source.ends.now c.args.at 0) c.args.word_at c.index-rows-at.result (reading_of c.args.reading.now) _ c.requires.within c.requires.closed c.requires.word ends c.index-rows-at.is c.in_err-head.ensures.gives)

pub read_loop-returns-in_err-read_rounds-clause-gives : goal.read_loop-returns-in_err-read_rounds-clause-gives
read_loop-returns-in_err-read_rounds-clause-gives t c =
    let p = err_from_is_err_and c.from_residual-in_err-read_rounds.result c.from_residual-in_err-read_rounds.ensures.1 in
    let ends = c.requires.ends c.args.at c.requires.within in
    rw (p.1, p.2) (rounds-fail-at (predefined_of c.args.names.now) c.args.source.rows.now c.args.at (slice_index_or c.args.source.ends.now c.args.at 0) c.args.word_at c.index-rows-at.result (reading_of c.args.reading.now) (head_of (reading_of c.read_for_row.new.reading) c.in_ok-head.head) _ c.requires.within c.requires.closed c.requires.word ends c.index-rows-at.is c.in_ok-head.ensures.gives c.in_err-read_rounds.ensures.gives)

pub read_loop-returns-in_err-read_rof_row-clause-gives : goal.read_loop-returns-in_err-read_rof_row-clause-gives
read_loop-returns-in_err-read_rof_row-clause-gives t c =
    let p = err_from_is_err_and c.from_residual-in_err-read_rof_row.result c.from_residual-in_err-read_rof_row.ensures.1 in
    let ends = c.requires.ends c.args.at c.requires.within in
    rw (p.1, p.2) (rof-fails-at (predefined_of c.args.names.now) c.args.source.rows.now c.args.at (slice_index_or c.args.source.ends.now c.args.at 0) c.args.word_at c.index-rows-at.result c.index-rows-last.result (reading_of c.args.reading.now) (head_of (reading_of c.read_for_row.new.reading) c.in_ok-head.head) (reading_of c.read_rounds.new.reading) _ c.requires.within c.requires.closed c.requires.word ends c.index-rows-at.is c.index-rows-last.is c.in_ok-head.ensures.gives c.in_ok-read_rounds.ensures.gives c.if-reading.false c.in_err-read_rof_row.ensures.gives)

pub read_loop-returns-then-reading-clause-gives : goal.read_loop-returns-then-reading-clause-gives
read_loop-returns-then-reading-clause-gives t c =
    let ends = c.requires.ends c.args.at c.requires.within in
    (omega (arith, ends.from), omega (arith, c.requires.closed), loop-ended-at (predefined_of c.args.names.now) c.args.source.rows.now c.args.at (slice_index_or c.args.source.ends.now c.args.at 0) c.args.word_at c.index-rows-at.result (reading_of c.args.reading.now) (head_of (reading_of c.read_for_row.new.reading) c.in_ok-head.head) (reading_of c.read_rounds.new.reading) c.requires.within c.requires.closed c.requires.word ends c.index-rows-at.is c.in_ok-head.ensures.gives c.in_ok-read_rounds.ensures.gives c.if-reading.true)

pub read_loop-returns-clause-gives : goal.read_loop-returns-clause-gives
read_loop-returns-clause-gives t c =
    let ends = c.requires.ends c.args.at c.requires.within in
    (omega (arith, ends.from), omega (arith, c.requires.closed), loop-done-at (predefined_of c.args.names.now) c.args.source.rows.now c.args.at (slice_index_or c.args.source.ends.now c.args.at 0) c.args.word_at c.index-rows-at.result c.index-rows-last.result (reading_of c.args.reading.now) (head_of (reading_of c.read_for_row.new.reading) c.in_ok-head.head) (reading_of c.read_rounds.new.reading) (reading_of c.read_rof_row.new.reading) c.requires.within c.requires.closed c.requires.word ends c.index-rows-at.is c.index-rows-last.is c.in_ok-head.ensures.gives c.in_ok-read_rounds.ensures.gives c.if-reading.false c.in_ok-read_rof_row.ensures.gives)

-- A reading whose open loops are replaced.
reopened : (st : Reading) (names : List (List ℕ)) (loops ls : List OpenLoop) → names ≡ st.names → loops ≡ ls → record st { loops = loops; names = names } ≡ record st { loops = ls }
reopened st names loops ls e f = λ i. record st { loops = f i; names = e i }

pub read_rounds-returns-in_err-read_items : goal.read_rounds-returns-in_err-read_items
read_rounds-returns-in_err-read_items t c =
    let body = flat (predefined_of c.args.names.now) (here_from c.args.source.rows.now c.args.first) in
    let counter = option_map (name_at c.args.reading.now.names.table) c.args.head.counter in
    let st = reading_of c.loop-round.reading in let names = c.open_loop.new.self in
    let whole = rounds body counter 1 c.args.head.count (reading_of c.args.reading.now) in
    let next : Reading = record st { loops = loops_of names; names = names.table } in
    let loop = c.in-Ok.ensures.loops ∙ ap (λ n. record { counter = n; round = c.loop-round.round } ∷ st.loops) c.loop-round.invariant.counter in
    let opened = reopened st names.table (loops_of names) (record { counter = counter; round = c.loop-round.round } ∷ st.loops) c.in-Ok.ensures.table loop in
    let p = err_from_is_err_and c.from_residual.result c.from_residual.ensures.1 in
    rw (p.1, p.2) (record {
      gives = round-fails body counter c.args.head.count c.loop-round.round st next whole (omega arith) c.loop-round.invariant.same opened _ c.in_err-read_items.ensures.gives;
      loops = tt;
    })

pub read_rounds-returns-then-reading : goal.read_rounds-returns-then-reading
read_rounds-returns-then-reading t c =
    let body = flat (predefined_of c.args.names.now) (here_from c.args.source.rows.now c.args.first) in
    let counter = option_map (name_at c.args.reading.now.names.table) c.args.head.counter in
    let st = reading_of c.loop-round.reading in let names = c.open_loop.new.self in
    let whole = rounds body counter 1 c.args.head.count (reading_of c.args.reading.now) in
    let next : Reading = record st { loops = loops_of names; names = names.table } in
    let loop = c.in-Ok.ensures.loops ∙ ap (λ n. record { counter = n; round = c.loop-round.round } ∷ st.loops) c.loop-round.invariant.counter in
    let opened = reopened st names.table (loops_of names) (record { counter = counter; round = c.loop-round.round } ∷ st.loops) c.in-Ok.ensures.table loop in
    let read = reading_of c.read_items.new.reading in let left = c.close_loop-counter.new.self in
    let last : Reading = record read { loops = loops_of left; names = left.table } in
    let loops = c.close_loop-counter.ensures.loops ∙ ap (drop 1) (c.in_ok-read_items.ensures.loops ∙ loop) in
    let closed = reopened read left.table (loops_of left) st.loops c.close_loop-counter.ensures.table loops in
    record {
      gives = round-ended body counter c.args.head.count c.loop-round.round st next whole (omega arith) c.loop-round.invariant.same opened read last c.in_ok-read_items.ensures.gives closed c.if-reading.true;
      loops = loops ∙ c.loop-round.invariant.loops;
    }

pub read_rounds-loop-round-preserved : goal.read_rounds-loop-round-preserved
read_rounds-loop-round-preserved t c =
    let body = flat (predefined_of c.args.names.now) (here_from c.args.source.rows.now c.args.first) in
    let counter = option_map (name_at c.args.reading.now.names.table) c.args.head.counter in
    let st = reading_of c.loop-round.reading in let names = c.open_loop.new.self in
    let whole = rounds body counter 1 c.args.head.count (reading_of c.args.reading.now) in
    let next : Reading = record st { loops = loops_of names; names = names.table } in
    let loop = c.in-Ok.ensures.loops ∙ ap (λ n. record { counter = n; round = c.loop-round.round } ∷ st.loops) c.loop-round.invariant.counter in
    let opened = reopened st names.table (loops_of names) (record { counter = counter; round = c.loop-round.round } ∷ st.loops) c.in-Ok.ensures.table loop in
    let read = reading_of c.read_items.new.reading in let left = c.close_loop-counter.new.self in
    let last : Reading = record read { loops = loops_of left; names = left.table } in
    let loops = c.close_loop-counter.ensures.loops ∙ ap (drop 1) (c.in_ok-read_items.ensures.loops ∙ loop) in
    let closed = reopened read left.table (loops_of left) st.loops c.close_loop-counter.ensures.table loops in
    record {
      same = round-done body counter c.args.head.count c.loop-round.round st next whole (omega arith) c.loop-round.invariant.same opened read last c.in_ok-read_items.ensures.gives closed c.if-reading.false;
      counter = c.close_loop-counter.ensures.counter ∙ ap innermost_counter (c.in_ok-read_items.ensures.loops ∙ loop);
      there = c.close_loop-counter.ensures.there;
      loops = loops ∙ c.loop-round.invariant.loops;
    }

pub read_rounds-returns-in-Rof-clause-gives : goal.read_rounds-returns-in-Rof-clause-gives
read_rounds-returns-in-Rof-clause-gives t c =
    let row = c.index-rows-first.result in
    let kind : RofLine ≡ line_kind row.bytes.now = c.in-Rof.ensures.value in
    let ps = predefined_of c.args.names.now in
    let counter = option_map (name_at c.args.reading.now.names.table) c.args.head.counter in
    let st = reading_of c.args.reading.now in
    ap (λ items. rounds (flat ps items) counter 1 c.args.head.count st) (ends-rof c.args.source.rows.now c.args.first row c.requires.within (kind ∙ ap (λ (w : code.SourceRow). line_kind w.bytes.now) c.index-rows-first.is)).at_end
    ∙ empty-rounds ps counter c.args.head.count 1 st
