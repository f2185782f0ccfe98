use Rattle.std.proofs.lemmas.Result.{err_from_is_err_and}
use Rattle.redcode_text.specs.Views.{predefined_of}
use Rattle.redcode_text.specs.Code.Readings.{reading_of}
use Rattle.redcode_text.specs.Code.Pairs.{here_from, paired_from}
use Rattle.redcode_text.proofs.LoneSteps.{lone-at, lone-ended, lone-fails}
use Rattle.redcode_text.proofs.reader.repeat.read_all.Goals as goal

pub returns-in_err-read_items : goal.returns-in_err-read_items
returns-in_err-read_items c =
    let p = err_from_is_err_and c.from_residual.result c.from_residual.ensures.1 in
    rw (p.1, p.2) (lone-fails (predefined_of c.args.names.now) (here_from c.args.rows.now 0) (paired_from c.args.rows.now 0).waiting (reading_of c.args.reading.now) _ c.requires.going c.in_err-read_items.ensures.gives)

pub returns-then-reading : goal.returns-then-reading
returns-then-reading c =
    lone-ended (predefined_of c.args.names.now) (here_from c.args.rows.now 0) (paired_from c.args.rows.now 0).waiting (reading_of c.args.reading.now) (reading_of c.read_items.new.reading) c.requires.going c.in_ok-read_items.ensures.gives c.if-reading.true

pub returns : goal.returns
returns c =
    rw (lone-at (predefined_of c.args.names.now) c.args.rows.now _ c.index-rows-end.result (reading_of c.args.reading.now) (reading_of c.read_items.new.reading) c.requires.going c.in_ok-read_items.ensures.gives c.if-reading.false c.end_from-end.ensures c.if-end-rows.false c.index-rows-end.is)
    c.refuse_unpaired.ensures.gives
