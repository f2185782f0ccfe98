use Rattle.std.proofs.Common.{◌++◌, codes}
use Rattle.std.proofs.KnownBytes.{Appends-trans}
use Rattle.std.proofs.lemmas.Result.{err_from_is_err_and, on_ok_weaker}
use Rattle.mars_cell.specs.Written.{load_text}
use Rattle.mars_app.specs.Contests.{listing_head}
use Rattle.mars_app.proofs.Writing.{WriteCutShort-back, WriteCutShort-front, last_breaks}
use Rattle.mars_app.proofs.contest.write_warrior.Goals as goal

pub returns-in_err-write_load_file-clause-err : goal.returns-in_err-write_load_file-clause-err
returns-in_err-write_load_file-clause-err g c =
    let p = err_from_is_err_and c.from_residual-in_err-write_load_file.result c.from_residual-in_err-write_load_file.ensures.1 in
    let f = c.in_err-write_load_file.field-0.0 in
    let head = listing_head c.args.number c.args.warrior.now in
    let file = load_text c.args.core_size c.args.warrior.now in
    let before = rw (c.as_bytes.ensures.value, c.as_str.ensures.value, c.listing_head-head.ensures) at c.in_ok-write_part.ensures.ok in
    rw (p.1, p.2) (WriteCutShort-front f _ _ (head ++ file) (codes "\n") (WriteCutShort-back f _ _ _ head file before c.in_err-write_load_file.ensures.err))

pub returns-clause-err : goal.returns-clause-err
returns-clause-err g c =
    let head = listing_head c.args.number c.args.warrior.now in
    let file = load_text c.args.core_size c.args.warrior.now in
    let first = rw (c.as_bytes.ensures.value, c.as_str.ensures.value, c.listing_head-head.ensures) at c.in_ok-write_part.ensures.ok in
    let before = Appends-trans _ _ _ head file first c.in_ok-write_load_file.ensures.ok in
    last_breaks c.write_part-2.result _ _ _ (head ++ file) (codes "\n") before c.write_part-2.ensures.err

pub write_load_file-requires-clause-fit : goal.write_load_file-requires-clause-fit
write_load_file-requires-clause-fit g c = c.requires.fit

pub returns-clause-ok : goal.returns-clause-ok
returns-clause-ok g c =
    let head = listing_head c.args.number c.args.warrior.now in
    let file = load_text c.args.core_size c.args.warrior.now in
    let first = rw (c.as_bytes.ensures.value, c.as_str.ensures.value, c.listing_head-head.ensures) at c.in_ok-write_part.ensures.ok in
    let before = Appends-trans _ _ _ head file first c.in_ok-write_load_file.ensures.ok in
    on_ok_weaker c.write_part-2.result (λ last. Appends-trans _ _ _ (head ++ file) (codes "\n") before last) c.write_part-2.ensures.ok
