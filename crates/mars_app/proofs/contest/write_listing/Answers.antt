use Rattle.std.proofs.Common.{◌≡◌, ◌+◌, arith, get_or, sym, take}
use Rattle.mars_app.specs.Contests.{listed, listing_from}
use Rattle.std.proofs.KnownBytes.{Appends-trans}
use Rattle.std.proofs.lemmas.Result.{err_from_is_err_and}
use Rattle.mars_app.proofs.Listings.{listing-one_more, listing-around}
use Rattle.mars_app.proofs.Writing.{WriteCutShort-after}
use Rattle.mars_app.proofs.contest.write_listing.Goals as goal

pub loop-number-preserved : goal.loop-number-preserved
loop-number-preserved g c =
    let there : get_or c.args.warriors.now c.loop-number.number c.index-warriors-number.result ≡ c.index-warriors-number.result = sym c.index-warriors-number.is in
    let count : 0 + c.loop-number.number ≡ c.loop-number.number = omega arith in
    rw (listing-one_more c.args.core_size 0 c.loop-number.number c.args.warriors.now c.index-warriors-number.result c.loop-number-test.true)
    (Appends-trans _ _ _ _ _ c.loop-number.invariant (rw (there, count) c.in_ok-write_warrior.ensures.ok))

pub returns-in_err-write_warrior-clause-err : goal.returns-in_err-write_warrior-clause-err
returns-in_err-write_warrior-clause-err g c =
    let p = err_from_is_err_and c.from_residual.result c.from_residual.ensures.1 in
    let ws = c.args.warriors.now in
    let i = c.loop-number.number in
    let d = c.index-warriors-number.result in
    let there : get_or ws i d ≡ d = sym c.index-warriors-number.is in
    let count : 0 + i ≡ i = omega arith in
    let r = listing-around c.args.core_size 0 i ws d c.loop-number-test.true in
    rw (p.1, p.2, c.if-brief.false, r.1, there, count) (WriteCutShort-after _ _ _ _ (listing_from c.args.core_size 0 (take i ws)) (listed c.args.core_size i d) r.0 c.loop-number.invariant c.in_err-write_warrior.ensures.err)
