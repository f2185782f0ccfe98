use Rattle.std.proofs.Common.{[], get_or, refl, rules, take}
use Rattle.mars_c.specs.Entrants.{IsEntrant}
use Rattle.mars_c.specs.declared.warriors.MarsWarrior.{MarsWarrior}
use Rattle.mars_c.proofs.Refused.{too_few, too_many, wrong_at}
use Rattle.mars_c.proofs.Steps.{reads_more}
use Rattle.mars_c.proofs.entrants.read_all.Goals as goal

abbrev none : MarsWarrior
none = record { length = 0; start = 0 }

pub loop-i-preserved : goal.loop-i-preserved
loop-i-preserved c =
    let p = c.args.params.now in
    let ns = c.args.entrants.warriors.now in
    let i = c.loop-i.i in
    let rest = c.loop-i.rest.now in
    let one = get_or ns i none in
    let split = c.in-Some.ensures.cases in
    let read : IsEntrant p (take one.length rest) one.start [] [] c.in-Ok.warrior =
    rw (split.1, c.new-name.ensures.bytes, c.new-author.ensures.bytes) at c.in-Ok.ensures.warrior in (
      search rules,
      rw (c.in-Ok-push.ensures.items, split.2) (reads_more p one c.in-Ok.warrior rest split.0 read c.args.entrants.cells.now ns i none c.loop-i.warriors.items c.loop-i-test.true refl c.loop-i.invariant.1),
    )

pub returns-in_default-clause-refused : goal.returns-in_default-clause-refused
returns-in_default-clause-refused c = λ s checked.
    too_few c.args.params.now c.args.entrants.cells.now c.args.entrants.warriors.now c.loop-i.i none c.loop-i.warriors.items c.loop-i.rest.now c.loop-i.invariant.1
    c.loop-i-test.true c.in_default.ensures.cases

pub returns-in-Err : goal.returns-in-Err
returns-in-Err c =
    let split = c.in-Some.ensures.cases in
    record {
      many = tt;
      read = tt;
      refused = λ s checked. (
        c.args.params.now,
        checked,
        wrong_at c.args.params.now c.args.entrants.cells.now c.args.entrants.warriors.now c.loop-i.i none
            c.loop-i.warriors.items c.loop-i.rest.now _ c.loop-i-test.true c.loop-i.invariant.1 split.0 (search rules) (rw split.1 at c.in-Err.ensures.refused),
      );
    }

pub returns-then-not-is_empty-clause-refused : goal.returns-then-not-is_empty-clause-refused
returns-then-not-is_empty-clause-refused c = λ s checked.
    too_many c.args.params.now c.args.entrants.cells.now c.args.entrants.warriors.now c.loop-i.i c.loop-i.warriors.items c.loop-i.rest.now c.loop-i.invariant.1
    c.loop-i-test.false c.if-not-is_empty.ensures
