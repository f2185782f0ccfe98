use Rattle.std.proofs.Common.{◌∙◌, sym, arith, rules, length}
use Rattle.std.proofs.lemmas.Result.{err_from_is_err_and}
use Rattle.redcode_text.proofs.Standing.{room}
use Rattle.redcode_text.proofs.Running.{step-ok, step-err, step-stands, room_after, finish, begins, whole}
use Rattle.redcode_text.proofs.expression.evaluate.Goals as goal

pub advance-requires : goal.advance-requires
advance-requires g c =
    let few = c.requires.places in
    let stands = c.loop-at.invariant.stands.1 in
    let tokens = length c.args.tokens.now in
    let here = room c.loop-at.at tokens g.row.N c.loop-at.evaluation _ stands c.loop-at-test.true c.requires.room in
    let later = room_after c.loop-at.at g.row.N c.loop-at.evaluation _ stands here in
    (omega arith, (stands.first, (c.loop-at-test.true, (stands.inside, (here, later)))))

pub new-evaluation-requires : goal.new-evaluation-requires
new-evaluation-requires g c = let few = c.requires.places in omega arith

pub finish-requires : goal.finish-requires
finish-requires g c = let few = c.requires.places in search rules

pub loop-at-preserved : goal.loop-at-preserved
loop-at-preserved g c =
    let lt = c.loop-at-test.true in
    record {
      read = sym (step-ok (g.E.Env.value_of c.args.env.now) c.args.tokens.now c.loop-at.at c.loop-at.evaluation (omega arith) c.advance.new.self c.in_ok-advance.ensures.gives) ∙ c.loop-at.invariant.read;
      stands = step-stands (g.E.Env.value_of c.args.env.now) c.args.tokens.now c.loop-at.at c.loop-at.evaluation (omega arith) c.advance.new.self c.in_ok-advance.ensures.gives c.loop-at.invariant.stands;
    }

pub returns-in_err-advance : goal.returns-in_err-advance
returns-in_err-advance g c =
    let p = err_from_is_err_and c.from_residual.result c.from_residual.ensures.1 in
    let n = c.new-evaluation.ensures in
    rw (p.1, p.2)
    (sym (step-err (g.E.Env.value_of c.args.env.now) c.args.tokens.now c.loop-at.at c.loop-at.evaluation (omega arith) _ c.in_err-advance.ensures.gives)
    ∙ c.loop-at.invariant.read
    ∙ whole (g.E.Env.value_of c.args.env.now) c.args.tokens.now c.new-evaluation.result n.stack n.first n.after c.requires.shape)

pub returns : goal.returns
returns g c =
    let n = c.new-evaluation.ensures in
    c.finish.ensures
    ∙ finish (g.E.Env.value_of c.args.env.now) c.args.tokens.now c.loop-at.at c.loop-at.evaluation (omega arith)
    ∙ c.loop-at.invariant.read
    ∙ whole (g.E.Env.value_of c.args.env.now) c.args.tokens.now c.new-evaluation.result n.stack n.first n.after c.requires.shape

pub loop-at-init : goal.loop-at-init
loop-at-init g c = let n = c.new-evaluation.ensures in record { read = search rules; stands = (_, begins c.args.tokens.now c.new-evaluation.result n.stack n.first n.after, c.requires.shape) }
