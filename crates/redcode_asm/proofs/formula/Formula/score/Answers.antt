use Rattle.std.proofs.Common.{◌≡◌, rules, sym, subst, IfErr}
use Rattle.redcode_text.specs.Views.{scan_of}
use Rattle.redcode_asm.specs.Formula.{score_of}
use Rattle.redcode_asm.specs.Laws.{IsValueFault}
use Rattle.redcode_asm.proofs.Scores.{checked-value}
use Rattle.redcode_asm.proofs.formula.Formula.score.Goals as goal

pub returns-clause-few : goal.returns-clause-few
returns-clause-few c =
    let f = scan_of c.self.inside.line.tokens c.self.inside.line.names in
    let value : c.eval.result ≡ score_of f c.args.warriors c.args.survivors = search rules in
    subst (λ r. IfErr r IsValueFault) (sym value) (checked-value f c.args.warriors c.args.survivors c.self.invariant)
