use Rattle.std.proofs.Common.{◌≡◌, ◌∙◌, sym, ap, arith, rules, ◌≤◌, ◌-◌, length, take, drop, get_or, List, [], ◌∷◌, Ok, ℤ, w64, take_all}
use Rattle.std.proofs.lemmas.Int.{to_z-of_z}
use mir.Val.{SFits}
use Rattle.redcode_text.specs.Results.{◌>>=◌}
use Rattle.redcode_text.specs.declared.token.Token.{Token}
use Rattle.redcode_text.specs.declared.token.TokenKind.TheVariants as token
use Rattle.redcode_text.specs.declared.token.Sign.{Sign}
use Rattle.redcode_text.specs.Expression.{kinds, unary}
use Rattle.redcode_text.specs.Code.Climbing.{signed}
use Rattle.redcode_text.proofs.expression.evaluation.+apply_signs.Goals as goal

-- Applying a run of unary operators applies the first operator to the value of the other operators.
signed-first : (run : List Token) (d : Token) (s : Sign) (v w : ℤ) → 1 ≤ length run → (get_or run 0 d).kind ≡ token.Sign s → signed (kinds (take (length run - 1) (drop 1 run))) v ≡ Ok w → signed (kinds run) v ≡ unary s w
signed-first [] d s v w h k e = absurd (omega arith)
signed-first (x ∷ run) d s v w h k e =
    let rest : take (length (x ∷ run) - 1) (drop 1 (x ∷ run)) ≡ run =
    ap (λ n. take n run) (let e : length (x ∷ run) - 1 ≡ length run = omega arith in e) ∙ take_all (length run) run (omega arith) in
    ap (λ l. signed (l ∷ kinds run) v) k
    ∙ ap (λ r. r >>= λ w. unary s w) (ap (λ l. signed (kinds l) v) (sym rest) ∙ e)

pub returns-in-Sign : goal.returns-in-Sign
returns-in-Sign t c =
    let inner_fits : SFits w64 c.in_ok-inner.inner = search rules in
    c.apply_unary.ensures
    ∙ ap (unary c.in-Sign.sign) (to_z-of_z w64 c.in_ok-inner.inner inner_fits)
    ∙ sym (signed-first c.args.run.now _ c.in-Sign.sign c.args.value c.in_ok-inner.inner c.in-len1-up.len_at_least c.in-Sign.is (ap (signed (kinds (take (length c.args.run.now - 1) (drop 1 c.args.run.now)))) (sym (to_z-of_z w64 c.args.value c.ranges.value)) ∙ sym c.apply_signs.ensures ∙ c.in_ok-inner.was))
