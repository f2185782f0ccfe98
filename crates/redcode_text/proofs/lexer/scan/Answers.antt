use Rattle.std.proofs.Common.{◌≡◌, ◌∙◌, ℕ, List, Ok, length, ap, sym, subst, []}
use Rattle.redcode_text.proofs.Failing.{fails-at}
use Rattle.redcode_text.specs.declared.token.Token.{Token}
use Rattle.redcode_text.specs.Code.SourceLoops.{loops_of}
use Rattle.redcode_text.specs.Code.Problems.{Fails}
use Rattle.redcode_text.specs.Views.{scan_of}
use Rattle.redcode_text.specs.Tokens.{OpenLoop, at_line, scan_from, scanned, tokens}
use Rattle.redcode_text.proofs.lexer.scan.Goals as goal

-- At the start nothing has been read, and no loop is open.
start : (text : List ℕ) (loops : List OpenLoop) (before : List Token) (names : List (List ℕ)) → loops ≡ [] → before ≡ [] → names ≡ []
    → scan_from loops 1 (length text) 0 0 text (record { tokens = before; names = names }) ≡ tokens [] 1 0 (length text) [] text
start text loops before names l b n = λ i. scan_from (l i) 1 (length text) 0 0 text (record { tokens = b i; names = n i })

pub returns-in-Ok : goal.returns-in-Ok
unfolding scanned
returns-in-Ok c =
    ap (at_line 1) (sym (start c.args.text.now (loops_of c.new-names.result) c.new-tokens.result.items c.new-names.result.table c.new-names.ensures.loops c.new-tokens.ensures.items c.new-names.ensures.table) ∙ c.in-Ok.ensures.value)
    ∙ ap (λ names. Ok (scan_of c.read_tokens.new.tokens names)) (sym c.into_table.ensures)

pub returns-in-Err : goal.returns-in-Err
unfolding scanned
returns-in-Err c =
    fails-at 1 c.in-Err.problem c.at_line.result (tokens [] 1 0 (length c.args.text.now) [] c.args.text.now) c.at_line.ensures.problem c.at_line.ensures.line c.at_line.ensures.token
    (subst (Fails c.in-Err.problem) (start c.args.text.now (loops_of c.new-names.result) c.new-tokens.result.items c.new-names.result.table c.new-names.ensures.loops c.new-tokens.ensures.items c.new-names.ensures.table) c.in-Err.ensures.value)
