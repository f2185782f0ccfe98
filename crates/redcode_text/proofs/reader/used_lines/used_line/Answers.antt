use Rattle.std.proofs.Common.{◌∙◌, ◌++◌, ◌-◌, [], Ok, arith, drop, get_or, length, map, subst, take}
use Rattle.std.proofs.lemmas.List.{take_rest}
use Rattle.redcode_text.specs.Code.Problems.{Gives}
use Rattle.redcode_text.specs.Code.Used.{used}
use Rattle.redcode_text.proofs.UsedSteps.{used-before-last, used-last}
use Rattle.redcode_text.proofs.reader.used_lines.used_line.Goals as goal

pub returns-then-at-lines : goal.returns-then-at-lines
returns-then-at-lines c =
    subst (λ l. Gives (λ made. made.items) c.joined.result (Ok l))
    ((λ i. c.before_line-before.ensures i ++ c.deref.ensures.value i)
    ∙ used-before-last (λ line. line.items) c.args.before.now c.args.lines.now c.args.behind.now c.args.at [] c.index-lines-at.result c.if-at-lines.true c.index-lines-at.is)
    c.joined.ensures

pub returns : goal.returns
returns c =
    subst (λ l. Gives (λ made. made.items) c.last_line.result (Ok l))
    (used-last (λ line. line.items) c.args.before.now c.args.lines.now c.args.behind.now c.args.at [] (omega (arith, c.requires, c.if-at-lines.false)))
    (simp take_rest at (subst (λ b. Gives (λ made. made.items) c.last_line.result (Ok (get_or (used b (map (λ line. line.items) (take (length c.args.lines.now - c.args.at) (drop c.args.at c.args.lines.now))) c.args.behind.now) 0 []))) c.before_line-before.ensures c.last_line.ensures))
