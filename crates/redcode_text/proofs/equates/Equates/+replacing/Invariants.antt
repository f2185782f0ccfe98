use Rattle.std.proofs.Common.{◌≡◌, ◌+◌, ◌*◌, drop}
use Rattle.redcode_text.specs.Equates.{each_replaced, replacing}
use Rattle.redcode_text.proofs.equates.Equates.+replacing.Given as goal

abbrev pub decreases-replace : goal.decreases-replace
decreases-replace l = 3 * l.depth

abbrev pub decreases-put : goal.decreases-put
decreases-put l = 3 * l.depth + 1

abbrev pub decreases-replace_each : goal.decreases-replace_each
decreases-replace_each l = 3 * l.depth + 2

abbrev pub invariant-replace_each-loop-token : goal.invariant-replace_each-loop-token
invariant-replace_each-loop-token l =
    each_replaced l.self (replacing l.depth l.self) l.replaced (drop l.token-index l.tokens) ≡ each_replaced l.self (replacing l.depth l.self) l.initial.replaced l.tokens
