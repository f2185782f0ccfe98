use Rattle.std.proofs.Common.{◌≡◌, ◌∙◌, sym, arith, ap, drop, length, length-drop, ◌-◌, take_all, ◌+◌, take, List, ℕ, Bool, false}
use Rattle.std.proofs.lemmas.List.{take_rest}
use Rattle.redcode_text.specs.Tokens.{begins_word, word_len}
use Rattle.redcode_text.proofs.WordSteps.{word_len-drop, word_len-none, word_len-some, word-ascii}
use Rattle.redcode_text.proofs.characters.word_len.Goals as goal

pub loop-len-preserved : goal.loop-len-preserved
loop-len-preserved c =
    let e = c.begins_word.ensures in let t = c.loop-len-test.true in
    let m = word_len-drop c.args.bytes.now c.loop-len.len (ap begins_word (sym (take_all (length c.args.bytes.now - c.loop-len.len) (drop c.loop-len.len c.args.bytes.now) (omega (arith, length-drop c.loop-len.len c.args.bytes.now)))) ∙ sym e ∙ t) in
    record { within = omega (arith, m.0); same = omega (arith, m.1, c.loop-len.invariant.same) }

length-is : (bs : List ℕ) (len : ℕ) (t : Bool) → t ≡ begins_word (take (length bs - len) (drop len bs)) → t ≡ false → word_len (drop len bs) + len ≡ word_len bs → len ≡ word_len bs
length-is bs len t e none same = omega (arith, word_len-none (drop len bs) (ap begins_word (sym (take_rest bs len)) ∙ sym e ∙ none), same)

pub returns-clause-some : goal.returns-clause-some
returns-clause-some c =
    let v = length-is c.args.bytes.now c.loop-len.len c.begins_word.result c.begins_word.ensures c.loop-len-test.false c.loop-len.invariant.same in
    λ e. omega (arith, v, word_len-some c.args.bytes.now e)

pub returns-clause-ascii : goal.returns-clause-ascii
returns-clause-ascii c =
    let v = length-is c.args.bytes.now c.loop-len.len c.begins_word.result c.begins_word.ensures c.loop-len-test.false c.loop-len.invariant.same in
    rw v (word-ascii c.args.bytes.now)
