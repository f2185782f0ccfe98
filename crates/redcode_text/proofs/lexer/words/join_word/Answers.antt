use Rattle.std.proofs.Common.{◌+◌, ◌∙◌, drop, take, ap, sym, arith, length-drop}
use Rattle.std.proofs.lemmas.List.{take_rest}
use Rattle.std.proofs.lemmas.Str.{IsAscii-take}
use Rattle.redcode_text.specs.Code.SourceLoops.{loops_of}
use Rattle.redcode_text.specs.Tokens.{join_counters}
use Rattle.redcode_text.proofs.Joins.{names_of, part_len, joined-first, join-ok, join-bad}
use Rattle.redcode_text.proofs.lexer.words.join_word.Goals as goal

pub loop-at-init : goal.loop-at-init
loop-at-init c =
    let word = c.args.word.now in let loops = loops_of c.args.names.now in let first = c.part_len-at.result in
    record {
      within = c.part_len-at.ensures.within;
      same =
          ap (λ l. join_counters loops l (names_of (drop first word))) c.in_ok-joined.ensures.items
          ∙ ap (λ n. join_counters loops (take n word) (names_of (drop n word))) c.part_len-at.ensures.value
          ∙ sym (joined-first loops word);
      ascii = rw c.in_ok-joined.ensures.items (IsAscii-take word first c.requires);
    }

pub returns-in_default-clause-value : goal.returns-in_default-clause-value
returns-in_default-clause-value c =
    let word = c.args.word.now in let at = c.loop-at.at in
    sym c.loop-at.invariant.same
    ∙ join-bad (loops_of c.args.names.now) c.loop-at.joined.items word at c.part_len.result c.loop-at-test.true (c.part_len.ensures.value ∙ ap part_len (take_rest word (at + 1))) c.in_default.ensures

pub loop-at-preserved : goal.loop-at-preserved
loop-at-preserved c =
    let word = c.args.word.now in let at = c.loop-at.at in
    record {
      within = omega (arith, simp (take_rest, length-drop) at c.part_len.ensures.within);
      same =
          ap (λ l. join_counters (loops_of c.args.names.now) l (names_of (drop (at + 1 + c.part_len.result) word))) c.in_ok-push_round.ensures.digits
          ∙ sym (join-ok (loops_of c.args.names.now) c.loop-at.joined.items word at c.part_len.result c.in-Some.round c.loop-at-test.true (c.part_len.ensures.value ∙ ap part_len (take_rest word (at + 1))) c.in-Some.ensures)
          ∙ c.loop-at.invariant.same;
      ascii = c.in_ok-push_round.ensures.ascii c.loop-at.invariant.ascii;
    }
