use Rattle.std.proofs.Common.{◌≡◌, ◌∙◌, ◌<◌, ◌++◌, List, ℕ, length, ap, sym, subst, arith, append_assoc, append-nil}
use Rattle.std.proofs.lemmas.Result.{on_err_weaker, on_ok_weaker}
use Rattle.std.specs.Io.KnownBytes.{Appends}
use Rattle.mars_cell.specs.Output.{CutShort}
use Rattle.mars_app.specs.Debugger.Readings.{end_text, show_text, texts, warrior_text}
use Rattle.mars_app.specs.Debugger.Replies.{standing_text}
use Rattle.mars_app.specs.Code.Waiting.{Waits}
use Rattle.mars_app.proofs.Transcripts.Waits.{first_waits}
use Rattle.mars_app.proofs.Transcripts.Texts.{four_texts, texts-around, texts-one_more}
use Rattle.mars_cell.proofs.CallerLemmas.{CutShort-front}
use Rattle.mars_app.proofs.debugger.readings.write_show.Goals as goal

pub loop-warrior-init : goal.loop-warrior-init
unfolding texts
loop-warrior-init g c =
    let head : c.of-pending.result ≡ standing_text c.args.standing = c.of-pending.ensures ∙ c.standing_line.ensures in
    rw (head, append-nil (standing_text c.args.standing)) (first_waits _ _)

pub loop-warrior-preserved : goal.loop-warrior-preserved
loop-warrior-preserved g c =
    let s = c.args.battle.now in
    let i = c.loop-warrior.warrior in
    let line : c.warrior_line.result.bytes ≡ warrior_text s i = c.warrior_line.ensures in
    let waits = λ (text : List ℕ). Waits (g.W.Write.contents c.args.writer.now) (g.W.Write.contents c.push.new.writer) c.push.new.self text in
    let together = append_assoc (standing_text c.args.standing) (texts (warrior_text s) i) (warrior_text s i) in
    rw (texts-one_more (warrior_text s) i) (subst waits together (rw line at (c.in-Ok.ensures.ok _ _ c.loop-warrior.invariant)))

pub returns-in-Err-clause-err : goal.returns-in-Err-clause-err
unfolding show_text
returns-in-Err-clause-err g c =
    let s = c.args.battle.now in
    let i = c.loop-warrior.warrior in
    let head = standing_text c.args.standing in
    let front = texts (warrior_text s) i in
    let inside : i < length s.queues = omega arith in
    let whole = texts-around (warrior_text s) (length s.queues) i inside in
    let back = warrior_text s i ++ whole.0 in
    let cut = λ (text : List ℕ). CutShort (g.W.Write.contents c.args.writer.now) (g.W.Write.contents c.push.new.writer) text in
    let all = ap (λ (text : List ℕ). head ++ (text ++ end_text s)) whole.1 ∙ four_texts head front back (end_text s) in
    subst cut (sym all) (CutShort-front _ _ (head ++ front) (back ++ end_text s) (c.in-Err.ensures.err _ _ c.loop-warrior.invariant))

pub returns-clause-ok : goal.returns-clause-ok
unfolding show_text
returns-clause-ok g c =
    let s = c.args.battle.now in
    let all : c.loop-warrior.warrior ≡ length s.queues = omega arith in
    let last : c.end_line.result.bytes ≡ end_text s = c.end_line.ensures in
    let out = λ (text : List ℕ). Appends (g.W.Write.contents c.args.writer.now) (g.W.Write.contents c.finish.new.writer) text in
    let together = append_assoc (standing_text c.args.standing) (texts (warrior_text s) (length s.queues)) (end_text s) in
    on_ok_weaker c.finish.result (λ sent. subst out together (rw (all, last) at (sent _ _ c.loop-warrior.invariant))) c.finish.ensures.ok

pub returns-clause-err : goal.returns-clause-err
unfolding show_text
returns-clause-err g c =
    let s = c.args.battle.now in
    let all : c.loop-warrior.warrior ≡ length s.queues = omega arith in
    let last : c.end_line.result.bytes ≡ end_text s = c.end_line.ensures in
    let cut = λ (text : List ℕ). CutShort (g.W.Write.contents c.args.writer.now) (g.W.Write.contents c.finish.new.writer) text in
    let together = append_assoc (standing_text c.args.standing) (texts (warrior_text s) (length s.queues)) (end_text s) in
    on_err_weaker c.finish.result (λ sent. subst cut together (rw (all, last) at (sent _ _ c.loop-warrior.invariant))) c.finish.ensures.err
