use Rattle.std.proofs.Common.{◌≡◌, ◌∙◌, ◌<◌, ◌++◌, List, ℕ, length, take, drop, get_or, ap, refl, sym, subst, arith, codes, append_assoc, append-nil, take-append-drop}
use Rattle.std.proofs.lemmas.Grind.{flat_map-append}
use Rattle.std.proofs.lemmas.List.{take_all}
use Rattle.std.proofs.lemmas.Option.{get_or_from_slice_get, slice_get-get_or}
use Rattle.std.proofs.lemmas.Result.{on_err_weaker, on_ok_weaker}
use Rattle.std.specs.List.{flat_map}
use Rattle.std.specs.Io.KnownBytes.{Appends}
use Rattle.mars_cell.specs.Output.{CutShort}
use Rattle.mars_core.specs.State.{queue_of}
use Rattle.mars_app.specs.Debugger.Readings.{queue_head, process_text}
use Rattle.mars_app.specs.Code.Waiting.{Waits}
use Rattle.mars_app.proofs.Transcripts.Waits.{first_waits}
use Rattle.mars_app.proofs.Transcripts.Texts.{four_texts}
use Rattle.mars_cell.proofs.CallerLemmas.{CutShort-front, flat_map-one_more}
use Rattle.mars_app.proofs.debugger.readings.write_processes.Goals as goal

pub loop-place-init : goal.loop-place-init
loop-place-init g c =
    let head : c.of-pending.result ≡ queue_head c.args.warrior = c.of-pending.ensures ∙ c.numbered.ensures.bytes in
    rw (head, append-nil (queue_head c.args.warrior)) (first_waits _ _)

pub unwrap-address-requires : goal.unwrap-address-requires
unwrap-address-requires g c =
    let queue = queue_of c.args.battle.now.queues c.args.warrior in
    let inside : c.loop-place.place < length queue = rw c.queue_len-place-end.ensures at c.loop-place-test.true in
    rw (c.process.ensures, slice_get-get_or queue c.loop-place.place 0 inside) refl

pub loop-place-preserved : goal.loop-place-preserved
loop-place-preserved g c =
    let queue = queue_of c.args.battle.now.queues c.args.warrior in
    let place = c.loop-place.place in
    let inside : place < length queue = rw c.queue_len-place-end.ensures at c.loop-place-test.true in
    let there : get_or queue place 0 ≡ c.unwrap-address.result = get_or_from_slice_get queue place _ 0 (sym c.process.ensures ∙ c.unwrap-address.ensures) in
    let part : c.process_part.result.bytes ≡ process_text (get_or queue place 0) = c.process_part.ensures ∙ ap process_text (sym there) in
    let waits = λ (text : List ℕ). Waits (g.W.Write.contents c.args.writer.now) (g.W.Write.contents c.push.new.writer) c.push.new.self text in
    let together = append_assoc (queue_head c.args.warrior) (flat_map process_text (take place queue)) (process_text (get_or queue place 0)) in
    rw (flat_map-one_more process_text queue place 0 inside) (subst waits together (rw part at (c.in-Ok.ensures.ok _ _ c.loop-place.invariant)))

pub returns-in-Err-clause-err : goal.returns-in-Err-clause-err
returns-in-Err-clause-err g c =
    let queue = queue_of c.args.battle.now.queues c.args.warrior in
    let place = c.loop-place.place in
    let head = queue_head c.args.warrior in
    let front = flat_map process_text (take place queue) in
    let back = flat_map process_text (drop place queue) in
    let whole : flat_map process_text queue ≡ front ++ back =
    ap (flat_map process_text) (sym (take-append-drop place queue)) ∙ flat_map-append process_text (take place queue) (drop place queue) in
    let cut = λ (text : List ℕ). CutShort (g.W.Write.contents c.args.writer.now) (g.W.Write.contents c.push.new.writer) text in
    let all = ap (λ (text : List ℕ). head ++ (text ++ codes "\n")) whole ∙ four_texts head front back (codes "\n") in
    subst cut (sym all) (CutShort-front _ _ (head ++ front) (back ++ codes "\n") (c.in-Err.ensures.err _ _ c.loop-place.invariant))

pub returns-clause-ok : goal.returns-clause-ok
returns-clause-ok g c =
    let queue = queue_of c.args.battle.now.queues c.args.warrior in
    let all : take c.loop-place.place queue ≡ queue = take_all _ _ (omega arith) in
    let last : c.fixed.result.bytes ≡ codes "\n" = c.fixed.ensures in
    let out = λ (text : List ℕ). Appends (g.W.Write.contents c.args.writer.now) (g.W.Write.contents c.finish.new.writer) text in
    let together = append_assoc (queue_head c.args.warrior) (flat_map process_text queue) (codes "\n") in
    on_ok_weaker c.finish.result (λ sent. subst out together (rw (all, last) at (sent _ _ c.loop-place.invariant))) c.finish.ensures.ok

pub returns-clause-err : goal.returns-clause-err
returns-clause-err g c =
    let queue = queue_of c.args.battle.now.queues c.args.warrior in
    let all : take c.loop-place.place queue ≡ queue = take_all _ _ (omega arith) in
    let last : c.fixed.result.bytes ≡ codes "\n" = c.fixed.ensures in
    let cut = λ (text : List ℕ). CutShort (g.W.Write.contents c.args.writer.now) (g.W.Write.contents c.finish.new.writer) text in
    let together = append_assoc (queue_head c.args.warrior) (flat_map process_text queue) (codes "\n") in
    on_err_weaker c.finish.result (λ sent. subst cut together (rw (all, last) at (sent _ _ c.loop-place.invariant))) c.finish.ensures.err
