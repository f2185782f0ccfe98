-- Each iteration executes one more call and appends its reply.
use Rattle.std.proofs.Common.{List, Result, ◌≡◌, ◌+◌, ◌∷◌, ◌++◌, [], ◌∙◌, refl, append_assoc, arith, take, get_or, vec_len}
use Rattle.std.proofs.lemmas.List.{take_more}
use Rattle.mars_session.specs.declared.calls.Call.TheVariants.{Step}
use Rattle.mars_session.specs.declared.calls.Standing.{Standing}
use Rattle.mars_session.specs.declared.calls.Refusal.{Refusal}
use Rattle.mars_session.proofs.Scripts.{each_more}
use Rattle.mars_session.proofs.sessions.Session.apply_all.Goals as goal

pub loop-call-preserved : goal.loop-call-preserved
loop-call-preserved g c =
    let before = c.loop-call.invariant in
    record {
      replies = before.replies ++ c.call-reply.result ∷ [];
      items = rw (c.push.ensures.items, c.unwrap.ensures, before.items, append_assoc) (refl {A = List (Result Standing Refusal)});
      each =
          rw (take_more c.args.calls.now c.loop-call.call-index Step c.loop-call-test.true)
          (each_more c.args.self.now c.loop-call.self c.call-reply.new.self (take c.loop-call.call-index c.args.calls.now)
          (get_or c.args.calls.now c.loop-call.call-index Step) before.replies c.call-reply.result before.each c.call-reply.ensures);
      limit = c.call-reply.ensures.1 ∙ before.limit;
      room =
          let len : vec_len c.push.new.self ≡ vec_len c.loop-call.out + 1 = rw c.unwrap.ensures at c.push.ensures.len in
          omega (arith, before.room, c.push.ensures.capacity, len);
    }
