use Rattle.std.proofs.Common.{◌≡◌, ◌≤◌, ◌+◌, ◌-◌, ◌++◌, List, Result, take, length, vec_len}
use Rattle.std.specs.Prelude.{vec_capacity}
use Rattle.mars_session.specs.declared.calls.Standing.{Standing}
use Rattle.mars_session.specs.declared.calls.Refusal.{Refusal}
use Rattle.mars_session.specs.Script.{CallsMeetSpec}
use Rattle.mars_session.proofs.sessions.Session.apply_all.Given as goal

-- The replies so far are those to the calls so far.
abbrev pub invariant-loop-call : goal.invariant-loop-call
invariant-loop-call g l = record {
  replies : List (Result Standing Refusal);
  items : l.out.items ≡ l.fn.out.items ++ replies;
  each : CallsMeetSpec l.fn.self (take l.call-index l.calls) replies l.self;
  limit : l.self.state.limit ≡ l.fn.self.state.limit;
  room : vec_len l.out + (length l.calls - l.call-index) ≤ vec_capacity l.out;
}
