-- What the debugger writes is determined by its lines, because the history of its session evicts places: no command is refused
-- then because memory ran out.
use Rattle.std.proofs.Common.{◌≡◌, refl, ap, ◌∙◌, ℕ, Bool, true, false, List, [], ◌∷◌, ◌++◌, Option, None, Some, Result, Ok, Err}
use Rattle.std.specs.Prelude.{is_some}
use Rattle.mars_session.specs.declared.calls.Refusal.{Refusal}
use Rattle.mars_session.specs.Commands.{States}
use Rattle.mars_session.specs.History.{History}
use Rattle.mars_session.specs.Retention.{Retention}
use Rattle.mars_session.specs.Script.{CallKind, Command, Move, SessionState, Outcome, appended, command_outcome, kind_of, move_outcome, outcome_of, room_refusal}
use Rattle.mars_app.specs.declared.debugger.request.Request.{Request}
use Rattle.mars_app.specs.declared.debugger.request.Request.TheVariants as request
use Rattle.mars_app.specs.Debugger.Lines.{line_request}
use Rattle.mars_app.specs.Debugger.Replies.{reply_text}
use Rattle.mars_app.specs.Debugger.Transcript.{Transcript, answer}
use Rattle.mars_app.specs.Debugger.Transcript.Transcript.{none, line}

module _ (m : Retention) (limit : ℕ) (h : History) (evicts : is_some m.most ≡ true) where
  command_alike : (bound : ℕ) (poor : Bool) (x : Result States Refusal)
      → command_outcome m limit bound poor h x ≡ command_outcome m limit bound false h x
  command_alike bound poor (Err r) = refl
  command_alike bound poor (Ok states) = rw evicts refl

  kind_alike : (poor : Bool) (kind : CallKind) → outcome_of m limit kind poor h ≡ outcome_of m limit kind false h
  kind_alike poor (Command bound states) = command_alike (bound h.present.state) poor (states h.present.state)
  kind_alike poor (Move refusal move) = refl

  appended_evicts : (states : States) (o : Option Refusal) → is_some (appended m h states o).retention.most ≡ true
  appended_evicts states (Some r) = evicts
  appended_evicts states None = evicts

  command_evicts : (bound : ℕ) (poor : Bool) (x : Result States Refusal) → is_some (command_outcome m limit bound poor h x).retention.most ≡ true
  command_evicts bound poor (Err r) = evicts
  command_evicts bound poor (Ok states) = appended_evicts states (room_refusal m limit bound poor h)

  move_evicts : (r : Refusal) (to : Option History) → is_some (move_outcome m h r to).retention.most ≡ true
  move_evicts r None = evicts
  move_evicts r (Some to) = evicts

  kind_evicts : (poor : Bool) (kind : CallKind) → is_some (outcome_of m limit kind poor h).retention.most ≡ true
  kind_evicts poor (Command bound states) = command_evicts (bound h.present.state) poor (states h.present.state)
  kind_evicts poor (Move refusal move) = move_evicts (refusal m h) (move h)

-- The session after a call, and the reply.
abbrev called : SessionState → Outcome → SessionState × List ℕ
called s after = (record { history = after.history; limit = s.limit; retention = after.retention }, reply_text after.reply)

answer_alike : (s : SessionState) (poor : Bool) (r : Request) → is_some s.retention.most ≡ true → answer poor s r ≡ answer false s r
unfolding answer
answer_alike s poor request.Nothing evicts = refl
answer_alike s poor (request.Call call) evicts = ap (called s) (kind_alike s.retention s.limit s.history evicts poor (kind_of call))
answer_alike s poor (request.List address n) evicts = refl
answer_alike s poor (request.Queue warrior) evicts = refl
answer_alike s poor request.Show evicts = refl
answer_alike s poor request.Quit evicts = refl
answer_alike s poor request.Unknown evicts = refl

answer_evicts : (s : SessionState) (poor : Bool) (r : Request) → is_some s.retention.most ≡ true → is_some (answer poor s r).0.retention.most ≡ true
unfolding answer
answer_evicts s poor request.Nothing evicts = evicts
answer_evicts s poor (request.Call call) evicts = kind_evicts s.retention s.limit s.history evicts poor (kind_of call)
answer_evicts s poor (request.List address n) evicts = evicts
answer_evicts s poor (request.Queue warrior) evicts = evicts
answer_evicts s poor request.Show evicts = evicts
answer_evicts s poor request.Quit evicts = evicts
answer_evicts s poor request.Unknown evicts = evicts

-- The replies to lines, if no allocation fails.
abbrev pub replies : ℕ → SessionState → List (List ℕ) → List ℕ
replies core_size s [] = []
replies core_size s (l ∷ ls) =
    (answer false s (line_request core_size l)).1 ++ replies core_size (answer false s (line_request core_size l)).0 ls

pub transcript_is : (core_size : ℕ) {s t : SessionState} {ls : List (List ℕ)} {text : List ℕ} → is_some s.retention.most ≡ true
    → Transcript core_size s ls t text → text ≡ replies core_size s ls
transcript_is core_size evicts none = refl
transcript_is core_size {s = s} evicts (line poor {text = text} l {ls = ls} later e) =
    let r = line_request core_size l in
    let after = transcript_is core_size (answer_evicts s poor r evicts) later in
    e ∙ ap (λ rest. (answer poor s r).1 ++ rest) after
    ∙ ap (λ (x : SessionState × List ℕ). x.1 ++ replies core_size x.0 ls) (answer_alike s poor r evicts)
