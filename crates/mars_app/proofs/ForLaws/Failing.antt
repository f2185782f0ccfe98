-- What a run has written if it ends with an error, and that only the debugger reads.
use Rattle.std.proofs.Common.{◌≡◌, refl, ap, sym, ◌∙◌, ℕ, true, false, List, [], ◌++◌, Option, None, Some, Ok, Err, inl, inr, take, drop, take-append-drop, append_assoc, append-nil}
use Rattle.std.specs.Io.KnownBytes.{Appends, Keeps}
use Rattle.std.specs.List.{flat_map}
use Rattle.mars_cell.specs.Written.{load_text}
use Rattle.mars_match.specs.Results.{results_text}
use Rattle.mars_match.specs.Tables.{RowValue}
use Rattle.mars_core.specs.State.{State}
use Rattle.mars_app.specs.Contests.{ContestFails, contest, listing}
use Rattle.mars_app.specs.Debugging.{DebugsInPart, DebugSucceeds, first_round, session_at}
use Rattle.mars_app.specs.Faults.{RunFails}
use Rattle.mars_app.specs.Faults.RunFails.{bad, starved, unhelped, not_allowed, not_scored, not_loaded, not_written, not_debugged, not_contested}
use Rattle.mars_app.specs.Laws.{AreGiven, FailedRunsWriteABeginning, IsBeginning, OnlyTheDebuggerReads, started_with}
use Rattle.mars_app.specs.Options.{OptionsValue, said_by}
use Rattle.mars_app.specs.Runs.{Asked, RunSucceeds}
use Rattle.mars_app.specs.Runs.RunSucceeds.{helped, written, debugged, contested}
use Rattle.mars_app.specs.Streams.{StreamsValue}
use Rattle.mars_app.specs.declared.fault.RunFault.{RunFault}
use Rattle.mars_app.proofs.ForLaws.Broken.{read_fails, write_fails}
use Rattle.mars_app.proofs.ForLaws.Given.{appended, clash, debugger_wrote, fought, listings, load_files, replies_to, results, same_debugger, same_load, sessions}

-- ---- Only the debugger reads

pub only_the_debugger_reads : OnlyTheDebuggerReads
only_the_debugger_reads words known old new quiet = (succeeded, λ f. failed f)
  where
    no_debugger : (a : Asked words known) → a.options.debugger ≡ true → ⊥
    no_debugger a is_debugger = clash a.options.debugger (said_by words).debugger (ap (λ (o : OptionsValue). o.debugger) (sym a.said.said)) is_debugger quiet

    succeeded : RunSucceeds words known old new → Keeps old.unread new.unread
    succeeded (helped h text w) = w.0
    succeeded (written a l w) = w.0
    succeeded (debugged a l d s fits w) = absurd (no_debugger a d)
    succeeded (contested a l d rows fits w) = w.0

    failed : (f : RunFault) → RunFails words known old new f → Keeps old.unread new.unread
    failed f (bad e b u) = u.0
    failed f (starved e u) = u.0
    failed f (unhelped e h text w) = w.0
    failed f (not_allowed o a e r is u) = u.0
    failed f (not_scored o a p r e x is u) = u.0
    failed f (not_loaded o a p r s x first u) = u.0
    failed f (not_written a l is w) = w.0
    failed f (not_debugged a l d how) = absurd (no_debugger a d)
    failed f (not_contested a l d keeps how) = keeps

-- ---- Beginnings

untouched_begins : (one other : Option (List ℕ)) (text : List ℕ) → Keeps (Some []) one → other ≡ Some text → IsBeginning one other
untouched_begins None other text keeps whole = absurd keeps
untouched_begins (Some ys) other text keeps whole = record { text = []; rest = text; begun = ap Some keeps; whole = whole }

cut_begins : (one other : Option (List ℕ)) (n : ℕ) (text more : List ℕ) → Appends (Some []) one (take n text) → other ≡ Some (text ++ more) → IsBeginning one other
cut_begins one other n text more cut whole = record {
  text = take n text;
  rest = drop n text ++ more;
  begun = appended one (take n text) cut;
  whole = whole ∙ ap Some (ap (λ front. front ++ more) (sym (take-append-drop n text)) ∙ append_assoc (take n text) (drop n text) more);
}

whole_is : (other : Option (List ℕ)) (text : List ℕ) → other ≡ Some text → other ≡ Some (text ++ [])
whole_is other text e = e ∙ ap Some (sym (append-nil text))

module _ (words : List (List ℕ)) (known : List ℕ → Option (List ℕ)) (input : List ℕ) (one other : StreamsValue) (given : AreGiven words known) where
  -- What a run without an error has written.
  output : RunSucceeds words known (started_with input) other → (text : List ℕ) × (other.written ≡ Some text)
  output (helped h text w) = absurd (given.0 h)
  output (written b l w) = (_, appended other.written _ w.1)
  output (debugged b l d s fits w) = (_, debugger_wrote b.options.history s input other w)
  output (contested b l d rows fits w) = (_, appended other.written _ w.1)

  untouched : Keeps (Some []) one.written → RunSucceeds words known (started_with input) other → IsBeginning one.written other.written
  untouched keeps succeeds = let whole = output succeeds in untouched_begins one.written other.written whole.0 keeps whole.1

  contest_begins : (f : RunFault) (a b : Asked words known) (rows : List RowValue) → contest b.options.league b.setup b.warriors ≡ Ok rows
      → other.written ≡ Some (listing b.setup.params.core_size b.options.brief b.warriors ++ results_text rows b.options.sorted)
      → ContestFails f (contest a.options.league a.setup a.warriors) a.options.sorted (Some []) one.written (listing a.setup.params.core_size a.options.brief a.warriors)
      → IsBeginning one.written other.written
  contest_begins f a b rows fits whole (inl (inl cut)) =
      let text = listing a.setup.params.core_size a.options.brief a.warriors in
      let more = results_text rows b.options.sorted in
      cut_begins one.written other.written cut.1.0 text more cut.1.2
      (whole ∙ ap (λ front. Some (front ++ more)) (sym (listings words known given.1 a b)))
  contest_begins f a b rows fits whole (inl (inr cut)) =
      let text = listing a.setup.params.core_size a.options.brief a.warriors in
      let more = results_text rows b.options.sorted in
      cut_begins one.written other.written cut.1 text more cut.3
      (whole ∙ ap (λ front. Some (front ++ more)) (sym (listings words known given.1 a b)))
  contest_begins f a b rows fits whole (inr (inl refused)) =
      absurd (let e : Err refused.0 ≡ Ok rows = sym refused.1 ∙ fought words known given.1 a b ∙ fits in cc)
  contest_begins f a b rows fits whole (inr (inr cut)) =
      let text = listing a.setup.params.core_size a.options.brief a.warriors ++ results_text cut.0 a.options.sorted in
      cut_begins one.written other.written cut.3.0 text [] cut.3.2
      (whole_is other.written text (whole ∙ ap Some (sym (results words known given.1 a b cut.0 rows cut.1 fits))))

  in_debugger : (f : RunFault) (s t : State) (most later : ℕ) → session_at most s ≡ session_at later t → DebugsInPart f (session_at most s) (started_with input) one
      → DebugSucceeds (session_at later t) (started_with input) other → IsBeginning one.written other.written
  in_debugger f s t most later same how w =
      let wrote = debugger_wrote later t input other w ∙ ap (λ start. Some (replies_to input start)) (sym same) in
      elim how [
        | inl failed ↦ read_fails input (session_at most s) refl one.written other.written one.unread failed.1 failed.2 wrote
        | inr failed ↦ write_fails input (session_at most s) refl one.written other.written one.unread failed.1 failed.2 wrote
      ]

pub failed_runs_write_a_beginning : FailedRunsWriteABeginning
failed_runs_write_a_beginning words known input one other f given first second = both first second
  where
    nothing : Keeps (Some []) one.written → RunSucceeds words known (started_with input) other → IsBeginning one.written other.written
    nothing keeps q = untouched words known input one other given keeps q

    not_all : (a : Asked words known) → a.options.load ≡ true → (n : ℕ) → Appends (Some []) one.written (take n (flat_map (load_text a.setup.params.core_size) a.warriors))
        → RunSucceeds words known (started_with input) other → IsBeginning one.written other.written
    not_all a la n cut (helped h text w) = absurd (given.0 h)
    not_all a la n cut (written b lb w) =
        let text = flat_map (load_text a.setup.params.core_size) a.warriors in
        cut_begins one.written other.written n text [] cut
        (whole_is other.written text (appended other.written _ w.1 ∙ ap Some (sym (load_files words known given.1 a b))))
    not_all a la n cut (debugged b lb d s fits w) = absurd (clash a.options.load b.options.load (same_load words known given.1 a b) la lb)
    not_all a la n cut (contested b lb d rows fits w) = absurd (clash a.options.load b.options.load (same_load words known given.1 a b) la lb)

    debugged_in_part : (a : Asked words known) → a.options.load ≡ false → a.options.debugger ≡ true
        → (s : State) → first_round a.setup a.warriors ≡ Ok s → DebugsInPart f (session_at a.options.history s) (started_with input) one
        → RunSucceeds words known (started_with input) other → IsBeginning one.written other.written
    debugged_in_part a la da s starts how (helped h text w) = absurd (given.0 h)
    debugged_in_part a la da s starts how (written b lb w) = absurd (clash b.options.load a.options.load (same_load words known given.1 b a) lb la)
    debugged_in_part a la da s starts how (debugged b lb db t fits w) =
        in_debugger words known input one other given f s t a.options.history b.options.history (sessions words known given.1 a b s t starts fits) how w
    debugged_in_part a la da s starts how (contested b lb db rows fits w) =
        absurd (clash a.options.debugger b.options.debugger (same_debugger words known given.1 a b) da db)

    in_contest : (a : Asked words known) → a.options.load ≡ false → a.options.debugger ≡ false
        → ContestFails f (contest a.options.league a.setup a.warriors) a.options.sorted (Some []) one.written (listing a.setup.params.core_size a.options.brief a.warriors)
        → RunSucceeds words known (started_with input) other → IsBeginning one.written other.written
    in_contest a la da how (helped h text w) = absurd (given.0 h)
    in_contest a la da how (written b lb w) = absurd (clash b.options.load a.options.load (same_load words known given.1 b a) lb la)
    in_contest a la da how (debugged b lb db s fits w) =
        absurd (clash b.options.debugger a.options.debugger (same_debugger words known given.1 b a) db da)
    in_contest a la da how (contested b lb db rows fits w) =
        contest_begins words known input one other given f a b rows fits (appended other.written _ w.1) how

    both : RunFails words known (started_with input) one f → RunSucceeds words known (started_with input) other → IsBeginning one.written other.written
    both (bad e b u) q = nothing u.1 q
    both (starved e u) q = nothing u.1 q
    both (unhelped e h text w) q = absurd (given.0 h)
    both (not_allowed o a e r is u) q = nothing u.1 q
    both (not_scored o a p r e x is u) q = nothing u.1 q
    both (not_loaded o a p r s x first u) q = nothing u.1 q
    both (not_written a l is w) q = not_all a l w.1.0 w.1.2 q
    both (not_debugged a l d (inl h)) q = nothing h.1.1 q
    both (not_debugged a l d (inr h)) q = debugged_in_part a l d h.0 h.1 h.2 q
    both (not_contested a l d keeps how) q = in_contest a l d how q
