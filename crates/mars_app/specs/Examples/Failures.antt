-- What the definitions of failures imply: of files, matches and rounds that fail, and of debuggers that stop or do
-- nothing.
use Rattle.std.specs.Prelude.{◌≡◌, ◌≢◌, ℕ, false, List, [], ◌∷◌, ◌++◌, Option, None, Some, Result, Ok, Err, String, codes, refl, string_bytes}
use Rattle.std.proofs.Common.{ap, inl, inr, subst, sym, ◌∙◌}
use Rattle.std.specs.Global.{Global}
use Rattle.mars_cell.specs.Numbers.{parse_digits}
use Rattle.mars_cell.specs.Parameters.{Parameters}
use Rattle.mars_cell.specs.Warriors.{WarriorValue}
use Rattle.mars_cell.specs.declared.fault.LoadFault.{LoadFault}
use Rattle.mars_match.specs.Tables.{RowValue}
use Rattle.mars_match.specs.declared.fault.MatchFault.{MatchFault}
use Rattle.mars_session.specs.Script.{SessionState}
use Rattle.redcode_asm.specs.declared.fault.AsmFault.{AsmFault}
use Rattle.mars_app.specs.Contests.{ContestFails, fault_of}
use Rattle.mars_app.specs.Debugger.Lines.{Splits}
use Rattle.mars_app.specs.Debugger.Requests.{alone, command_request, one_number, request_of, with_arguments}
use Rattle.mars_app.specs.Debugger.Transcript.{BrokenAt, NothingDone, Transcript, answer}
use Rattle.mars_app.specs.Debugger.Transcript.Transcript.{none, line}
use Rattle.mars_app.specs.Debugger.Words.{after_word, first_word, number_at as number_in}
use Rattle.mars_app.specs.Debugging.{StartsNothing}
use Rattle.mars_app.specs.Faults.{FailsToLoad, FirstFails, IsFaultOfFile, IsReadFaultOfFile, line_of}
use Rattle.mars_app.specs.Loading.{AreLoaded, IsLoaded, shown_name}
use Rattle.mars_app.specs.Streams.{StreamsValue}
use Rattle.mars_app.specs.declared.fault.RunFault.{RunFault}
use Rattle.mars_app.specs.declared.fault.RunFault.TheVariants as fault

one_error : {X : Type 0} {e other : MatchFault} → ◌≡◌ {A = Result X MatchFault} (Err e) (Err other) → other ≡ e
one_error same = cc

-- If the first file has no warrior, the error is about the first file.
module _ (known : List ℕ → Option (List ℕ)) (p : Parameters) (rounds count : ℕ) (name : List ℕ) (names : List (List ℕ)) (f : RunFault)
    (wrong : (w : WarriorValue) → IsLoaded known p rounds count name w → ⊥) where
  first_or_later : (before : List (List ℕ)) (other : List ℕ) (after : List (List ℕ)) (ws : List WarriorValue)
      → ◌≡◌ {A = List (List ℕ)} (name ∷ names) (before ++ other ∷ after) → AreLoaded known p rounds count before ws
      → FailsToLoad known p rounds count other f → FailsToLoad known p rounds count name f
  first_or_later [] other after ws parts loaded fails =
      let same : name ≡ other = cc in
      subst (λ name. FailsToLoad known p rounds count name f) (sym same) fails
  first_or_later (n ∷ before) other after [] parts loaded fails = absurd loaded
  first_or_later (n ∷ before) other after (w ∷ ws) parts loaded fails =
      let same : name ≡ n = cc in
      absurd (wrong w (subst (λ name. IsLoaded known p rounds count name w) (sym same) loaded.0))

  pub the_first_file_that_fails : FirstFails known p rounds count (name ∷ names) f → FailsToLoad known p rounds count name f
  the_first_file_that_fails first = first_or_later first.before first.name first.after first.warriors first.parts first.loaded first.fails

-- A match without a result has its own error, and has written its listing, unless the write failed or memory ran out.
pub a_match_without_a_result : (e : MatchFault) (f : RunFault) (new : List ℕ) → f ≢ fault.Output → f ≢ fault.OutOfMemory
    → ContestFails f (Err e) false (Some []) (Some new) (97 ∷ []) → (f ≡ fault_of e) × (new ≡ 97 ∷ [])
a_match_without_a_result e f new output memory (inl (inl cut)) = absurd (output cut.0)
a_match_without_a_result e f new output memory (inl (inr starved)) = absurd (memory starved.0)
a_match_without_a_result e f new output memory (inr (inl (other, same, is, listed))) = (is ∙ ap fault_of (one_error same), listed)
a_match_without_a_result e f new output memory (inr (inr (rows, same, held, cut))) =
    let both : ◌≡◌ {A = Result (List RowValue) MatchFault} (Err e) (Ok rows) = same in absurd cc

-- A round that cannot start has its own error, too, unless memory ran out.
pub a_round_that_cannot_start : (e : MatchFault) (f : RunFault) (old new : StreamsValue) → f ≢ fault.OutOfMemory → StartsNothing f (Err e) old new → f ≡ fault_of e
a_round_that_cannot_start e f old new memory (inl starved, untouched) = absurd (memory starved)
a_round_that_cannot_start e f old new memory (inr (other, same, is), untouched) = is ∙ ap fault_of (one_error same)

-- The error of a file shows the name of the file, and the line if the error has one.
module _ (p : Parameters) (rounds count line : ℕ) (name bytes : List ℕ) (shown : String Global) where
  pub the_line_of_a_load_file : (e : LoadFault) → IsFaultOfFile p rounds count name bytes (fault.Load shown line e)
      → (string_bytes shown ≡ shown_name name) × (line ≡ line_of e)
  the_line_of_a_load_file e f = (f.0, f.3)

  pub the_line_of_a_source : (e : AsmFault) → IsFaultOfFile p rounds count name bytes (fault.Assembly shown line e)
      → (string_bytes shown ≡ shown_name name) × (line ≡ e.line)
  the_line_of_a_source e f = (f.0, f.3)

  pub a_file_that_is_not_read : (known : List ℕ → Option (List ℕ))
      → (IsReadFaultOfFile known name (fault.CannotRead shown) → string_bytes shown ≡ shown_name name)
      × (IsReadFaultOfFile known name (fault.TooLarge shown) → string_bytes shown ≡ shown_name name)
  a_file_that_is_not_read known = (λ f. f.0, λ f. f.0)

-- The bytes after the last newline contain no newline.
pub an_unfinished_line : Splits (97 ∷ 10 ∷ 98 ∷ []) [] (97 ∷ 10 ∷ 98 ∷ []) → ⊥
an_unfinished_line s = s.unfinished.1.0 refl

-- A line is executed even if its reply cannot be written: `queue 0` leaves the session as it is.
pub a_reply_cut_off : (s t : SessionState) (text : List ℕ) → BrokenAt 8 s [] (codes "queue 0") t text → t ≡ s
unfolding answer request_of command_request with_arguments alone one_number first_word after_word number_in parse_digits
a_reply_cut_off s t text b = b.session ∙ nothing b.between b.before b.answers
  where
    nothing : (t : SessionState) (text : List ℕ) → Transcript 8 s [] t text → t ≡ s
    nothing t text none = refl

-- A debugger that has done nothing has read nothing, has written nothing, and has the session that it had.
pub nothing_done : (s t : SessionState)
    → (NothingDone (Some (97 ∷ [])) (Some []) s None t None → ⊥)
    × (NothingDone None None s (Some []) t (Some (97 ∷ [])) → ⊥)
    × (NothingDone None None s None t None → t ≡ s)
nothing_done s t = (
  λ n. let e : [] ≡ 97 ∷ [] = n.reader in cc,
  λ n. let e : 97 ∷ [] ≡ [] = n.writer in cc,
  λ n. n.session,
)
