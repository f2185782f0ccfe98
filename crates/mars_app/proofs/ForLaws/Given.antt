-- What a run that ends without an error writes depends only on what was given to it.
use Rattle.std.proofs.Common.{◌≡◌, refl, ap, sym, subst, ◌∙◌, ℕ, Bool, true, false, List, [], ◌∷◌, ◌++◌, Option, None, Some, Result, Ok, inl, inr, append-nil}
use Rattle.std.specs.Prelude.{◌⊎◌, All, IsSome, IfSome}
use Rattle.std.specs.List.{flat_map}
use Rattle.std.specs.Io.KnownBytes.{Appends, Consumes, IsAtEnd}
use Rattle.std.proofs.lemmas.List.Elements.{All-head, All-tail}
use Rattle.std.proofs.lemmas.Option.{same_Some}
use Rattle.mars_cell.specs.ParameterFaults.{checked_parameters}
use Rattle.mars_cell.specs.Parameters.{Parameters}
use Rattle.mars_cell.specs.Warriors.{WarriorValue}
use Rattle.mars_cell.specs.Load.{lines_of}
use Rattle.mars_cell.specs.Written.{load_text}
use Rattle.mars_core.specs.State.{State}
use Rattle.mars_match.specs.Results.{results_text}
use Rattle.mars_match.specs.Tables.{RowValue}
use Rattle.redcode_asm.specs.Formula.{formula_of}
use Rattle.mars_session.specs.Script.{SessionState}
use Rattle.mars_app.specs.Contests.{contest, contest_size, listing}
use Rattle.mars_app.specs.Debugger.Transcript.{HasQuit, core_size_of, until_quit}
use Rattle.mars_app.specs.Debugging.{DebugSucceeds, first_round, session_at}
use Rattle.mars_app.specs.Laws.{EqualRunsWriteTheSame, started_with}
use Rattle.mars_app.specs.Loading.{AreLoaded, IsLoaded, warrior_of_file}
use Rattle.mars_app.specs.Options.{OptionsValue, parameters_of, said_by}
use Rattle.mars_app.specs.Runs.{Asked, RunSucceeds}
use Rattle.mars_app.specs.Runs.RunSucceeds.{helped, written, debugged, contested}
use Rattle.mars_app.specs.Streams.{StreamsValue}
use Rattle.mars_app.proofs.ForLaws.Replies.{replies, transcript_is}
use Rattle.mars_app.proofs.Transcripts.LinesOf.{quit_before, until_quit-is}

-- ---- Warriors

pub same_content : (content : Option (List ℕ)) (a b : List ℕ) → IsSome content → IfSome content (λ whole. a ≡ whole) → IfSome content (λ whole. b ≡ whole) → a ≡ b
same_content None a b known first second = absurd (let e : false ≡ true = known in cc)
same_content (Some whole) a b known first second = first ∙ sym second

module _ (known : List ℕ → Option (List ℕ)) (p : Parameters) (rounds count : ℕ) where
  same_warrior : (name : List ℕ) (v w : WarriorValue) → IsSome (known name)
      → IsLoaded known p rounds count name v → IsLoaded known p rounds count name w → v ≡ w
  same_warrior name v w there first second =
      let bytes = same_content (known name) first.0 second.0 there first.1.0 second.1.0 in
      same_Some v w (sym first.2 ∙ ap (warrior_of_file p rounds count name) bytes ∙ second.2)

  same_warriors : (names : List (List ℕ)) (vs ws : List WarriorValue)
      → All (λ name. IsSome (known name)) names
      → AreLoaded known p rounds count names vs → AreLoaded known p rounds count names ws → vs ≡ ws
  same_warriors [] [] [] all first second = refl
  same_warriors [] [] (w ∷ ws) all first second = absurd second
  same_warriors [] (v ∷ vs) ws all first second = absurd first
  same_warriors (name ∷ names) [] ws all first second = absurd first
  same_warriors (name ∷ names) (v ∷ vs) [] all first second = absurd second
  same_warriors (name ∷ names) (v ∷ vs) (w ∷ ws) all first second =
      let here = same_warrior name v w (All-head (λ name. IsSome (known name)) name names all) first.0 second.0 in
      let there = same_warriors names vs ws (All-tail (λ name. IsSome (known name)) name names all) first.1 second.1 in
      cc

-- ---- What was requested

pub ok_injective : {X F : Type 0} (x y : X) → ◌≡◌ {A = Result X F} (Ok x) (Ok y) → x ≡ y
ok_injective x y e = cc

module _ (words : List (List ℕ)) (known : List ℕ → Option (List ℕ)) (all : All (λ name. IsSome (known name)) (said_by words).files) (a b : Asked words known) where
  options : a.options ≡ b.options
  options = sym a.said.said ∙ b.said.said

  params : a.setup.params ≡ b.setup.params
  params = ok_injective a.setup.params b.setup.params (sym a.held.allowed ∙ ap (λ o. checked_parameters (parameters_of o)) options ∙ b.held.allowed)

  formula : a.setup.formula ≡ b.setup.formula
  formula = ok_injective a.setup.formula b.setup.formula (sym a.held.scored ∙ ap (λ (o : OptionsValue). formula_of o.score) options ∙ b.held.scored)

  rounds : a.setup.plan.rounds ≡ b.setup.plan.rounds
  rounds = a.held.rounds ∙ ap (λ (o : OptionsValue). o.rounds) options ∙ sym b.held.rounds

  seed : a.setup.plan.seed ≡ b.setup.plan.seed
  seed = a.held.seed ∙ ap (λ (o : OptionsValue). o.seed) options ∙ sym b.held.seed

  fixed : a.setup.plan.fixed ≡ b.setup.plan.fixed
  fixed = a.held.fixed ∙ ap (λ (o : OptionsValue). o.fixed) options ∙ sym b.held.fixed

  warriors : a.warriors ≡ b.warriors
  warriors =
      let Loaded : Parameters → OptionsValue → Type 0 = λ p o. AreLoaded known p o.rounds (contest_size o) o.files a.warriors in
      let p = b.setup.params in
      let o = b.options in
      let first = subst (λ o. Loaded p o) options (subst (λ p. Loaded p a.options) params a.loaded) in
      let there = subst (λ (o : OptionsValue). All (λ name. IsSome (known name)) o.files) b.said.said all in
      same_warriors known p o.rounds (contest_size o) o.files a.warriors b.warriors there first b.loaded

  pub same_load : a.options.load ≡ b.options.load
  same_load = ap (λ (o : OptionsValue). o.load) options

  pub same_debugger : a.options.debugger ≡ b.options.debugger
  same_debugger = ap (λ (o : OptionsValue). o.debugger) options

  -- The load files are the same.
  pub load_files : flat_map (load_text a.setup.params.core_size) a.warriors ≡ flat_map (load_text b.setup.params.core_size) b.warriors
  load_files = rw (params, warriors) refl

  -- The battle of the first round is the same.
  pub first_rounds : first_round a.setup a.warriors ≡ first_round b.setup b.warriors
  first_rounds = rw (params, warriors, fixed, seed) refl

  -- The session of the debugger is the same.
  pub sessions : (s t : State) → first_round a.setup a.warriors ≡ Ok s → first_round b.setup b.warriors ≡ Ok t
      → session_at a.options.history s ≡ session_at b.options.history t
  sessions s t first second =
      let state : s ≡ t = ok_injective s t (sym first ∙ first_rounds ∙ second) in
      let most : a.options.history ≡ b.options.history = ap (λ (o : OptionsValue). o.history) options in
      rw (state, most) refl

  -- The listing is the same.
  pub listings : listing a.setup.params.core_size a.options.brief a.warriors ≡ listing b.setup.params.core_size b.options.brief b.warriors
  listings =
      let brief : a.options.brief ≡ b.options.brief = ap (λ (o : OptionsValue). o.brief) options in
      rw (params, brief, warriors) refl

  -- The result of the match or league is the same.
  pub fought : contest a.options.league a.setup a.warriors ≡ contest b.options.league b.setup b.warriors
  fought =
      let league : a.options.league ≡ b.options.league = ap (λ (o : OptionsValue). o.league) options in
      rw (league, params, warriors, formula, fixed, rounds, seed) refl

  -- The listing and the results are the same.
  pub results : (xs ys : List RowValue) → contest a.options.league a.setup a.warriors ≡ Ok xs → contest b.options.league b.setup b.warriors ≡ Ok ys
      → listing a.setup.params.core_size a.options.brief a.warriors ++ results_text xs a.options.sorted
      ≡ listing b.setup.params.core_size b.options.brief b.warriors ++ results_text ys b.options.sorted
  results xs ys first second =
      let sorted : a.options.sorted ≡ b.options.sorted = ap (λ (o : OptionsValue). o.sorted) options in
      let rows : xs ≡ ys = ok_injective xs ys (sym first ∙ fought ∙ second) in
      rw (listings, rows, sorted) refl

-- ---- What was written

pub appended : (w : Option (List ℕ)) (text : List ℕ) → Appends (Some []) w text → w ≡ Some text
appended None text h = absurd h
appended (Some ys) text h = ap Some h

-- The replies of the debugger to its input.
abbrev pub replies_to : List ℕ → SessionState → List ℕ
replies_to input start = replies (core_size_of start) start (until_quit (core_size_of start) (lines_of input))

-- The lines that are executed are those of the whole input, however it was split into reads.
pub lines_of_all : (core : ℕ) (input bytes : List ℕ) (left : Option (List ℕ)) → Consumes (Some input) left bytes → HasQuit core bytes ⊎ IsAtEnd left
    → until_quit core (lines_of bytes) ≡ until_quit core (lines_of input)
lines_of_all core input bytes None consumed ends = absurd consumed
lines_of_all core input bytes (Some more) consumed (inl quit) =
    until_quit-is core bytes quit ∙ sym (until_quit-is core (bytes ++ more) (quit_before core bytes more quit))
    ∙ ap (λ bytes. until_quit core (lines_of bytes)) (sym consumed)
lines_of_all core input bytes (Some more) consumed (inr end) =
    ap (λ bytes. until_quit core (lines_of bytes)) (sym (append-nil bytes) ∙ ap (λ more. bytes ++ more) (sym end) ∙ sym consumed)

pub debugger_wrote : (most : ℕ) (s : State) (input : List ℕ) (new : StreamsValue) → DebugSucceeds (session_at most s) (started_with input) new
    → new.written ≡ Some (replies_to input (session_at most s))
debugger_wrote most s input new h =
    let start = session_at most s in
    let core = core_size_of start in
    let lines = lines_of_all core input h.1.bytes new.unread h.1.consumed h.1.ends in
    appended new.written h.1.text h.1.written ∙ ap Some (transcript_is core refl h.1.answers ∙ ap (replies core start) lines)

pub clash : (x y : Bool) → x ≡ y → x ≡ true → y ≡ false → ⊥
clash x y same first second = let e : true ≡ false = sym first ∙ same ∙ second in cc

pub equal_runs_write_the_same : EqualRunsWriteTheSame
equal_runs_write_the_same words known input one other given first second = both first second
  where
    all : All (λ name. IsSome (known name)) (said_by words).files
    all = given.1

    both : RunSucceeds words known (started_with input) one → RunSucceeds words known (started_with input) other → one.written ≡ other.written
    both (helped h text w) q = absurd (given.0 h)
    both p (helped h text w) = absurd (given.0 h)
    both (written a la wa) (written b lb wb) =
        appended one.written _ wa.1 ∙ ap Some (load_files words known all a b) ∙ sym (appended other.written _ wb.1)
    both (written a la wa) (debugged b lb db s fb wb) = absurd (clash a.options.load b.options.load (same_load words known all a b) la lb)
    both (written a la wa) (contested b lb db rows fb wb) = absurd (clash a.options.load b.options.load (same_load words known all a b) la lb)
    both (debugged a la da s fa wa) (written b lb wb) = absurd (clash b.options.load a.options.load (same_load words known all b a) lb la)
    both (debugged a la da s fa wa) (debugged b lb db t fb wb) =
        debugger_wrote a.options.history s input one wa
        ∙ ap (λ start. Some (replies_to input start)) (sessions words known all a b s t fa fb)
        ∙ sym (debugger_wrote b.options.history t input other wb)
    both (debugged a la da s fa wa) (contested b lb db rows fb wb) = absurd (clash a.options.debugger b.options.debugger (same_debugger words known all a b) da db)
    both (contested a la da rows fa wa) (written b lb wb) = absurd (clash b.options.load a.options.load (same_load words known all b a) lb la)
    both (contested a la da rows fa wa) (debugged b lb db t fb wb) = absurd (clash b.options.debugger a.options.debugger (same_debugger words known all b a) db da)
    both (contested a la da xs fa wa) (contested b lb db ys fb wb) =
        appended one.written _ wa.1 ∙ ap Some (results words known all a b xs ys fa fb) ∙ sym (appended other.written _ wb.1)
