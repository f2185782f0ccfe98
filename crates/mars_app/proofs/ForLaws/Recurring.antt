-- An error of the arguments or the files recurs.
use Rattle.std.proofs.Common.{◌≡◌, refl, ap, sym, subst, ◌∙◌, arith, ℕ, true, false, List, [], ◌∷◌, ◌++◌, Option, None, Some, Result, Ok, Err, inl, inr}
use Rattle.std.specs.Prelude.{All, IsNone, IsSome, IfSome, ◌<◌, length}
use Rattle.std.proofs.lemmas.List.Elements.{All-head, All-tail}
use Rattle.clap.specs.Kinds.{IsAmong}
use Rattle.mars_cell.specs.Load.{load}
use Rattle.mars_cell.specs.ParameterFaults.{checked_parameters}
use Rattle.mars_cell.specs.Parameters.{Parameters}
use Rattle.mars_cell.specs.Warriors.{WarriorValue}
use Rattle.mars_match.specs.declared.fault.MatchFault.{MatchFault}
use Rattle.mars_cell.specs.declared.fault.LoadFault.{LoadFault}
use Rattle.redcode_asm.specs.Assembly.{assembly}
use Rattle.redcode_asm.specs.declared.fault.AsmFault.{AsmFault}
use Rattle.redcode_asm.specs.Formula.{formula_of}
use Rattle.mars_app.specs.Contests.{contest, contest_size}
use Rattle.mars_app.specs.Debugging.{first_round}
use Rattle.mars_app.specs.Faults.{FailsToLoad, FirstFails, IsFaultOfFile, IsReadFaultOfFile, RunFails}
use Rattle.mars_app.specs.Faults.RunFails.{bad, starved, unhelped, not_allowed, not_scored, not_loaded, not_written, not_debugged, not_contested}
use Rattle.mars_app.specs.Laws.{AreGiven, ErrorsRecur, is_of_system}
use Rattle.mars_app.specs.Loading.{AreLoaded, IsLoaded, is_load_file, max_file_len}
use Rattle.mars_app.specs.Options.{AreBad, Ask, OptionsValue, are_allowed, parameters_of, said_by}
use Rattle.mars_app.specs.Runs.{Asked, RunSucceeds}
use Rattle.mars_app.specs.Runs.RunSucceeds.{helped, written, debugged, contested}
use Rattle.mars_app.specs.Streams.{StreamsValue}
use Rattle.mars_app.specs.declared.fault.RunFault.{RunFault}
use Rattle.mars_app.specs.declared.fault.RunFault.TheVariants as fault
use Rattle.mars_app.proofs.ForLaws.Given.{clash, first_rounds, fought, ok_injective, same_content, same_debugger, same_load}

-- ---- Files

module _ {X F : Type 0} (r : Result X F) where
  not_both : (x : X) (e : F) → r ≡ Ok x → r ≡ Err e → ⊥
  not_both x e is fails = let same : ◌≡◌ {A = Result X F} (Ok x) (Err e) = sym is ∙ fails in cc

module _ (known : List ℕ → Option (List ℕ)) (p : Parameters) (rounds count : ℕ) where
  -- The file at one place of a list has a warrior if all have.
  loaded_at : (before : List (List ℕ)) (name : List ℕ) (after : List (List ℕ)) (ws : List WarriorValue)
      → All (λ name. IsSome (known name)) (before ++ name ∷ after) → AreLoaded known p rounds count (before ++ name ∷ after) ws
      → IsSome (known name) × (w : WarriorValue) × IsLoaded known p rounds count name w
  loaded_at [] name after [] all loaded = absurd loaded
  loaded_at [] name after (w ∷ ws) all loaded = (All-head (λ name. IsSome (known name)) name after all, w, loaded.0)
  loaded_at (n ∷ before) name after [] all loaded = absurd loaded
  loaded_at (n ∷ before) name after (w ∷ ws) all loaded =
      loaded_at before name after ws (All-tail (λ name. IsSome (known name)) n (before ++ name ∷ after) all) loaded.1

  module _ (name : List ℕ) (w : WarriorValue) (there : IsSome (known name)) (loaded : IsLoaded known p rounds count name w) where
    not_missing : (content : Option (List ℕ)) → IsSome content → IsNone content → ⊥
    not_missing None some none = let e : false ≡ true = some in cc
    not_missing (Some bytes) some none = let e : true ≡ false = none in cc

    not_large : (content : Option (List ℕ)) → IsSome content → IfSome content (λ whole. loaded.0 ≡ whole) → IfSome content (λ bytes. max_file_len < length bytes) → ⊥
    not_large None some is large = let e : false ≡ true = some in cc
    not_large (Some bytes) some is large = let short = rw is at loaded.1.1 in omega (arith, large, short)

    -- The file can be read.
    is_read : (f : RunFault) → is_of_system f ≡ false → IsReadFaultOfFile known name f → ⊥
    is_read fault.Words own h = h
    is_read (fault.Parameters e) own h = h
    is_read (fault.Formula e) own h = h
    is_read (fault.CannotRead shown) own h = not_missing (known name) there h.1
    is_read (fault.TooLarge shown) own h = not_large (known name) there loaded.1.0 h.1
    is_read (fault.Load shown line g) own h = h
    is_read (fault.Assembly shown line g) own h = h
    is_read (fault.Placement e) own h = h
    is_read (fault.Battle e) own h = h
    is_read (fault.Score e) own h = h
    is_read fault.OutOfMemory own h = let e : true ≡ false = own in cc
    is_read fault.Output own h = h
    is_read fault.Commands own h = h

    no_load : (bytes : List ℕ) (g : LoadFault) → bytes ≡ loaded.0 → is_load_file name ≡ true → load p.core_size p.max_length bytes ≡ Err g → ⊥
    no_load bytes g same is_load fails = let none : None ≡ Some w = rw (← same, is_load, fails) at loaded.2 in cc

    no_source : (bytes : List ℕ) (g : AsmFault) → bytes ≡ loaded.0 → is_load_file name ≡ false → assembly p rounds count bytes ≡ Err g → ⊥
    no_source bytes g same is_load fails = let none : None ≡ Some w = rw (← same, is_load, fails) at loaded.2 in cc

    -- The content of the file is a warrior.
    is_warrior : (f : RunFault) (bytes : List ℕ) → is_of_system f ≡ false → bytes ≡ loaded.0 → IsFaultOfFile p rounds count name bytes f → ⊥
    is_warrior fault.Words bytes own same h = h
    is_warrior (fault.Parameters e) bytes own same h = h
    is_warrior (fault.Formula e) bytes own same h = h
    is_warrior (fault.CannotRead shown) bytes own same h = h
    is_warrior (fault.TooLarge shown) bytes own same h = h
    is_warrior (fault.Load shown line g) bytes own same h = no_load bytes g same h.1 h.2
    is_warrior (fault.Assembly shown line g) bytes own same h = no_source bytes g same h.1 h.2
    is_warrior (fault.Placement e) bytes own same h = h
    is_warrior (fault.Battle e) bytes own same h = h
    is_warrior (fault.Score e) bytes own same h = h
    is_warrior fault.OutOfMemory bytes own same h = let e : true ≡ false = own in cc
    is_warrior fault.Output bytes own same h = h
    is_warrior fault.Commands bytes own same h = h

    loads : (f : RunFault) → is_of_system f ≡ false → FailsToLoad known p rounds count name f → ⊥
    loads f own (inl unread) = is_read f own unread
    loads f own (inr (bytes, read, wrong)) = is_warrior f bytes own (same_content (known name) bytes loaded.0 there read.0 loaded.1.0) wrong

-- ---- Runs

module _ (words : List (List ℕ)) (known : List ℕ → Option (List ℕ)) (is_given : AreGiven words known) (f : RunFault) (own : is_of_system f ≡ false) where
  all : All (λ name. IsSome (known name)) (said_by words).files
  all = is_given.1

  not_system : (g : RunFault) → f ≡ g → is_of_system g ≡ true → ⊥
  not_system g is system = let e : true ≡ false = sym system ∙ ap is_of_system (sym is) ∙ own in cc

  same_options : (o : OptionsValue) → Ask words o → (a : Asked words known) → o ≡ a.options
  same_options o said a = sym said.said ∙ a.said.said

  not_bad : (a : Asked words known) → AreBad words → ⊥
  not_bad a (inl (k, among, other)) = subst (λ kinds. IsAmong k kinds) a.said.taken among
  not_bad a (inr (taken, wrong)) = let e : true ≡ false = sym a.said.allowed ∙ ap are_allowed (sym a.said.said) ∙ wrong in cc

  all_load : (o : OptionsValue) → Ask words o → (p : Parameters) → checked_parameters (parameters_of o) ≡ Ok p → (a : Asked words known)
      → FirstFails known p o.rounds (contest_size o) o.files f → ⊥
  all_load o said p allowed a first =
      let same = same_options o said a in
      let params = ok_injective p a.setup.params (sym allowed ∙ ap (λ o. checked_parameters (parameters_of o)) same ∙ a.held.allowed) in
      let Loaded : Parameters → OptionsValue → Type 0 = λ p o. AreLoaded known p o.rounds (contest_size o) o.files a.warriors in
      let loaded = subst (λ p. Loaded p o) (sym params) (subst (λ o. Loaded a.setup.params o) (sym same) a.loaded) in
      let there = subst (λ (o : OptionsValue). All (λ name. IsSome (known name)) o.files) said.said all in
      let count = contest_size o in
      let known_all = subst (λ names. All (λ name. IsSome (known name)) names) first.parts there in
      let all_loaded = subst (λ names. AreLoaded known p o.rounds count names a.warriors) first.parts loaded in
      let found = loaded_at known p o.rounds count first.before first.name first.after a.warriors known_all all_loaded in
      loads known p o.rounds count first.name found.1 found.0 found.2 f own first.fails

  module _ (before after : StreamsValue) where
    asked_by : RunSucceeds words known before after → Asked words known
    asked_by (helped h text w) = absurd (is_given.0 h)
    asked_by (written a l w) = a
    asked_by (debugged a l d s starts w) = a
    asked_by (contested a l d rows is w) = a

    starts_again : (a : Asked words known) → a.options.load ≡ false → a.options.debugger ≡ true → (g : MatchFault) → first_round a.setup a.warriors ≡ Err g
        → RunSucceeds words known before after → ⊥
    starts_again a la da g fails (helped h text w) = is_given.0 h
    starts_again a la da g fails (written b lb w) = clash b.options.load a.options.load (same_load words known all b a) lb la
    starts_again a la da g fails (debugged b lb db s starts w) =
        not_both (first_round a.setup a.warriors) s g (first_rounds words known all a b ∙ starts) fails
    starts_again a la da g fails (contested b lb db rows is w) = clash a.options.debugger b.options.debugger (same_debugger words known all a b) da db

    fights_again : (a : Asked words known) → a.options.load ≡ false → a.options.debugger ≡ false → (g : MatchFault)
        → contest a.options.league a.setup a.warriors ≡ Err g → RunSucceeds words known before after → ⊥
    fights_again a la da g fails (helped h text w) = is_given.0 h
    fights_again a la da g fails (written b lb w) = clash b.options.load a.options.load (same_load words known all b a) lb la
    fights_again a la da g fails (debugged b lb db s starts w) = clash b.options.debugger a.options.debugger (same_debugger words known all b a) db da
    fights_again a la da g fails (contested b lb db rows is w) =
        not_both (contest a.options.league a.setup a.warriors) rows g (fought words known all a b ∙ is) fails

pub errors_recur : ErrorsRecur
errors_recur words known old new before after f is_given own first second = both first second
  where
    system : (g : RunFault) → f ≡ g → is_of_system g ≡ true → ⊥
    system g is of_system = not_system words known is_given f own g is of_system

    both : RunFails words known old new f → RunSucceeds words known before after → ⊥
    both (bad e b u) q = not_bad words known is_given f own (asked_by words known is_given f own before after q) b
    both (starved e u) q = system fault.OutOfMemory e refl
    both (unhelped e h text w) q = is_given.0 h
    both (not_allowed o said e fails is u) q =
        let a = asked_by words known is_given f own before after q in
        let same = same_options words known is_given f own o said a in
        not_both (checked_parameters (parameters_of o)) a.setup.params e (ap (λ o. checked_parameters (parameters_of o)) same ∙ a.held.allowed) fails
    both (not_scored o said p allowed e fails is u) q =
        let a = asked_by words known is_given f own before after q in
        let same = same_options words known is_given f own o said a in
        not_both (formula_of o.score) a.setup.formula e (ap (λ (o : OptionsValue). formula_of o.score) same ∙ a.held.scored) fails
    both (not_loaded o said p allowed s scored first u) q =
        all_load words known is_given f own o said p allowed (asked_by words known is_given f own before after q) first
    both (not_written a l is w) q = system fault.Output is refl
    both (not_debugged a la da (inl nothing)) q = elim nothing.0 [
      | inl memory ↦ system fault.OutOfMemory memory refl
      | inr failed ↦ starts_again words known is_given f own before after a la da failed.0 failed.1 q
    ]
    both (not_debugged a la da (inr part)) q = elim part.2 [
      | inl unread ↦ system fault.Commands unread.0 refl
      | inr unwritten ↦ system fault.Output unwritten.0 refl
    ]
    both (not_contested a la da keeps (inl (inl cut))) q = system fault.Output cut.0 refl
    both (not_contested a la da keeps (inl (inr cut))) q = system fault.OutOfMemory cut.0 refl
    both (not_contested a la da keeps (inr (inl failed))) q = fights_again words known is_given f own before after a la da failed.0 failed.1 q
    both (not_contested a la da keeps (inr (inr cut))) q = system fault.Output cut.2 refl
