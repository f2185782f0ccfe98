-- How a run succeeds or fails, for all arguments that request its options.
use Rattle.std.proofs.Common.{◌≡◌, ◌∙◌, ℕ, List, [], ◌∷◌, map, Option, Result, String, Err, IfErr, OnOk, inl, inr, false, subst, sym}
use Rattle.std.proofs.KnownBytes.{Keeps-refl}
use Rattle.std.proofs.lemmas.List.{append-nil}
use Rattle.std.proofs.lemmas.Result.{IfErr-weaker, on_ok_weaker}
use Rattle.std.specs.List.{flat_map}
use Rattle.std.specs.Global.{Global}
use Rattle.std.specs.Prelude.{string_bytes}
use Rattle.mars_cell.specs.Warriors.{WarriorValue}
use Rattle.redcode_asm.specs.Formula.{Checks}
use Rattle.redcode_asm.specs.declared.fault.FormulaFault.{FormulaFault}
use Rattle.redcode_asm.specs.declared.fault.FormulaFault.TheVariants.{Expression}
use Rattle.redcode_text.specs.declared.fault.ExprFault.{ExprFault}
use Rattle.redcode_text.specs.Tokens.{Scanned}
use Rattle.mars_app.specs.Contests.{IsSetupOf, contest_size}
use Rattle.mars_app.specs.Faults.{RunFails}
use Rattle.mars_app.specs.Faults.RunFails.{not_allowed, not_contested, not_debugged, not_scored, starved}
use Rattle.mars_app.specs.Loading.{AreLoaded}
use Rattle.mars_app.specs.Options.{Ask, value_of}
use Rattle.mars_app.specs.Runs.{Asked, RunSucceeds}
use Rattle.mars_app.specs.Runs.RunSucceeds.{contested, debugged}
use Rattle.mars_app.specs.Streams.{StreamsValue}
use Rattle.mars_app.specs.Code.Plays.{IsRefused, PlaysInPart, PlaySucceeds}
use Rattle.mars_app.specs.declared.fault.RunFault.{RunFault}
use Rattle.mars_app.specs.declared.options.Options.{Options}
use Rattle.mars_match.specs.declared.setup.Setup.{Setup}

abbrev pub asked_for : (words : List (List ℕ)) (known : List ℕ → Option (List ℕ)) (o : Options) (setup : Setup) (ws : List WarriorValue) (files : List (String Global)) (count : ℕ)
    → Ask words (value_of o) → IsSetupOf (value_of o) setup → files ≡ o.files.items → count ≡ contest_size (value_of o)
    → AreLoaded known setup.params o.rounds count (map (λ s. string_bytes s) files) ws → Asked words known
asked_for words known o setup ws files count said held files_are count_is loaded = record {
  options = value_of o;
  setup = setup;
  warriors = ws;
  said = said;
  held = held;
  loaded = rw (files_are, count_is) at loaded;
}

-- The texts of a list of one element are the text of this element.
pub texts_alone : {X : Type 0} (P : List ℕ → Type 0) (f : X → List ℕ) (x : X) (text : List ℕ) → P text → text ≡ f x → P (flat_map f (x ∷ []))
texts_alone P f x text p is = subst P (is ∙ sym (append-nil (f x))) p

-- If checking a formula gave the error `f`, which is the error `e` of an expression, `defined` has the error `e` too.
pub formula_fails : (f : FormulaFault) (e : ExprFault) (defined : Result Scanned ExprFault) → Checks (Err f) defined → f ≡ Expression e → defined ≡ Err e
formula_fails f e defined checks is = subst (λ (g : FormulaFault). Checks (Err g) defined) is checks

module _ (words : List (List ℕ)) (known : List ℕ → Option (List ℕ)) (old : StreamsValue) where
  pub options_refused : (o : Options) (f : RunFault) → IsRefused (value_of o) f → Ask words (value_of o) → RunFails words known old old f
  options_refused o f (inl memory) said = starved memory (Keeps-refl old.unread, Keeps-refl old.written)
  options_refused o f (inr (inl (e, is, held))) said = not_allowed (value_of o) said e is held (Keeps-refl old.unread, Keeps-refl old.written)
  options_refused o f (inr (inr (p, allowed, e, is, held))) said = not_scored (value_of o) said p allowed e is held (Keeps-refl old.unread, Keeps-refl old.written)

-- ---- Runs with the options, for all arguments that request them

module _ (known : List ℕ → Option (List ℕ)) (o : Options) (setup : Setup) (ws : List WarriorValue) (files : List (String Global)) (count : ℕ)
    (held : IsSetupOf (value_of o) setup) (files_are : files ≡ o.files.items) (count_is : count ≡ contest_size (value_of o))
    (loaded : AreLoaded known setup.params o.rounds count (map (λ s. string_bytes s) files) ws) (load : o.load ≡ false)
    {T : Type 0} (r : Result T RunFault) (old new : StreamsValue) where
  plays_well : PlaySucceeds (value_of o) setup ws old new → (words : List (List ℕ)) → Ask words (value_of o) → RunSucceeds words known old new
  plays_well (inl (debugger, s, starts, well)) words said =
      debugged (asked_for words known o setup ws files count said held files_are count_is loaded) load debugger s starts well
  plays_well (inr (debugger, rows, answers, writes)) words said =
      contested (asked_for words known o setup ws files count said held files_are count_is loaded) load debugger rows answers writes

  plays_in_part : (f : RunFault) → PlaysInPart (value_of o) setup ws old new f → (words : List (List ℕ)) → Ask words (value_of o) → RunFails words known old new f
  plays_in_part f (inl (debugger, part)) words said =
      not_debugged (asked_for words known o setup ws files count said held files_are count_is loaded) load debugger part
  plays_in_part f (inr (debugger, unread, part)) words said =
      not_contested (asked_for words known o setup ws files count said held files_are count_is loaded) load debugger unread part

  pub all_play_well : OnOk r (PlaySucceeds (value_of o) setup ws old new) → OnOk r ((words : List (List ℕ)) → Ask words (value_of o) → RunSucceeds words known old new)
  all_play_well = on_ok_weaker r plays_well

  pub all_play_in_part : IfErr r (PlaysInPart (value_of o) setup ws old new)
      → IfErr r (λ f. (words : List (List ℕ)) → Ask words (value_of o) → RunFails words known old new f)
  all_play_in_part = IfErr-weaker r _ _ plays_in_part
