use Rattle.std.proofs.Common.{◌≡◌, ℕ, ◌∷◌, [], get_or, inl, inr, length, map, refl, rules, string_bytes, subst}
use Rattle.std.proofs.KnownBytes.{Keeps-refl}
use Rattle.std.proofs.lemmas.Result.{IfErr-weaker, err_from_is_err_and, on_ok_weaker}
use Rattle.mars_cell.specs.Written.{load_text}
use Rattle.mars_app.specs.Faults.{FailsToLoad, FirstFails}
use Rattle.mars_app.specs.Faults.RunFails.{not_loaded, not_written}
use Rattle.mars_app.specs.Loading.{IsLoaded}
use Rattle.mars_app.specs.Options.{value_of}
use Rattle.mars_app.specs.Runs.RunSucceeds.{written}
use Rattle.mars_app.specs.Streams.{Writes, WritesInPart}
use Rattle.mars_app.proofs.Asking.{all_play_in_part, all_play_well, asked_for, texts_alone}
use Rattle.mars_app.proofs.Loaded.{alone_fails, loaded_alone}
use Rattle.mars_app.proofs.runs.carry_out.Goals as goal

pub returns-then-options-clause-ok : goal.returns-then-options-clause-ok
returns-then-options-clause-ok g c =
    let known = g.F.WarriorFiles.known c.args.files.now in
    let o = c.args.options.now in
    let setup = c.args.setup.now in
    let p = setup.params in
    let first : get_or o.files.items 0 c.index.result.now ≡ c.index.result.now = cc in
    let alone : length o.files.items ≡ 1 = search rules in
    on_ok_weaker c.write_load_file_of.result (λ w words said.
    let there : IsLoaded known p o.rounds c.contest_size.result (string_bytes (get_or o.files.items 0 c.index.result.now)) w.1.0 = rw first (rw c.as_str.ensures.value at w.1.1) in
    let loaded = loaded_alone known p o.rounds c.contest_size.result o.files.items w.1.0 c.index.result.now alone there in
    let asked = asked_for words known o setup (w.1.0 ∷ []) _ _ said c.requires.setup refl c.contest_size.ensures loaded in
    written asked c.if-options.true (texts_alone (Writes c.args.streams.now c.write_load_file_of.new.streams) (load_text p.core_size) w.1.0 w.0 w.2 w.1.2)) c.write_load_file_of.ensures.ok

pub returns-clause-ok : goal.returns-clause-ok
returns-clause-ok g c =
    all_play_well (g.F.WarriorFiles.known c.args.files.now) c.args.options.now c.args.setup.now c.in_ok-warriors.warriors.items _ _
    c.requires.setup c.as_slice.ensures.value c.contest_size.ensures c.in_ok-warriors.ensures.loaded c.if-options.false c.play-done.result _ _ (rw c.deref.ensures.value at c.play-done.ensures.ok)

-- ---- Runs that fail

pub returns-then-options-clause-err : goal.returns-then-options-clause-err
returns-then-options-clause-err g c =
    let known = g.F.WarriorFiles.known c.args.files.now in
    let o = c.args.options.now in
    let setup = c.args.setup.now in
    let are = c.requires.setup in
    let p = setup.params in
    let first : get_or o.files.items 0 c.index.result.now ≡ c.index.result.now = cc in
    let alone : length o.files.items ≡ 1 = search rules in
    IfErr-weaker c.write_load_file_of.result _ _ (λ f h words said. elim h [
      | inl unread ↦
          let fails : FailsToLoad known p o.rounds c.contest_size.result (string_bytes (get_or o.files.items 0 c.index.result.now)) f = rw first (rw c.as_str.ensures.value at unread.0) in
          let first_fails = alone_fails known p o.rounds c.contest_size.result o.files.items c.index.result.now f alone fails in
          let counted = subst (λ (n : ℕ). FirstFails known p o.rounds n (map (λ s. string_bytes s) o.files.items) f) c.contest_size.ensures first_fails in
          not_loaded (value_of o) said p are.allowed setup.formula are.scored counted unread.1
      | inr w ↦
          let there : IsLoaded known p o.rounds c.contest_size.result (string_bytes (get_or o.files.items 0 c.index.result.now)) w.2.0 = rw first (rw c.as_str.ensures.value at w.2.1) in
          let loaded = loaded_alone known p o.rounds c.contest_size.result o.files.items w.2.0 c.index.result.now alone there in
          let asked = asked_for words known o setup (w.2.0 ∷ []) _ _ said are refl c.contest_size.ensures loaded in
          not_written asked c.if-options.true w.0 (texts_alone (WritesInPart c.args.streams.now c.write_load_file_of.new.streams) (load_text p.core_size) w.2.0 w.1 w.3 w.2.2)
    ]) c.write_load_file_of.ensures.err

pub returns-in_err-warriors-clause-err : goal.returns-in_err-warriors-clause-err
returns-in_err-warriors-clause-err g c =
    let fault = err_from_is_err_and c.from_residual.result c.from_residual.ensures.1 in
    let setup = c.args.setup.now in
    let are = c.requires.setup in
    let fails = rw (c.as_slice.ensures.value, c.contest_size.ensures) at c.in_err-warriors.ensures.err in
    rw (fault.1, fault.2) (λ words said. not_loaded (value_of c.args.options.now) said setup.params are.allowed setup.formula are.scored fails (Keeps-refl _, Keeps-refl _))

pub returns-clause-err : goal.returns-clause-err
returns-clause-err g c =
    all_play_in_part (g.F.WarriorFiles.known c.args.files.now) c.args.options.now c.args.setup.now c.in_ok-warriors.warriors.items _ _
    c.requires.setup c.as_slice.ensures.value c.contest_size.ensures c.in_ok-warriors.ensures.loaded c.if-options.false c.play-done.result _ _ (rw c.deref.ensures.value at c.play-done.ensures.err)
