use Rattle.std.proofs.Common.{◌≡◌, rules, All, arith, get_or, inl, inr, string_bytes, sym, subst, take}
use Rattle.std.proofs.lemmas.List.{take_all}
use Rattle.std.proofs.lemmas.Result.{err_from_is_err_and}
use Rattle.mars_app.specs.Faults.{FailsToLoad}
use Rattle.mars_app.specs.declared.fault.RunFault.TheVariants.{OutOfMemory}
use Rattle.mars_app.proofs.Loaded.{first_fails, loaded_more}
use Rattle.std.proofs.lemmas.List.Elements.{All-push}
use Rattle.mars_cell.specs.Cells.{FitsCore}
use Rattle.mars_app.specs.Loading.{AllFit, IsLoaded}
use Rattle.mars_app.proofs.loading.load_warriors.Goals as goal

pub loop-name-preserved : goal.loop-name-preserved
loop-name-preserved g c = (
  subst (AllFit c.args.contest.params.now.core_size) (sym c.in-Ok.ensures.items)
      (All-push (λ w. All (FitsCore c.args.contest.params.now.core_size) w.cells) _ _ c.loop-name.invariant.0 c.in_ok-warrior.ensures.fits),
  search rules,
  (
      let contest = c.args.contest in
      let names = c.args.names.now in
      let i = c.loop-name.name-index in
      let d = c.name-item.result in
      let known = g.F.WarriorFiles.known c.args.files.now in
      let there : get_or names i d ≡ d = sym c.name-item.is in
      let read = rw c.as_str.ensures.value at c.in_ok-bytes.ensures.ok in
      let value = rw (c.as_str-in-loop-name.ensures.value, c.deref.ensures.value) at c.in_ok-warrior.ensures.value in
      let one : IsLoaded known contest.params.now contest.rounds contest.warriors (string_bytes (get_or names i d)) c.in_ok-warrior.warrior = rw there (c.in_ok-bytes.bytes.items, read, value) in
      rw c.in-Ok.ensures.items (loaded_more known contest.params.now contest.rounds contest.warriors names i d _ c.in_ok-warrior.warrior c.loop-name-test.true c.loop-name.invariant.2 one)
      ),
)

pub returns-clause-loaded : goal.returns-clause-loaded
returns-clause-loaded g c =
    let all : take c.loop-name.name-index c.args.names.now ≡ c.args.names.now = take_all _ _ (omega arith) in
    rw all at c.loop-name.invariant.2

pub returns-in_err-bytes-clause-err : goal.returns-in_err-bytes-clause-err
returns-in_err-bytes-clause-err g c =
    let fault = err_from_is_err_and c.from_residual.result c.from_residual.ensures.1 in
    let contest = c.args.contest in
    let known = g.F.WarriorFiles.known c.args.files.now in
    let names = c.args.names.now in
    let i = c.loop-name.name-index in
    let d = c.name-item.result in
    let there : get_or names i d ≡ d = sym c.name-item.is in
    let unread = rw c.as_str.ensures.value at c.in_err-bytes.ensures.err in
    let fails : FailsToLoad known contest.params.now contest.rounds contest.warriors (string_bytes (get_or names i d)) c.in_err-bytes.field-0.0 = rw there (inl unread) in
    rw (fault.1, fault.2) (first_fails known contest.params.now contest.rounds contest.warriors names i d _ _ c.loop-name-test.true c.loop-name.invariant.2 fails)

pub returns-in_err-warrior-clause-err : goal.returns-in_err-warrior-clause-err
returns-in_err-warrior-clause-err g c =
    let fault = err_from_is_err_and c.from_residual-in_err-warrior.result c.from_residual-in_err-warrior.ensures.1 in
    let contest = c.args.contest in
    let known = g.F.WarriorFiles.known c.args.files.now in
    let names = c.args.names.now in
    let i = c.loop-name.name-index in
    let d = c.name-item.result in
    let there : get_or names i d ≡ d = sym c.name-item.is in
    let read = rw c.as_str.ensures.value at c.in_ok-bytes.ensures.ok in
    let faulty = rw (c.as_str-in-loop-name.ensures.value, c.deref.ensures.value) at c.in_err-warrior.ensures.err in
    let fails : FailsToLoad known contest.params.now contest.rounds contest.warriors (string_bytes (get_or names i d)) c.in_err-warrior.field-0.0 =
    rw there (inr (c.in_ok-bytes.bytes.items, read, faulty)) in
    rw (fault.1, fault.2) (first_fails known contest.params.now contest.rounds contest.warriors names i d _ _ c.loop-name-test.true c.loop-name.invariant.2 fails)

pub returns-in_default-clause-err : goal.returns-in_default-clause-err
returns-in_default-clause-err g c =
    let contest = c.args.contest in
    first_fails (g.F.WarriorFiles.known c.args.files.now) contest.params.now contest.rounds contest.warriors c.args.names.now c.loop-name.name-index c.name-item.result _ OutOfMemory
    c.loop-name-test.true c.loop-name.invariant.2 (inl tt)
