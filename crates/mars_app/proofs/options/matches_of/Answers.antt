use Rattle.std.proofs.Common.{◌≡◌, map, string_bytes, subst, true}
use Rattle.clap.specs.Faults.{fault_of, is_simple_and_free}
use Rattle.clap.specs.Kinds.{HasKind}
use Rattle.clap.specs.Simple.{App}
use Rattle.mars_app.proofs.WordsRead.{mars_is_free, matched, refused}
use Rattle.mars_app.proofs.options.matches_of.Goals as goal

pub returns-in-Ok-clause-ok : goal.returns-in-Ok-clause-ok
returns-in-Ok-clause-ok c = matched _ c.in_ok-command.field-0 c.in-Ok.matches c.in_ok-command.ensures c.in-Ok.ensures.matches c.in-Ok.ensures.kinds

pub returns-in-Err-clause-err : goal.returns-in-Err-clause-err
returns-in-Err-clause-err c =
    let words = map (λ word. string_bytes word) c.args.words.now in
    let kind = subst (λ (a : App). is_simple_and_free a ≡ true → HasKind (fault_of a words) c.in-Err.error) c.in_ok-command.ensures c.in-Err.ensures.kinds mars_is_free in
    refused words c.in-Err.error c.fault_of.result kind c.fault_of.ensures
