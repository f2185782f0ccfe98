use Rattle.std.proofs.Common.{◌∙◌, ◌≡◌, ap, arith, rules, take}
use Rattle.std.proofs.lemmas.List.{take_all}
use Rattle.clap.specs.Simple.{app_of_fields, with_rule}
use Rattle.mars_app.specs.CommandLine.{file_rule, plain_mars, with_rules}
use Rattle.mars_app.specs.Code.WordTables.{rule_of_word}
use Rattle.mars_app.proofs.Adding.{added, word_added}
use Rattle.mars_app.proofs.command_line.command.Goals as goal

pub loop-word-init : goal.loop-word-init
loop-word-init c =
    (added _ c.files.result _ _ _ c.in_ok-command.ensures c.files.ensures.rule c.files.ensures.local c.plain_command.ensures, omega arith)

pub loop-word-preserved : goal.loop-word-preserved
loop-word-preserved c = (
  word_added rule_of_word c.words-word-items.result.now c.loop-word.word-index _ _ _ c.arg-in-loop-word.result _ c.loop-word-test.true c.in_ok-command-2.ensures
      c.arg-in-loop-word.ensures.rule c.arg-in-loop-word.ensures.local (ap app_of_fields c.next_help_heading.ensures ∙ c.loop-word.invariant.0),
  search rules,
)

pub returns : goal.returns
returns c =
    let all : take c.loop-word.word-index c.words-word-items.result.now ≡ c.words-word-items.result.now = take_all _ _ (omega arith) in
    (rw all at c.loop-word.invariant.0) ∙ ap (with_rules (with_rule plain_mars file_rule)) c.words-word-items.ensures
