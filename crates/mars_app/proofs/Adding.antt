-- The rules of a command to which options are added, one after another.
--
-- The options are in one table and one loop adds them, so one lemma is enough (`word_added`), and `app_of` of the command is a
-- fold of rules.
use Rattle.std.specs.Prelude.{◌≡◌, ℕ, ◌+◌, ◌<◌, false, List, [], ◌∷◌, get_or, length, map, take}
use Rattle.std.proofs.Common.{◌∙◌, ap₂, refl}
use Rattle.std.proofs.lemmas.List.{map-append, take_more}
use Rattle.std.proofs.lemmas.List.Sums.{fold-append}
use Rattle.clap.specs.Built.{AddsArg}
use Rattle.clap.specs.Simple.{App, app_of, with_rule}
use Rattle.clap.specs.Walk.{Rule, rule_of}
use Rattle.clap.specs.declared.builder.arg.Arg.{Arg}
use Rattle.clap.specs.declared.builder.command.Command.{Command}
use Rattle.mars_app.specs.CommandLine.{with_rules}

pub added : (start : Command) (a : Arg) (made : Command) (app : App) (rule : Rule) → AddsArg start a made → rule_of a ≡ rule → a.global ≡ false
    → app_of start ≡ app → app_of made ≡ with_rule app rule
added start a made app rule adds is local from = adds.shape local ∙ ap₂ with_rule from is

-- Adding one more option of the table.
pub word_added : {W : Type 0} (rule_of_word : W → Rule) (words : List W) (i : ℕ) (d : W) (app : App) (start : Command) (a : Arg) (made : Command)
    → i < length words → AddsArg start a made → rule_of a ≡ rule_of_word (get_or words i d) → a.global ≡ false
    → app_of start ≡ with_rules app (map rule_of_word (take i words)) → app_of made ≡ with_rules app (map rule_of_word (take (i + 1) words))
word_added rule_of_word words i d app start a made inside adds is local from =
    added start a made _ _ adds is local from
    ∙ rw (
      take_more words i d inside,
      map-append rule_of_word (take i words) (get_or words i d ∷ []),
      fold-append with_rule app (map rule_of_word (take i words)) (rule_of_word (get_or words i d) ∷ []),
    ) refl
