use Rattle.std.proofs.Common.{◌≡◌, ◌≤◌, length, map, take}
use Rattle.clap.specs.Simple.{app_of, with_rule}
use Rattle.mars_app.specs.CommandLine.{file_rule, plain_mars, with_rules}
use Rattle.mars_app.specs.Code.WordTables.{rule_of_word}
use Rattle.mars_app.proofs.command_line.command.Given as goal

abbrev pub invariant-loop-word : goal.invariant-loop-word
invariant-loop-word l =
    (app_of l.command ≡ with_rules (with_rule plain_mars file_rule) (map rule_of_word (take l.word-index l.word-items))) × (l.word-index ≤ length l.word-items)
