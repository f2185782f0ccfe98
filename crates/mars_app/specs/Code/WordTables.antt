-- The rules of `clap` for the options in the table.
--
-- A proof by computation shows that they are the rules of the definition (`CommandLine`). So what `clap` requires of the command can
-- be computed, too (`clap_on_literals`).
use Rattle.std.specs.Prelude.{ℕ, None, Option, Some, pos}
use Rattle.std.specs.Borrow.{Bor}
use Rattle.clap.specs.Simple.{new_rule}
use Rattle.clap.specs.Walk.{Rule, Text}
use Rattle.clap.specs.declared.builder.value_parser.ValueParser.TheVariants as parser
use Rattle.mars_app.specs.CommandLine.{long, or_else, short}
use Rattle.mars_app.specs.declared.command_line.Value.{Value}
use Rattle.mars_app.specs.declared.command_line.Value.TheVariants as value
use Rattle.mars_app.specs.declared.command_line.Word.{Word}

-- The rule `rule` with what follows the option: nothing, a number or a formula.
abbrev pub valued : Value → Rule → Rule
valued (value.Flag action) rule = record rule { action = Some action }
valued (value.Number greatest) rule = record rule { value_names = 1; parser = Some (parser.Signed (pos 1) (pos greatest)) }
valued value.Formula rule = record rule { value_names = 1 }

-- The rule of an option with a letter (after one minus), or otherwise with a name (after two).
abbrev pub reached : Option ℕ → Text → Rule
reached (Some letter) name = short letter (new_rule name)
reached None name = long (new_rule name)

-- The rule `rule` with the default of the option, if the option has a default.
abbrev pub defaulted : Option (Bor Text) → Rule → Rule
defaulted (Some text) rule = or_else text.now rule
defaulted None rule = rule

-- The rule of an option of the table.
abbrev pub rule_of_word : Word → Rule
rule_of_word word = defaulted word.default (valued word.value (reached word.letter word.name.now))
