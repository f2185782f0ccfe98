-- The arguments of the program, as `clap` parses them.
use Rattle.std.specs.Prelude.{ℕ, true, List, [], ◌∷◌, Some, codes, fold, pos}
use Rattle.mars_app.specs.Limits.{max_history, max_rounds}
use Rattle.mars_match.specs.Placement.{max_seed}
use Rattle.mars_cell.specs.Limits.{max_core_size, max_cycles, max_processes}
use Rattle.clap.specs.Lexer.{usize_max}
use Rattle.clap.specs.Simple.{App, new_rule, new_shape, with_rule}
use Rattle.clap.specs.Walk.{Rule}
use Rattle.clap.specs.declared.builder.action.ArgAction.TheVariants.{Help, SetTrue}
use Rattle.clap.specs.declared.builder.value_parser.ValueParser.TheVariants as parser

-- The option `id`, with a number from 1 to `greatest`.
abbrev pub number_rule : List ℕ → ℕ → Rule
number_rule id greatest = record (new_rule id) { value_names = 1; parser = Some (parser.Signed (pos 1) (pos greatest)) }

-- The option `id`, without a value.
abbrev pub flag_rule : List ℕ → Rule
flag_rule id = record (new_rule id) { action = Some SetTrue }

-- The option for the score formula.
abbrev pub score_rule : Rule
score_rule = record (new_rule (codes "score")) { value_names = 1 }

-- The option for the help.
abbrev pub help_rule : Rule
help_rule = record (new_rule (codes "help")) { action = Some Help }

-- The option `rule`, given by the character `letter` after `-`.
abbrev pub short : ℕ → Rule → Rule
short letter rule = record rule { short = Some letter }

-- The option `rule`, given by its name after `--`.
abbrev pub long : Rule → Rule
long rule = record rule { long = Some rule.id }

-- The option `rule`, with the value `text` if the option is not given.
abbrev pub or_else : List ℕ → Rule → Rule
or_else text rule = record rule { defaults = text ∷ [] }

-- Options of the match or league.
abbrev pub contest_rules : List Rule
contest_rules =
    short 114 (or_else (codes "1") (number_rule (codes "rounds") max_rounds))
    ∷ short 70 (number_rule (codes "fixed") max_core_size)
    ∷ long (or_else (codes "1") (number_rule (codes "seed") max_seed))
    ∷ long (or_else (codes "(W*W-1)/S") score_rule)
    ∷ long (flag_rule (codes "league"))
    ∷ []

-- Options of the core.
abbrev pub core_rules : List Rule
core_rules =
    short 115 (or_else (codes "8000") (number_rule (codes "core") max_core_size))
    ∷ short 99 (or_else (codes "80000") (number_rule (codes "cycles") max_cycles))
    ∷ short 112 (or_else (codes "8000") (number_rule (codes "processes") max_processes))
    ∷ short 108 (or_else (codes "100") (number_rule (codes "longest") max_core_size))
    ∷ short 100 (or_else (codes "100") (number_rule (codes "distance") max_core_size))
    ∷ long (number_rule (codes "read-limit") max_core_size)
    ∷ long (number_rule (codes "write-limit") max_core_size)
    ∷ []

-- Options of the output.
abbrev pub output_rules : List Rule
output_rules =
    short 98 (flag_rule (codes "brief"))
    ∷ short 111 (flag_rule (codes "sorted"))
    ∷ long (flag_rule (codes "load"))
    ∷ long help_rule
    ∷ []

-- Options of the debugger.
abbrev pub debugger_rules : List Rule
debugger_rules =
    short 101 (flag_rule (codes "debugger"))
    ∷ long (or_else (codes "200000") (number_rule (codes "history") max_history))
    ∷ []

-- The names of the warriors' files, at least one.
abbrev pub file_rule : Rule
file_rule = record (new_rule (codes "FILE")) { required = true; range = Some (record { start_inclusive = 1; end_inclusive = usize_max }) }

-- The program `app` with the options `rules` added, one after another.
abbrev pub with_rules : App → List Rule → App
with_rules app rules = fold with_rule app rules

-- The program without its options. The name of the program is not an argument, and `clap` adds no option of its own.
abbrev pub plain_mars : App
plain_mars = record { top = record (new_shape (codes "mars")) { no_binary_name = true; disable_help_flag = true }; subs = [] }

-- The program with all its arguments.
abbrev pub mars : App
mars = with_rules (with_rules (with_rules (with_rules (with_rule plain_mars file_rule) contest_rules) core_rules) debugger_rules) output_rules
