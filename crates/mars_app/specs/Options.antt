-- The options that the arguments say, when they are allowed, and the parameters that they make.
use Rattle.std.specs.Prelude.{◌≡◌, ⊤, ◌⊎◌, ℕ, ◌+◌, ◌==◌, ◌^◌, Bool, false, true, not, ◌&&◌, ◌||◌, nat_le, nat_lt, List, [], length, map, Option, None, Some, option_and_then, Result, Ok, Err, if◌then◌else◌, codes, string_bytes}
use Rattle.std.specs.Option.{option_map_or, unwrap_or}
use Rattle.std.specs.Str.{bytes_eq}
use Rattle.std.specs.Str.Parse.{digits_value, without_leading_plus}
use Rattle.mars_core.specs.Limits.{max_warriors}
use Rattle.mars_app.specs.Limits.{max_history, max_rounds}
use Rattle.mars_match.specs.Placement.{max_seed}
use Rattle.mars_cell.specs.Limits.{max_core_size, max_cycles, max_processes}
use Rattle.clap.specs.Faults.{fault_of}
use Rattle.clap.specs.Kinds.{IsAmong}
use Rattle.clap.specs.Simple.{matches_of}
use Rattle.clap.specs.ValueTests.{is_numeral}
use Rattle.clap.specs.Walk.{Row, Text, all_of, first_of, one_of}
use Rattle.clap.specs.declared.error.kind.ErrorKind.{ErrorKind}
use Rattle.clap.specs.declared.error.kind.ErrorKind.TheVariants as kind
use Rattle.mars_cell.specs.Parameters.{Parameters}
use Rattle.mars_app.specs.CommandLine.{mars}
use Rattle.mars_app.specs.declared.options.Options.{Options}
use Rattle.mars_app.specs.declared.options.WordsFault.{WordsFault}
use Rattle.mars_app.specs.declared.options.WordsFault.TheVariants as fault

-- The options, with their texts as bytes.
pub record OptionsValue : Type 0 where
  pub files : List Text
  pub rounds : ℕ
  pub core : ℕ
  pub cycles : ℕ
  pub processes : ℕ
  pub longest : ℕ
  pub distance : ℕ
  pub fixed : Option ℕ
  pub debugger : Bool
  pub brief : Bool
  pub sorted : Bool
  pub seed : ℕ
  pub score : Text
  pub league : Bool
  pub load : Bool
  pub read_limit : Option ℕ
  pub write_limit : Option ℕ
  pub history : ℕ

-- The options of the program, with their texts as bytes.
abbrev pub value_of : Options → OptionsValue
value_of o = record {
  files = map (λ name. string_bytes name) o.files.items;
  rounds = o.rounds;
  core = o.core;
  cycles = o.cycles;
  processes = o.processes;
  longest = o.longest;
  distance = o.distance;
  fixed = o.fixed;
  debugger = o.debugger;
  brief = o.brief;
  sorted = o.sorted;
  seed = o.seed;
  score = string_bytes o.score;
  league = o.league;
  load = o.load;
  read_limit = o.read_limit;
  write_limit = o.write_limit;
  history = o.history;
}

-- The number that `text` is, if it has only digits and fits in 32 bits. A plus may precede the digits.
abbrev pub number_of : Text → Option ℕ
number_of text =
    let digits = without_leading_plus text in
    if is_numeral digits && nat_lt (digits_value 10 digits) (2 ^ 32) then Some (digits_value 10 digits) else None

-- The number of the option `word`, if it is given or has a default.
abbrev pub given_number : Text → List Row → Option ℕ
given_number word rows = option_and_then number_of (one_of word rows)

-- The number of the option `word`, or 0 if it has none.
abbrev pub number : Text → List Row → ℕ
number word rows = unwrap_or (given_number word rows) 0

-- Whether the option `word`, which has no value, is given.
abbrev pub is_given : Text → List Row → Bool
is_given word rows = option_map_or (λ text. bytes_eq text (codes "true")) (one_of word rows) false

-- The options that the matches of `clap` say.
abbrev pub options_of : List Row → OptionsValue
options_of rows = record {
  files = unwrap_or (all_of (codes "FILE") rows) [];
  rounds = number (codes "rounds") rows;
  core = number (codes "core") rows;
  cycles = number (codes "cycles") rows;
  processes = number (codes "processes") rows;
  longest = number (codes "longest") rows;
  distance = number (codes "distance") rows;
  fixed = given_number (codes "fixed") rows;
  debugger = is_given (codes "debugger") rows;
  brief = is_given (codes "brief") rows;
  sorted = is_given (codes "sorted") rows;
  seed = number (codes "seed") rows;
  score = unwrap_or (first_of (codes "score") rows) [];
  league = is_given (codes "league") rows;
  load = is_given (codes "load") rows;
  read_limit = given_number (codes "read-limit") rows;
  write_limit = given_number (codes "write-limit") rows;
  history = number (codes "history") rows;
}

-- Whether a number is in the range from `least` to `greatest`, both included.
abbrev pub is_between : ℕ → ℕ → ℕ → Bool
is_between least greatest n = nat_le least n && nat_le n greatest

-- The limit is a number of cells of a core, if it is given. A limit that is not given is the core size.
abbrev pub is_limit : Option ℕ → Bool
is_limit limit = option_map_or (is_between 1 max_core_size) limit true

-- Each number is in its range.
abbrev pub has_numbers : OptionsValue → Bool
has_numbers o = is_between 1 max_rounds o.rounds && is_between 1 max_core_size o.core && is_between 1 max_cycles o.cycles
    && is_between 1 max_processes o.processes && is_between 1 max_core_size o.longest && is_between 1 max_core_size o.distance
    && is_between 1 max_seed o.seed && is_between 1 max_history o.history && is_limit o.read_limit && is_limit o.write_limit

-- There are 1 to 16 files: exactly one if its load file is written, and at least two for a league.
abbrev pub has_files : OptionsValue → Bool
has_files o = is_between 1 max_warriors (length o.files) && (not o.load || length o.files == 1) && (not o.league || nat_le 2 (length o.files))

-- At most one of the debugger, a league and a load file is requested.
abbrev pub has_one_mode : OptionsValue → Bool
has_one_mode o = not (o.debugger && o.league) && not (o.debugger && o.load) && not (o.league && o.load)

-- `position` is for the second of two warriors of a match, and is at least the minimum distance from the first one in
-- both directions around the core.
abbrev pub is_fitting : OptionsValue → ℕ → Bool
is_fitting o position = length o.files == 2 && not o.league && nat_le o.distance position && nat_le (position + o.distance) o.core

-- There is no position, or it fits.
abbrev pub has_fitting_position : OptionsValue → Bool
has_fitting_position o = option_map_or (is_fitting o) o.fixed true

-- The options are allowed: ranges, number of files, modes and position.
abbrev pub are_allowed : OptionsValue → Bool
are_allowed o = has_numbers o && has_files o && has_one_mode o && has_fitting_position o

-- The options that the arguments `words` say.
abbrev pub said_by : List Text → OptionsValue
said_by words = options_of (matches_of mars words)

-- The arguments request the options `o`: `clap` accepts them (it has no error), and the options are allowed.
pub record Ask (words : List Text) (o : OptionsValue) : Type 0 where
  pub taken : fault_of mars words ≡ []
  pub said : said_by words ≡ o
  pub allowed : are_allowed o ≡ true

-- The arguments request the help, which `clap` reports as an error.
abbrev pub AskForHelp : List Text → Type 0
AskForHelp words = IsAmong kind.DisplayHelp (fault_of mars words)

-- Whether an error of `clap` is a request for the help.
abbrev pub is_help : ErrorKind → Bool
is_help kind.DisplayHelp = true
is_help _ = false

-- The arguments are bad: `clap` rejects them, or the options are not allowed.
abbrev pub AreBad : List Text → Type 0
AreBad words = ((k : ErrorKind) × IsAmong k (fault_of mars words) × (is_help k ≡ false))
    ⊎ ((fault_of mars words ≡ []) × (are_allowed (said_by words) ≡ false))

-- The result is what the arguments request: options, the help, or an error. `OutOfMemory` is always possible.
abbrev pub Reads : List Text → Result Options WordsFault → Type 0
Reads words (Ok o) = Ask words (value_of o)
Reads words (Err (fault.Help text)) = AskForHelp words
Reads words (Err fault.BadWords) = AreBad words
Reads words (Err fault.OutOfMemory) = ⊤

-- The parameters that the options say. A limit that is not given is the core size.
abbrev pub parameters_of : OptionsValue → Parameters
parameters_of o = record {
  core_size = o.core;
  processes = o.processes;
  cycles = o.cycles;
  read_limit = unwrap_or o.read_limit o.core;
  write_limit = unwrap_or o.write_limit o.core;
  max_length = o.longest;
  distance = o.distance;
}
