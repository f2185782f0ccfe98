-- The open loops, whose counters are among the names of a source.
use Rattle.std.specs.Prelude.{List}
use Rattle.redcode_text.specs.declared.lexer.source_names.SourceNames as code
use Rattle.redcode_text.specs.Code.Counters.{open_loops}
use Rattle.redcode_text.specs.Tokens.{OpenLoop}

abbrev pub loops_of : code.SourceNames → List OpenLoop
loops_of names = open_loops names.table names.loops.items
