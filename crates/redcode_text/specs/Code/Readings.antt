-- Everything that has been read, as the code represents it.
use Rattle.std.specs.Prelude.{List, None, drop, map, string_bytes, take}
use Rattle.redcode_text.specs.declared.reader.ordinary.Parts as parts
use Rattle.redcode_text.specs.declared.reader.Reading as code
use Rattle.redcode_text.specs.declared.token.Token.{Token}
use Rattle.redcode_text.specs.Lines.{Parts, Reading}
use Rattle.redcode_text.specs.Spans.{last_span}
use Rattle.redcode_text.specs.Code.SourceLoops.{loops_of}
use Rattle.redcode_text.specs.Views.{assert_of, line_of}

abbrev pub reading_of : code.Reading → Reading
reading_of r =
    record {
      loops = loops_of r.names;
      names = r.names.table;
      equates = r.equates;
      equate_grows = r.equate_grows;
      lines = map line_of r.lines.items;
      instructions = r.instructions;
      lines_read = r.lines_read;
      tokens_read = r.tokens_read;
      name = string_bytes r.name;
      author = string_bytes r.author;
      asserts = map assert_of r.asserts.items;
      ended = r.ended;
    }

-- The parts of the line with the tokens `ts`, which the code represents by indices of the tokens.
abbrev pub parts_at : List Token → parts.Parts → Parts
parts_at ts p = record { labels = p.labels.items; label_tokens = take p.labels_end ts; operation = p.operation; operation_span = last_span None (take p.rest_at ts); rest = drop p.rest_at ts }
