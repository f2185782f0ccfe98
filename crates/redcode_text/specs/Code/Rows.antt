-- The rows of a source as the code represents them.
use Rattle.redcode_text.specs.declared.source.row.SourceRow as code_row
use Rattle.redcode_text.specs.Source.{SourceRow}

abbrev pub row_of : code_row.SourceRow → SourceRow
row_of row = record { number = row.number; at = row.at; bytes = row.bytes.now }
