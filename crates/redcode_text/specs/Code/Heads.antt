-- The header of a loop as the code represents it.
use Rattle.std.specs.Prelude.{option_map}
use Rattle.redcode_text.specs.declared.reader.repeat.head.Head as code
use Rattle.redcode_text.specs.Expansion.{Head}
use Rattle.redcode_text.specs.Lines.{Reading, name_at}

-- The header that `h` represents. `st` is everything read up to and including the header.
abbrev pub head_of : Reading → code.Head → Head
head_of st h = record { counter = option_map (name_at st.names) h.counter; count = h.count; reading = st }
