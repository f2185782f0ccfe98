-- The content of the buffer for a line.
use Rattle.std.specs.Prelude.{◌≡◌, ℕ, ◌<◌, List, length, true, false}
use Rattle.mars_app.specs.declared.debugger.line_buffer.LineBuffer.{LineBuffer}
use Rattle.mars_app.specs.Debugger.Lines.{max_line_len}

-- The buffer has the whole line unless the line is too long. If the line is too long, `is_overlong` is true and the buffer is full.
pub record Holds (buffer : LineBuffer) (line : List ℕ) : Type 0 where
  pub short : buffer.is_overlong ≡ false → buffer.bytes.items ≡ line
  pub long : buffer.is_overlong ≡ true → max_line_len < length line
  pub full : buffer.is_overlong ≡ true → length buffer.bytes.items ≡ max_line_len
