-- What a reader of a trace has still to hand out. Assumes nothing.
use Rattle.std.specs.Prelude.{◌≡◌, ℕ, ◌+◌, ◌-◌, ◌<◌, List, ◌∷◌, length, take, drop, ◌≢◌, slice_index}
use Rattle.trace.specs.Splits.{carriage_return, lines}
use Rattle.trace.specs.declared.reader.TraceReader.{TraceReader}

-- the bytes from the reader's place on
abbrev pub unread : TraceReader → List ℕ
unread t = drop t.place t.text.now

-- how many lines were handed out
abbrev pub lines_read : TraceReader → ℕ
lines_read t = t.line

-- a line is handed out: it is the first of those unread, and has the next number
pub record Advanced (before after : TraceReader) (number : ℕ) (text : List ℕ) : Type 0 where
  pub first : lines (unread before) ≡ text ∷ lines (unread after)
  pub next : number ≡ lines_read before + 1
  pub counted : lines_read after ≡ lines_read before + 1
  pub fewer : length (unread after) < length (unread before)

-- a line that loses a carriage return at its end, and nothing else
pub record Stripped (line rest : List ℕ) : Type 0 where
  pub off : 0 < length line → slice_index line (length line - 1) ≡ carriage_return → rest ≡ take (length line - 1) line
  pub kept : (0 < length line → slice_index line (length line - 1) ≢ carriage_return) → rest ≡ line
