-- Where the lines of a text begin.
use Rattle.std.specs.Prelude.{◌≡◌, ℕ, ◌+◌, ◌<◌, ◌≤◌, List, length, take, slice_index}
use Rattle.gv_base.specs.Places.{lines_ended, bytes_on_line}

-- The lines of the first `end` bytes begin at these bytes: there is one start for each line, as many lines end
-- before a start as stand before its line, and from the start of its line a byte is as far as its column says.
pub record AreStarts (text : List ℕ) (end : ℕ) (starts : List ℕ) : Type 0 where
  pub count : length starts ≡ 1 + lines_ended (take end text)
  pub lines : (k : ℕ) → k < length starts → lines_ended (take (slice_index starts k) text) ≡ k
  pub columns : (at : ℕ) → at ≤ end → slice_index starts (lines_ended (take at text)) + bytes_on_line (take at text) ≡ at
