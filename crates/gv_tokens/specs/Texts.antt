-- Text literals as pieces: from the quote to the next one, or to where none can follow.
use Rattle.std.specs.Prelude.{ℕ, List}
use Rattle.gv_text.specs.Lengths.{nothing, optional, in_turn}
use Rattle.gv_tokens.specs.declared.bytes.Class.TheVariants.{InText, InRawText}
use Rattle.gv_tokens.specs.Bytes.{is_quote, is_backquote, run}

abbrev pub text_length : List ℕ → ℕ
text_length = optional is_quote (in_turn (run InText) (optional is_quote nothing))

abbrev pub raw_length : List ℕ → ℕ
raw_length = optional is_backquote (in_turn (run InRawText) (optional is_backquote nothing))
