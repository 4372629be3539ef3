-- How many bytes the pieces of each form take.
use Rattle.std.specs.Prelude.{ℕ, List}
use Rattle.gv_text.specs.Gaps.{blank_length, line_length}
use Rattle.gv_tokens.specs.declared.form.Form.{Form}
use Rattle.gv_tokens.specs.declared.form.Form.TheVariants.{Blank, LineComment, BlockComment, Word, Number, Text, RawText, Rune, Sign}
use Rattle.gv_tokens.specs.Comments.{block_length}
use Rattle.gv_tokens.specs.Numbers.{number_length}
use Rattle.gv_tokens.specs.Runes.{rune_length}
use Rattle.gv_tokens.specs.Signs.{sign_length}
use Rattle.gv_tokens.specs.Texts.{text_length, raw_length}
use Rattle.gv_tokens.specs.Words.{word_length}

-- how many bytes a piece of a form takes at the start of a text, or 0
abbrev pub length_of : Form → List ℕ → ℕ
length_of Blank text = blank_length text
length_of LineComment text = line_length text
length_of BlockComment text = block_length text
length_of Word text = word_length text
length_of Number text = number_length text
length_of Text text = text_length text
length_of RawText text = raw_length text
length_of Rune text = rune_length text
length_of Sign text = sign_length text
