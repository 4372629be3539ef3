-- How many bytes the pieces of each form take, and which of them are wrong.
use Rattle.std.specs.Prelude.{ℕ, if◌then◌else◌, Option, Some, None, option_map, List}
use Rattle.gv_base.specs.declared.answers.Code.{Code}
use Rattle.gv_base.specs.declared.answers.Code.TheVariants.{BadNumber}
use Rattle.gv_text.specs.Gaps.{blank_length, line_length}
use Rattle.gv_lex.specs.declared.form.Form.{Form}
use Rattle.gv_lex.specs.declared.form.Form.TheVariants.{Blank, Comment, Word, Number, Literal, Sign}
use Rattle.gv_lex.specs.Literals.{literal_length, has_whole_bytes}
use Rattle.gv_lex.specs.Names.{name_length}
use Rattle.gv_lex.specs.Numbers.{number_length, is_right_number}
use Rattle.gv_lex.specs.Signs.{sign_length}

-- how many bytes a piece of a form takes at the start of a text, or 0
abbrev pub length_of : Form → List ℕ → ℕ
length_of Blank text = blank_length text
length_of Comment text = line_length text
length_of Word text = name_length text
length_of Number text = number_length text
length_of Literal text = literal_length text
length_of Sign text = sign_length text

-- why a piece is refused, at its first byte
abbrev pub code_of : Form → List ℕ → Option Code
code_of Blank bytes = None
code_of Comment bytes = None
code_of Word bytes = None
code_of Number bytes = if is_right_number bytes then None else Some BadNumber
code_of Literal bytes = if has_whole_bytes bytes then None else Some BadNumber
code_of Sign bytes = None

-- The fault of a piece, with how many bytes of the piece come before its place.
abbrev pub fault_of : Form → List ℕ → Option (ℕ × Code)
fault_of form bytes = option_map (λ code. (0, code)) (code_of form bytes)
