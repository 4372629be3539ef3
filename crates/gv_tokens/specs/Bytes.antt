-- Classes of bytes.
use Rattle.std.specs.Prelude.{ℕ, Bool, not, ◌||◌, ◌&&◌, ◌==◌, List}
use Rattle.std.specs.Char.{is_digit}
use Rattle.std.specs.List.{prefix_len}
use Rattle.gv_base.specs.Places.{is_newline}
use Rattle.gv_text.specs.Bytes.{is_underscore, is_decimal}
use Rattle.gv_tokens.specs.declared.bytes.Class.{Class}
use Rattle.gv_tokens.specs.declared.bytes.Class.TheVariants.{InText, InRawText, DecimalDigits, HexDigits}

abbrev pub is_quote : ℕ → Bool
is_quote b = b == 34

abbrev pub is_backquote : ℕ → Bool
is_backquote b = b == 96

-- the bytes that may go on a piece
abbrev pub belongs : Class → ℕ → Bool
belongs InText b = not (is_quote b) && not (is_newline b)
belongs InRawText b = not (is_backquote b)
belongs DecimalDigits b = is_decimal b || is_underscore b
belongs HexDigits b = is_digit b 16 || is_underscore b

-- how many bytes of a class a text begins with
abbrev pub run : Class → List ℕ → ℕ
run class text = prefix_len (belongs class) text
