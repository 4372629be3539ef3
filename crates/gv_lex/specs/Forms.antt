-- The form of the piece of a text that begins at a place.
use Rattle.std.specs.Prelude.{ℕ, ◌&&◌, ◌==◌, if◌then◌else◌, List, slice_index}
use Rattle.gv_text.specs.Bytes.{is_blank, is_decimal}
use Rattle.gv_lex.specs.declared.form.Form.{Form}
use Rattle.gv_lex.specs.declared.form.Form.TheVariants.{Blank, Comment, Word, Number, Literal, Sign}
use Rattle.gv_lex.specs.Bytes.{is_name_start, is_hash}

-- by the first two bytes, the second one 0 where there is none
abbrev pub form_by : ℕ → ℕ → Form
form_by b c =
    if is_blank b then Blank else (
    if b == 47 && c == 47 then Comment else (
    if is_name_start b then Word else (
    if is_decimal b then Number else (
    if is_hash b then Literal else Sign))))

unfoldable pub form_of : List ℕ → Form
form_of text = form_by (slice_index text 0) (slice_index text 1)
