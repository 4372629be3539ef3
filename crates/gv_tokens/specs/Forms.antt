-- The form of the piece of a text that begins at a place.
use Rattle.std.specs.Prelude.{ℕ, ◌||◌, ◌&&◌, ◌==◌, if◌then◌else◌, List, [], ◌∷◌, slice_index}
use Rattle.gv_text.specs.Bytes.{is_blank, is_decimal}
use Rattle.gv_tokens.specs.declared.form.Form.{Form}
use Rattle.gv_tokens.specs.declared.form.Form.TheVariants.{Blank, LineComment, BlockComment, Word, Number, Text, RawText, Rune, Sign}
use Rattle.gv_tokens.specs.Bytes.{is_quote, is_backquote}
use Rattle.gv_tokens.specs.Signs.{is_sign}

-- by the first two bytes, the second one 0 where there is none
abbrev pub form_by : ℕ → ℕ → Form
form_by b c =
    if is_blank b then Blank else (
    if is_quote b then Text else (
    if is_backquote b then RawText else (
    if b == 39 then Rune else (
    if b == 47 && c == 47 then LineComment else (
    if b == 47 && c == 42 then BlockComment else (
    if is_decimal b || (b == 46 && is_decimal c) then Number else (
    if is_sign (b ∷ []) then Sign else Word)))))))

unfoldable pub form_of : List ℕ → Form
form_of text = form_by (slice_index text 0) (slice_index text 1)
