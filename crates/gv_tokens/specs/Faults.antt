-- The faults of pieces.
use Rattle.std.specs.Prelude.{ℕ, ◌-◌, Bool, ◌&&◌, ◌==◌, nat_lt, if◌then◌else◌, Option, Some, None, option_map, List, length, position, slice_index}
use Rattle.gv_base.specs.declared.answers.Code.{Code}
use Rattle.gv_base.specs.declared.answers.Code.TheVariants.{BadChar, OpenComment, OpenText, NotInProfile}
use Rattle.gv_tokens.specs.declared.form.Form.{Form}
use Rattle.gv_tokens.specs.declared.form.Form.TheVariants.{Blank, LineComment, BlockComment, Word, Number, Text, RawText, Rune, Sign}
use Rattle.gv_tokens.specs.Numbers.{number_fault}

abbrev pub is_backslash : ℕ → Bool
is_backslash b = b == 92

-- a text literal, raw or not, that has its second mark
abbrev pub is_closed : ℕ → List ℕ → Bool
is_closed mark bytes = nat_lt 1 (length bytes) && slice_index bytes (length bytes - 1) == mark

-- a comment `/*` that has its `*/`
abbrev pub is_closed_comment : List ℕ → Bool
is_closed_comment bytes =
    nat_lt 3 (length bytes) && (slice_index bytes (length bytes - 2) == 42 && slice_index bytes (length bytes - 1) == 47)

abbrev pub text_fault : List ℕ → Option (ℕ × Code)
text_fault bytes =
    if is_closed 34 bytes then option_map (λ at. (at, BadChar)) (position is_backslash bytes) else Some (0, OpenText)

-- The fault of a piece, with how many bytes of the piece come before its place.
abbrev pub fault_of : Form → List ℕ → Option (ℕ × Code)
fault_of Blank bytes = None
fault_of LineComment bytes = None
fault_of BlockComment bytes = if is_closed_comment bytes then None else Some (0, OpenComment)
fault_of Word bytes = None
fault_of Number bytes = option_map (λ code. (0, code)) (number_fault bytes)
fault_of Text bytes = text_fault bytes
fault_of RawText bytes = Some (0, if is_closed 96 bytes then NotInProfile else OpenText)
fault_of Rune bytes = Some (0, NotInProfile)
fault_of Sign bytes = None
