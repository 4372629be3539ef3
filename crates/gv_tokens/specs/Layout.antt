-- The tokens among pieces, with Go's automatic semicolons: the Go specification, section "Semicolons".
use Rattle.std.specs.Prelude.{ℕ, ◌+◌, Bool, true, false, not, ◌||◌, if◌then◌else◌, Option, Some, None, List, [], ◌∷◌, ◌++◌, length, codes}
use Rattle.std.specs.List.{list_any}
use Rattle.gv_base.specs.Places.{is_newline}
use Rattle.gv_base.specs.declared.token.Kind.{Kind}
use Rattle.gv_base.specs.declared.token.Kind.TheVariants as kind
use Rattle.gv_base.specs.declared.token.Token.{Token}
use Rattle.gv_text.specs.Cutting.{Piece}
use Rattle.gv_text.specs.Signs.{is_among}
use Rattle.gv_text.specs.Tokens.{sign_kind, token}
use Rattle.gv_tokens.specs.declared.form.Form.{Form}
use Rattle.gv_tokens.specs.declared.form.Form.TheVariants.{Blank, LineComment, BlockComment, Word, Number, Text, RawText, Rune, Sign}

-- what a piece is as a token, where it is one
abbrev pub kind_of : Form → List ℕ → Option Kind
kind_of Blank bytes = None
kind_of LineComment bytes = None
kind_of BlockComment bytes = None
kind_of Word bytes = Some kind.Word
kind_of Number bytes = Some kind.Number
kind_of Text bytes = Some kind.Text
kind_of RawText bytes = Some kind.Text
kind_of Rune bytes = Some kind.Text
kind_of Sign bytes = Some (sign_kind bytes)

-- Go's keywords but `break`, `continue` and `return`, the shorter and the longer ones
abbrev pub short_keywords : List (List ℕ)
short_keywords =
    codes "case" ∷ codes "chan" ∷ codes "const" ∷ codes "defer" ∷ codes "else" ∷ codes "for" ∷ codes "func" ∷ codes "go"
    ∷ codes "goto" ∷ codes "if" ∷ codes "map" ∷ codes "range" ∷ codes "type" ∷ codes "var" ∷ []

abbrev pub long_keywords : List (List ℕ)
long_keywords =
    codes "default" ∷ codes "fallthrough" ∷ codes "import" ∷ codes "interface" ∷ codes "package" ∷ codes "select"
    ∷ codes "struct" ∷ codes "switch" ∷ []

abbrev pub is_open_keyword : List ℕ → Bool
is_open_keyword word = is_among short_keywords word || is_among long_keywords word

abbrev pub closing_signs : List (List ℕ)
closing_signs = codes "++" ∷ codes "--" ∷ codes ")" ∷ codes "]" ∷ codes "}" ∷ []

-- whether a line that has this token last ends with a semicolon
abbrev pub ends_line : Form → List ℕ → Bool
ends_line Word bytes = not (is_open_keyword bytes)
ends_line Sign bytes = is_among closing_signs bytes
ends_line Number bytes = true
ends_line Text bytes = true
ends_line RawText bytes = true
ends_line Rune bytes = true
ends_line Blank bytes = false
ends_line LineComment bytes = false
ends_line BlockComment bytes = false

abbrev pub has_newline : List ℕ → Bool
has_newline bytes = list_any is_newline bytes

-- the semicolon at a place, where there is one to insert
abbrev pub inserted : Option ℕ → List Token
inserted None = []
inserted (Some at) = token at at kind.Semi ∷ []

-- the tokens of one piece, by what it is; a gap that holds a newline ends the line
abbrev pub tokens_for : Option Kind → ℕ → Option ℕ → List ℕ → List Token
tokens_for (Some kind) at pending bytes = token at (at + length bytes) kind ∷ []
tokens_for None at pending bytes = if has_newline bytes then inserted pending else []

-- the place of the semicolon that a newline or the end of the text would insert after that piece
abbrev pub pending_for : Option Kind → Bool → ℕ → Option ℕ → List ℕ → Option ℕ
pending_for (Some kind) ends at pending bytes = if ends then Some (at + length bytes) else None
pending_for None ends at pending bytes = if has_newline bytes then None else pending

-- The tokens of a text's last pieces, from a place on. A semicolon stands directly after the last token of a line.
abbrev pub laid : ℕ → Option ℕ → List (Piece Form) → List Token
laid at pending [] = inserted pending
laid at pending (p ∷ ps) =
    tokens_for (kind_of p.form p.bytes) at pending p.bytes
    ++ laid (at + length p.bytes) (pending_for (kind_of p.form p.bytes) (ends_line p.form p.bytes) at pending p.bytes) ps
