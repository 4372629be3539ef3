-- The tokens among pieces: all but white space and comments.
use Rattle.std.specs.Prelude.{ℕ, ◌+◌, Option, Some, None, List, [], ◌∷◌, ◌++◌, length}
use Rattle.gv_base.specs.declared.token.Kind.{Kind}
use Rattle.gv_base.specs.declared.token.Kind.TheVariants as kind
use Rattle.gv_base.specs.declared.token.Token.{Token}
use Rattle.gv_text.specs.Cutting.{Piece}
use Rattle.gv_text.specs.Tokens.{sign_kind, token}
use Rattle.gv_lex.specs.declared.form.Form.{Form}
use Rattle.gv_lex.specs.declared.form.Form.TheVariants.{Blank, Comment, Word, Number, Literal, Sign}

-- what a piece is as a token, where it is one
abbrev pub kind_of : Form → List ℕ → Option Kind
kind_of Blank bytes = None
kind_of Comment bytes = None
kind_of Word bytes = Some kind.Word
kind_of Number bytes = Some kind.Number
kind_of Literal bytes = Some kind.Text
kind_of Sign bytes = Some (sign_kind bytes)

-- a piece at a place as a token, where it is one
abbrev pub token_for : Option Kind → ℕ → List ℕ → List Token
token_for (Some kind) at bytes = token at (at + length bytes) kind ∷ []
token_for None at bytes = []

-- the tokens of pieces that begin at a place
abbrev pub laid : ℕ → List (Piece Form) → List Token
laid at [] = []
laid at (p ∷ ps) = token_for (kind_of p.form p.bytes) at p.bytes ++ laid (at + length p.bytes) ps
