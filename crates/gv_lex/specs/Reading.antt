-- Which tokens a text of this project has, and where it is refused.
use Rattle.std.specs.Prelude.{◌≡◌, ℕ, List, [], ◌∷◌, length, slice_range}
use Rattle.gv_base.specs.declared.answers.Code.{Code}
use Rattle.gv_base.specs.declared.answers.Refusal.{Refusal}
use Rattle.gv_base.specs.declared.token.Kind.TheVariants as kind
use Rattle.gv_base.specs.declared.token.Token.{Token}
use Rattle.gv_text.specs.Cutting.{Lexis}
use Rattle.gv_text.specs.Judging as of
use Rattle.gv_text.specs.Tokens.{token}
use Rattle.gv_lex.specs.declared.form.Form.{Form}
use Rattle.gv_lex.specs.Forms.{form_of}
use Rattle.gv_lex.specs.Layout.{laid}
use Rattle.gv_lex.specs.Names.{IsIdentifier}
use Rattle.gv_lex.specs.Pieces.{length_of, fault_of}

-- specifications, schedules, histories, moves and scripts
abbrev pub own : Lexis Form
own = record { form_of = form_of; length_of = length_of; fault_of = fault_of; tokens_at = laid }

-- a text is read as these tokens
abbrev pub IsRead : List ℕ → List Token → Type 0
IsRead = of.IsRead own

-- a text is refused at its first fault
abbrev pub IsRefused : List ℕ → ℕ → Code → Type 0
IsRefused = of.IsRefused own

-- a refusal that is so, unless memory ran out
abbrev pub Refuses : List ℕ → Refusal → Type 0
Refuses = of.Refuses own

-- ---- words

abbrev pub bytes_of : List ℕ → Token → List ℕ
bytes_of text t = slice_range text t.start t.end

-- a token that is a word is an identifier
abbrev pub IsIdentifierIfWord : List ℕ → Token → Type 0
IsIdentifierIfWord text t = t.kind ≡ kind.Word → IsIdentifier (bytes_of text t)

-- the bytes are one word
abbrev pub one_word : List ℕ → List Token
one_word bytes = token 0 (length bytes) kind.Word ∷ []
