-- Which tokens a text of Go has, and where it is refused.
use Rattle.std.specs.Prelude.{ℕ, None, List}
use Rattle.gv_base.specs.declared.answers.Code.{Code}
use Rattle.gv_base.specs.declared.answers.Refusal.{Refusal}
use Rattle.gv_base.specs.declared.token.Token.{Token}
use Rattle.gv_text.specs.Cutting.{Lexis}
use Rattle.gv_text.specs.Judging as of
use Rattle.gv_tokens.specs.declared.form.Form.{Form}
use Rattle.gv_tokens.specs.Faults.{fault_of}
use Rattle.gv_tokens.specs.Forms.{form_of}
use Rattle.gv_tokens.specs.Layout.{laid}
use Rattle.gv_tokens.specs.Pieces.{length_of}

-- the texts of Go
abbrev pub go : Lexis Form
go = record { form_of = form_of; length_of = length_of; fault_of = fault_of; tokens_at = λ at pieces. laid at None pieces }

-- a text is read as these tokens
abbrev pub IsRead : List ℕ → List Token → Type 0
IsRead = of.IsRead go

-- a text is refused at its first fault
abbrev pub IsRefused : List ℕ → ℕ → Code → Type 0
IsRefused = of.IsRefused go

-- a refusal that is so, unless memory ran out
abbrev pub Refuses : List ℕ → Refusal → Type 0
Refuses = of.Refuses go
