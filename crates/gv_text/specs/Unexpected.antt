-- The fault of a grammar: the place and the code of the first token that may not stand where it does.
use Rattle.std.specs.Prelude.{ℕ, Bool, if◌then◌else◌, Option, Some, None}
use Rattle.gv_base.specs.declared.answers.Code.{Code}
use Rattle.gv_base.specs.declared.answers.Code.TheVariants.{BadNumber, Unexpected, EndOfText}
use Rattle.gv_text.specs.declared.found.Found.{Found}
use Rattle.gv_text.specs.Stops.{Fault}

-- The token's first byte with the token's code, or the text's end where no token is left.
abbrev pub unexpected : {T : Type 0} → (T → ℕ) → (T → Code) → ℕ → Option T → Fault
unexpected start code end (Some token) = (start token, code token)
unexpected start code end None = (end, EndOfText)

-- A number of 2^64 or more is refused as a number where it may not stand.
abbrev pub code_by : Bool → Code
code_by is_large = if is_large then BadNumber else Unexpected

-- of a token by its first byte, and whether it is such a number
abbrev pub unexpected_token : ℕ → Option Found → Fault
unexpected_token end token = unexpected (λ t. t.start) (λ t. code_by t.is_large) end token
