-- What is so of every package.
use Rattle.std.specs.Prelude.{◌≡◌, ℕ, ◌⊎◌, None, MatchOption}
use Rattle.gv_base.specs.declared.answers.Code.{Code}
use Rattle.gv_gotypes.specs.Trees.{Expr, File}
use Rattle.gv_gotypes.specs.Scopes.{Source, Env}
use Rattle.gv_gotypes.specs.Expressions.{operand}
use Rattle.gv_gotypes.specs.Told.{IsFound, told}
use Rattle.gv_gotypes.specs.Files.{file_findings, IsTyped, IsRefusedAt}

-- a package is refused somewhere
abbrev pub IsRefused : Source → File → Type 0
IsRefused s f = (at : ℕ) × (code : Code) × IsRefusedAt s f at code

-- A package is typed or refused, and not both, and it is refused at one place by one code.
pub record IsDecided (s : Source) (f : File) : Type 0 where
  pub one_of : IsTyped s f ⊎ IsRefused s f
  pub one_refusal : (m n : ℕ) (c d : Code) → IsRefusedAt s f m c → IsRefusedAt s f n d → (m ≡ n) × (c ≡ d)
  pub not_both : IsTyped s f → IsRefused s f → ⊥

abbrev pub AreDecided : Type 0
AreDecided = (s : Source) (f : File) → IsDecided s f

-- The least of what is found tells which: it is no fault of a typed package, and that of the refusal of another.
abbrev pub AreTold : Type 0
AreTold = (s : Source) (f : File) → MatchOption (told (file_findings s f)) (IsTyped s f) (λ p. IsRefusedAt s f p.0 p.1)

-- An operand with a fault in it is nothing; so no place tests it, and what stands on it is nothing.
abbrev pub FaultsSilence : Type 0
FaultsSilence = (env : Env) (e : Expr) (at : ℕ) (code : Code) → IsFound (operand env e).findings at code → (operand env e).class ≡ None
