-- What is known of what is called, and of calls.
use Rattle.std.specs.Prelude.{◌≡◌, ℕ, List, [], ◌∷◌, Option, Some, None}
use Rattle.gv_operands.specs.declared.types.GoType.{GoType}
use Rattle.gv_gotypes.specs.Trees.{Expr, Call}
use Rattle.gv_gotypes.specs.Scopes.{Env}
use Rattle.gv_gotypes.specs.Places.{start_of}
use Rattle.gv_gotypes.specs.Calls.{Callee as AnyCallee, callee, answer, call_start, Answer as AnyAnswer}
use Rattle.gv_gotyped.specs.First.{first_of}
use Rattle.gv_goscopes.specs.Called.{IsSignature}
use Rattle.gv_gocalls.specs.declared.answers.Callee.{Callee}
use Rattle.gv_gocalls.specs.declared.answers.Results.{Results}
use Rattle.gv_gocalls.specs.declared.answers.Results.TheVariants.{Unknown, Nothing, One, Of}
use Rattle.gv_gocalls.specs.declared.answers.Answer.{Answer}

-- this is called, and begins there
pub record IsThisCallee (known : Callee) (at : ℕ) (c : AnyCallee) : Type 0 where
  pub start : known.start ≡ at
  pub signature : IsSignature known.signature c.signature
  pub first : known.first ≡ first_of c.findings

-- an operand is called where these declarations are seen
abbrev pub IsCallee : Env → Expr → Callee → Type 0
IsCallee env f known = IsThisCallee known (start_of f) (callee env f)

abbrev pub results_of : Results → Option (List (Option GoType))
results_of Unknown = None
results_of Nothing = Some []
results_of (One k) = Some (k ∷ [])
results_of (Of ks) = Some ks.now

-- a call gives this, and begins there
pub record IsThisAnswer (known : Answer) (at : ℕ) (a : AnyAnswer) : Type 0 where
  pub start : known.start ≡ at
  pub results : results_of known.results ≡ a.results
  pub first : known.first ≡ first_of a.findings

-- It is this call where these declarations are seen.
abbrev pub IsAnswer : Env → Call → Answer → Type 0
IsAnswer env c known = IsThisAnswer known (call_start c) (answer env c)
