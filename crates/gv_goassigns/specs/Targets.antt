-- What is known of a left side.
use Rattle.std.specs.Prelude.{◌≡◌, ℕ, Bool, false, List, [], Some, None}
use Rattle.gv_operands.specs.declared.part.Part.{Part}
use Rattle.gv_gotypes.specs.Types.{Finding}
use Rattle.gv_gotypes.specs.Trees.{Expr, Name}
use Rattle.gv_gotypes.specs.Scopes.{Env, name_in, is_blank}
use Rattle.gv_gotypes.specs.Expressions.{zero_divisor}
use Rattle.gv_gotypes.specs.Assigning.{Target as AnyTarget}
use Rattle.gv_gotyped.specs.First.{first_of}
use Rattle.gv_goassigns.specs.declared.targets.Target.{Target}

-- It wants this, and that is the fault in it that is told.
pub record IsTarget (known : Target) (t : AnyTarget) : Type 0 where
  pub wants : known.wants ≡ t.wants
  pub first : known.first ≡ first_of t.findings

-- the name `_`
abbrev pub is_blank_name : Env → Expr → Bool
is_blank_name env (Name t) = is_blank (name_in env.source t)
is_blank_name env other = false

-- a divisor that is zero
abbrev pub divisor_of : ℕ → Part → List Finding
divisor_of sign p = elim p.class [ None ↦ [] | Some c ↦ zero_divisor sign p.spot c ]
