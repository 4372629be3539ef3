-- What the walk knows of an operand.
use Rattle.std.specs.Prelude.{◌≡◌, Option, Some, None}
use Rattle.gv_operands.specs.declared.types.Class.{Class}
use Rattle.gv_gotypes.specs.declared.names.Entity.{Entity}
use Rattle.gv_gotypes.specs.declared.names.Entity.TheVariants.{Imported, StructOf, ConstantOf, ProcedureOf, Variable}
use Rattle.gv_gotypes.specs.declared.names.Found.{Found}
use Rattle.gv_gotypes.specs.Trees.{Expr}
use Rattle.gv_gotypes.specs.Scopes.{Package, Env, constant_class}
use Rattle.gv_gotypes.specs.Places.{part_of}
use Rattle.gv_gotypes.specs.Expressions.{operand}
use Rattle.gv_gotyped.specs.First.{first_of}
use Rattle.gv_gotyped.specs.declared.outcomes.Operand.{Operand}

-- It is this operand where these declarations are seen.
pub record IsOperand (env : Env) (e : Expr) (known : Operand) : Type 0 where
  pub part : known.part ≡ part_of e (operand env e).class
  pub first : known.first ≡ first_of (operand env e).findings

-- What a constant is by its declaration, where a name stands for one.
abbrev pub IsConstantOf : Package → Entity → Option Class → Type 0
IsConstantOf p (ConstantOf n) class = class ≡ constant_class p n
IsConstantOf p (Imported l) class = Unit {0}
IsConstantOf p (StructOf n) class = Unit {0}
IsConstantOf p (ProcedureOf n) class = Unit {0}
IsConstantOf p (Variable declared kind) class = Unit {0}

abbrev pub IsConstantFor : Package → Option Found → Option Class → Type 0
IsConstantFor p None class = Unit {0}
IsConstantFor p (Some f) class = IsConstantOf p f.entity class
