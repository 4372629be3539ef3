-- What the walk knows of bounds, of literals and of what stands behind a point.
use Rattle.std.specs.Prelude.{◌≡◌, ℕ, List, [], ◌∷◌, Option, Some, None}
use Rattle.gv_gosyntax.specs.declared.generated.gosyntax_table.TheConstants.{CLASS_NUMBER}
use Rattle.gv_gosyntax.specs.declared.lexeme.Lexeme.{Lexeme}
use Rattle.gv_operands.specs.declared.types.GoType.TheVariants.{Pointer}
use Rattle.gv_operands.specs.declared.types.Value.{Value as ConstantValue}
use Rattle.gv_operands.specs.declared.types.Class.{Class}
use Rattle.gv_operands.specs.declared.types.Class.TheVariants.{Run}
use Rattle.gv_operands.specs.declared.part.Part.{Part}
use Rattle.gv_operands.specs.Operators.{word_within}
use Rattle.gv_gotypes.specs.Trees.{Bound, left_out, bound}
use Rattle.gv_gotypes.specs.Scopes.{Env, name_in}
use Rattle.gv_gotypes.specs.Literals.{number_value}
use Rattle.gv_gotypes.specs.Members.{Member as AnyMember, ValueOf, FieldOf, Called, TypeName, base_member}
use Rattle.gv_gotyped.specs.declared.outcomes.Operand.{Operand}
use Rattle.gv_gotyped.specs.declared.members.Member.{Member}
use Rattle.gv_gotyped.specs.declared.members.Member.TheVariants.{Value, Field, Other}
use Rattle.gv_gotyped.specs.Operands.{IsOperand}

-- a bound that may be left out, as a part of a form
abbrev pub listed : Option Part → List Part
listed None = []
listed (Some p) = p ∷ []

-- It is this bound where these declarations are seen.
abbrev pub IsBound : Env → Bound → Option Operand → Type 0
IsBound env left_out None = Unit {0}
IsBound env (bound e) (Some known) = IsOperand env e known
IsBound env b known = ⊥

-- the value of a literal, where it is a number; from 2^64 on it has none
abbrev pub IsValueOf : Env → Lexeme → Option ConstantValue → Type 0
IsValueOf env t value = t.class ≡ CLASS_NUMBER → value ≡ word_within (number_value (name_in env.source t))

-- what is known of a member as an operand
abbrev pub IsThisMember : Member → AnyMember → Type 0
IsThisMember (Value c) (ValueOf d) = c ≡ d
IsThisMember (Field k) (FieldOf n l) = k ≡ l
IsThisMember Other (Called s) = Unit {0}
IsThisMember Other TypeName = Unit {0}
IsThisMember known m = ⊥

abbrev pub IsMember : Option Member → Option AnyMember → Type 0
IsMember None None = Unit {0}
IsMember (Some known) (Some m) = IsThisMember known m
IsMember known m = ⊥

-- and of a member of an operand, which has any if it points to something
abbrev pub IsMemberOf : Env → Option Class → Lexeme → Option Member → Type 0
IsMemberOf env (Some (Run (Pointer b))) t known = IsMember known (base_member env.declared b (name_in env.source t))
IsMemberOf env c t known = Unit {0}
