-- What is wanted of operands by their numbers, and literals apart from keys that are there already.
use Rattle.std.specs.Prelude.{ℕ, List, [], ◌∷◌, ◌++◌, Option, Some, None}
use Rattle.gv_base.specs.declared.answers.Code.TheVariants.{Undeclared}
use Rattle.gv_operands.specs.declared.types.GoType.{GoType}
use Rattle.gv_operands.specs.declared.part.Want.{Want}
use Rattle.gv_operands.specs.declared.part.Want.TheVariants.{Unknown}
use Rattle.gv_gotypes.specs.Types.{Finding, unless}
use Rattle.gv_gotypes.specs.Trees.{KeyedExpr}
use Rattle.gv_gotypes.specs.Scopes.{Env, FieldType, name_in}
use Rattle.gv_gotypes.specs.Places.{want}
use Rattle.gv_gotypes.specs.Calls.{placed, is_field, field_want}

-- what the place of a parameter wants, where there is one
abbrev pub want_in : Option (Option GoType) → Want
want_in None = Unknown
want_in (Some k) = want k

-- what is found of one key and its value, whatever keys stand before
abbrev pub keyed_one : Env → Option (List FieldType) → KeyedExpr → List Finding
keyed_one env fs k = let name = name_in env.source k.key in
    unless (is_field fs name) k.key.start Undeclared ++ placed env (field_want fs name) k.value

abbrev pub keyed_alone : Env → Option (List FieldType) → List KeyedExpr → List Finding
keyed_alone env fs [] = []
keyed_alone env fs (k ∷ ks) = keyed_one env fs k ++ keyed_alone env fs ks
