-- What is known of a type as it is written.
use Rattle.std.specs.Prelude.{◌≡◌}
use Rattle.gv_gosyntax.specs.declared.tree.GoType.{GoType as TypeTree}
use Rattle.gv_gotypes.specs.Scopes.{Env}
use Rattle.gv_gotypes.specs.Kinds.{type_start, kind_of, kind_findings}
use Rattle.gv_gotyped.specs.First.{first_of}
use Rattle.gv_gotyped.specs.declared.kinds.WrittenType.{WrittenType}

-- It is this type where these declarations are seen.
pub record IsWritten (env : Env) (t : TypeTree) (known : WrittenType) : Type 0 where
  pub start : known.start ≡ type_start t
  pub kind : known.kind ≡ kind_of env t
  pub first : known.first ≡ first_of (kind_findings env t)
