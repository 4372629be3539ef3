use Rattle.std.proofs.Common.{◌≡◌, ◌++◌, drop}
use Rattle.gv_gotypes.specs.Scopes.{Env}
use Rattle.gv_gotypes.specs.Declarations.{group_kinds}
use Rattle.gv_godeclared.proofs.procedures.push_kinds.Given as goal

abbrev pub invariant-loop-name : goal.invariant-loop-name
invariant-loop-name l = (env : Env) → l.kinds.items ++ group_kinds env (drop l.name-index l.names) l.kind ≡ l.fn.kinds.items ++ group_kinds env l.names l.kind
