-- What is found in operands and right sides, whatever the places want in which they stand.
use Rattle.std.specs.Prelude.{List, [], ◌∷◌, ◌++◌}
use Rattle.gv_gotypes.specs.Types.{Finding}
use Rattle.gv_gotypes.specs.Trees.{Expr, Right, Value, Result}
use Rattle.gv_gotypes.specs.Scopes.{Env}
use Rattle.gv_gotypes.specs.Expressions.{operand}
use Rattle.gv_gotypes.specs.Calls.{answer}

abbrev pub operands_findings : Env → List Expr → List Finding
operands_findings env [] = []
operands_findings env (e ∷ es) = (operand env e).findings ++ operands_findings env es

abbrev pub right_findings : Env → Right → List Finding
right_findings env (Value e) = (operand env e).findings
right_findings env (Result c) = (answer env c).findings
