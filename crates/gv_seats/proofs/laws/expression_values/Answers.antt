use Rattle.gv_seats.proofs.Expressions.{expressions_law}
use Rattle.gv_seats.proofs.laws.expression_values.Goals as goal

pub returns : goal.returns
returns c = expressions_law
