use Rattle.gv_gocalls.proofs.CalleeLemmas.{method_stands}
use Rattle.gv_gocalls.proofs.callees.operand_callee.Goals as goal

pub returns : goal.returns
returns g c = λ e known none. method_stands (g.N.Names.env c.args.names.now) e c.args.name c.args.whole c.method_callee-callee.result c.earliest.result
    c.method_callee-callee.ensures c.earliest.ensures known none
