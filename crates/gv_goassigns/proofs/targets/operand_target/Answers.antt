use Rattle.gv_goassigns.proofs.TargetLemmas.{field_stands}
use Rattle.gv_goassigns.proofs.targets.operand_target.Goals as goal

pub returns : goal.returns
returns g c = λ e known none. field_stands (g.N.Names.env c.args.names.now) e c.args.name c.args.whole c.field_target-target.result c.earliest.result
    c.field_target-target.ensures c.earliest.ensures known none
