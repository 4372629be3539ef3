use Rattle.std.proofs.Common.{◌∙◌}
use Rattle.gv_gotypes.specs.Trees.{expr_of}
use Rattle.gv_gotypes.specs.Expressions.{operand}
use Rattle.gv_gotyped.proofs.Firsts.{first_of_two}
use Rattle.gv_goassigns.proofs.lefts.item_parts.Goals as goal

pub returns : goal.returns
returns g c = λ a b h i.
    let env = g.N.Names.env c.args.names.now in
    let k = c.operand_at-whole.ensures a h in
    let l = c.operand_at-item.ensures b i in
    c.earliest.ensures
    ∙ first_of_two (operand env (expr_of a)).findings (operand env (expr_of b)).findings c.operand_at-whole.result.first c.operand_at-item.result.first k.first l.first
