use Rattle.std.proofs.Common.{◌∙◌}
use Rattle.gv_operands.specs.declared.types.GoType.TheVariants.{Word}
use Rattle.gv_operands.specs.declared.part.Want.TheVariants.{Exactly}
use Rattle.gv_gotypes.specs.Trees.{expr_of}
use Rattle.gv_gotypes.specs.Calls.{placed}
use Rattle.gv_gotypes.specs.Statements.{counted, divisor}
use Rattle.gv_gotyped.proofs.Firsts.{first_of_lists}
use Rattle.gv_goassigns.proofs.counted.update_at.Goals as goal

pub returns : goal.returns
returns g c = λ a b h i.
    let env = g.N.Names.env c.args.names.now in
    let k = c.operand_at-value.ensures b i in
    c.earliest.ensures
    ∙ first_of_lists (counted env (expr_of a)) (placed env (Exactly Word) (expr_of b)) (divisor env c.args.sign.class (expr_of b))
    c.counted_at-own.result c.placed-misfit.result c.divisor-zero.result c.earliest-more.result
    (c.counted_at-own.ensures a h) (c.placed-misfit.ensures env (expr_of b) k) (c.divisor-zero.ensures env (expr_of b) k) c.earliest-more.ensures
