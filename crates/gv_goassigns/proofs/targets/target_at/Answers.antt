use Rattle.std.proofs.Common.{sym, subst}
use Rattle.gv_gotypes.specs.Trees.{Expr}
use Rattle.gv_gotypes.specs.Assigning.{target}
use Rattle.gv_gowalk.proofs.Steps.{expr_there}
use Rattle.gv_goassigns.specs.Targets.{IsTarget}
use Rattle.gv_goassigns.proofs.targets.target_at.Goals as goal

pub select_target-requires-clause-some : goal.select_target-requires-clause-some
select_target-requires-clause-some g c =
    let m = c.in-Member.ensures c.requires.some.whole c.requires.some.part in
    expr_there c.args.nodes.now c.args.at c.in-Member.inner m.of_inner c.requires.some.within m.at_inner

pub returns-in-Member : goal.returns-in-Member
returns-in-Member g c = λ e h.
    let m = c.in-Member.ensures e h in
    subst (λ (x : Expr). IsTarget c.select_target.result (target (g.N.Names.env c.args.names.now) x)) (sym m.made) (c.select_target.ensures m.of_inner m.at_inner.is)
