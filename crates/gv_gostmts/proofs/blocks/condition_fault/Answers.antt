use Rattle.std.proofs.Common.{Option, sym, ap, ◌∙◌}
use Rattle.std.specs.Prelude.{option_map}
use Rattle.gv_gosyntax.specs.declared.tree.Expr.{Expr as DeclaredExpr}
use Rattle.gv_gotypes.specs.Trees.{expr_of}
use Rattle.gv_gotypes.specs.Statements.{condition_findings}
use Rattle.gv_gotyped.specs.First.{first_of}
use Rattle.gv_gowalk.proofs.Steps.{expr_there}
use Rattle.gv_gostmts.proofs.blocks.condition_fault.Goals as goal

pub placed_at-requires-clause-some : goal.placed_at-requires-clause-some
placed_at-requires-clause-some g c =
    let m = c.in-Bound.ensures c.requires.some.whole c.requires.some.part in
    expr_there c.args.nodes.now c.args.at c.in-Bound.inner m.of_inner c.requires.some.within m.at_inner

pub returns-in-NoBound : goal.returns-in-NoBound
returns-in-NoBound g c = λ e h. sym (ap (λ (x : Option DeclaredExpr). first_of (condition_findings (g.N.Names.env c.args.names.now) (option_map expr_of x))) (c.in-NoBound.ensures e h))

pub returns-in-Bound : goal.returns-in-Bound
returns-in-Bound g c = λ e h.
    let m = c.in-Bound.ensures e h in
    c.placed_at.ensures m.of_inner m.at_inner.is
    ∙ sym (ap (λ (x : Option DeclaredExpr). first_of (condition_findings (g.N.Names.env c.args.names.now) (option_map expr_of x))) m.made)
