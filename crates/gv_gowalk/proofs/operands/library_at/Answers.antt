use Rattle.std.proofs.Common.{None, sym, ap, ◌∙◌}
use Rattle.gv_gosyntax.specs.declared.tree.Expr.TheVariants as expr
use Rattle.gv_gotypes.specs.Trees.{expr_of}
use Rattle.gv_gowalk.proofs.Trees.{name_of}
use Rattle.gv_gowalk.proofs.Steps.{library_there, named, unnamed}
use Rattle.gv_gowalk.proofs.operands.library_at.Goals as goal

pub returns-in-Some-library_named : goal.returns-in-Some-library_named
returns-in-Some-library_named g c = λ e h.
    let t = c.in-Some.name in
    let q = named c.args.nodes.now c.args.at c.expr_node-node.result e t (sym c.in-Some.ensures) (c.expr_node-node.ensures e h) in
    record { same = ap expr_of q ∙ name_of t; named = sym c.in-Some-library_named.ensures }

pub returns-in-None-library_named : goal.returns-in-None-library_named
returns-in-None-library_named g c = λ e h.
    let t = c.in-Some.name in
    let q = named c.args.nodes.now c.args.at c.expr_node-node.result e t (sym c.in-Some.ensures) (c.expr_node-node.ensures e h) in
    library_there (g.N.Names.env c.args.names.now) e (expr.Name t) t None q (name_of t) c.in-None-library_named.ensures

pub returns-in-None : goal.returns-in-None
returns-in-None g c = λ e h.
    unnamed (g.N.Names.env c.args.names.now) c.args.nodes.now c.args.at c.expr_node-node.result e (sym c.in-None.ensures) (c.expr_node-node.ensures e h)
