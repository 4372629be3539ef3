use Rattle.std.proofs.Common.{sym, ap, ◌∙◌}
use Rattle.gv_gosyntax.specs.declared.tree.Simple.{Simple as DeclaredSimple}
use Rattle.gv_gotypes.specs.Trees.{simple_of}
use Rattle.gv_gotypes.specs.Statements.{simple_after}
use Rattle.gv_gocalls.proofs.ArgumentLemmas.{exprs_there}
use Rattle.gv_gosimple.proofs.Splits.{right_there}
use Rattle.gv_gosimple.proofs.simple.declare_simple.Goals as goal

pub declare_assigned-requires-clause-lefts : goal.declare_assigned-requires-clause-lefts
declare_assigned-requires-clause-lefts g c =
    let m = c.in-Assign.ensures c.requires.some.whole c.requires.some.part in
    exprs_there c.args.nodes.now c.args.at c.in-Assign.lefts m.of_lefts c.requires.some.within m.at_lefts

pub declare_assigned-requires-clause-right : goal.declare_assigned-requires-clause-right
declare_assigned-requires-clause-right g c =
    let m = c.in-Assign.ensures c.requires.some.whole c.requires.some.part in
    right_there c.args.nodes.now c.args.at c.in-Assign.right m.of_right c.requires.some.within m.at_right

pub returns-in-Count-clause-env : goal.returns-in-Count-clause-env
returns-in-Count-clause-env g c = λ s h. let m = c.in-Count.ensures s h in sym (ap (λ (x : DeclaredSimple). simple_after (g.N.Names.env c.args.names.now) (simple_of x)) m.made)

pub returns-in-Update-clause-env : goal.returns-in-Update-clause-env
returns-in-Update-clause-env g c = λ s h. let m = c.in-Update.ensures s h in sym (ap (λ (x : DeclaredSimple). simple_after (g.N.Names.env c.args.names.now) (simple_of x)) m.made)

pub returns-in-Do-clause-env : goal.returns-in-Do-clause-env
returns-in-Do-clause-env g c = λ s h. let m = c.in-Do.ensures s h in sym (ap (λ (x : DeclaredSimple). simple_after (g.N.Names.env c.args.names.now) (simple_of x)) m.made)

pub returns-in_ok-declare_assigned-in-Assign-clause-env : goal.returns-in_ok-declare_assigned-in-Assign-clause-env
returns-in_ok-declare_assigned-in-Assign-clause-env g c = λ s h.
    let m = c.in-Assign.ensures s h in
    c.in_ok-declare_assigned-in-Assign.ensures.env m.of_lefts m.of_right m.at_lefts.is m.at_right.is
    ∙ sym (ap (λ (x : DeclaredSimple). simple_after (g.N.Names.env c.args.names.now) (simple_of x)) m.made)
