use Rattle.gv_terms.specs.Store.{tree_at}
use Rattle.gv_known.proofs.Trees.{no_equation, other_side, both_sides}
use Rattle.gv_known.proofs.facts.is_equation.Goals as goal

pub returns-then-same : goal.returns-then-same
returns-then-same c =
    let st = c.args.store.now in
    both_sides (tree_at st c.args.term.id) (tree_at st c.args.a.id) (tree_at st c.args.b.id) (tree_at st c.in-Some.parts.first.id) (tree_at st c.in-Some.parts.second.id)
    c.same.result c.same-then-same.result c.in-Some.ensures.parts c.same.ensures c.if-same.true c.same-then-same.ensures

pub returns-else-same : goal.returns-else-same
returns-else-same c =
    let st = c.args.store.now in
    other_side (tree_at st c.args.term.id) (tree_at st c.args.a.id) (tree_at st c.args.b.id) (tree_at st c.in-Some.parts.first.id) (tree_at st c.in-Some.parts.second.id)
    c.same.result c.in-Some.ensures.parts c.same.ensures c.if-same.false

pub returns-in-None : goal.returns-in-None
returns-in-None c =
    let st = c.args.store.now in
    no_equation (tree_at st c.args.term.id) (tree_at st c.args.a.id) (tree_at st c.args.b.id) c.in-None.ensures.parts
