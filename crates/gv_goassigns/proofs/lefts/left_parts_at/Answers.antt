use Rattle.std.proofs.Common.{sym, ap, ◌∙◌}
use Rattle.gv_gotypes.specs.Trees.{Expr}
use Rattle.gv_gotypes.specs.Assigning.{left_parts}
use Rattle.gv_gotyped.specs.First.{first_of}
use Rattle.gv_gowalk.proofs.Steps.{expr_there}
use Rattle.gv_goassigns.proofs.lefts.left_parts_at.Goals as goal

pub member_parts-requires-clause-some : goal.member_parts-requires-clause-some
member_parts-requires-clause-some g c =
    let m = c.in-Member.ensures c.requires.some.whole c.requires.some.part in
    expr_there c.args.nodes.now c.args.at c.in-Member.inner m.of_inner c.requires.some.within m.at_inner

pub item_parts-requires-clause-inner : goal.item_parts-requires-clause-inner
item_parts-requires-clause-inner g c =
    let m = c.in-Item.ensures c.requires.some.whole c.requires.some.part in
    expr_there c.args.nodes.now c.args.at c.in-Item.inner m.of_inner c.requires.some.within m.at_inner

pub item_parts-requires-clause-index : goal.item_parts-requires-clause-index
item_parts-requires-clause-index g c =
    let m = c.in-Item.ensures c.requires.some.whole c.requires.some.part in
    expr_there c.args.nodes.now c.args.at c.in-Item.index m.of_index c.requires.some.within m.at_index

pub returns-in-Member : goal.returns-in-Member
returns-in-Member g c = λ e h.
    let m = c.in-Member.ensures e h in
    c.member_parts.ensures m.of_inner m.at_inner.is ∙ sym (ap (λ (x : Expr). first_of (left_parts (g.N.Names.env c.args.names.now) x)) m.made)

pub returns-in-Item : goal.returns-in-Item
returns-in-Item g c = λ e h.
    let m = c.in-Item.ensures e h in
    c.item_parts.ensures m.of_inner m.of_index m.at_inner.is m.at_index.is ∙ sym (ap (λ (x : Expr). first_of (left_parts (g.N.Names.env c.args.names.now) x)) m.made)
