use Rattle.std.proofs.Common.{refl, arith}
use Rattle.gv_termread.specs.declared.generated.term_acts.Part.TheVariants.{Term as PTerm}
use Rattle.gv_certnodes.proofs.Opened.{some_made}
use Rattle.gv_certnodes.proofs.MadeKinds.{term_there}
use Rattle.gv_certnodes.proofs.generated.term_node.term_node.Goals as goal

pub act_of-requires : goal.act_of-requires
act_of-requires c = some_made c.args.text.now c.args.nodes.now c.args.at (PTerm c.requires.some.whole) c.requires.some.within c.requires.some.part refl

pub unreachable-requires : goal.unreachable-requires
unreachable-requires c =
    let e = term_there c.args.text.now c.args.nodes.now c.args.at c.act_of.result c.requires.some.whole c.act_of.ensures.made c.requires.some.part in
    let l = c.act_of.ensures.behind_marks in
    grind (arith, e, l)
