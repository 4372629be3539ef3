use Rattle.std.proofs.Common.{refl, arith}
use Rattle.gv_gosyntax.specs.declared.generated.gosyntax_acts.Part.TheVariants.{Simple as PSimple}
use Rattle.gv_gosyntax.specs.GosyntaxActs.{is_simple}
use Rattle.gv_gonodes.proofs.Opened.{some_made}
use Rattle.gv_gonodes.proofs.MadeKinds.{made_there}
use Rattle.gv_gonodes.proofs.generated.simple_node.simple_node.Goals as goal

pub act_of-requires : goal.act_of-requires
act_of-requires c = some_made c.args.nodes.now c.args.at (PSimple c.requires.some.whole) c.requires.some.within c.requires.some.part refl

pub unreachable-requires : goal.unreachable-requires
unreachable-requires c =
    let among = made_there is_simple c.args.nodes.now c.args.at c.act_of.result (PSimple c.requires.some.whole) c.act_of.ensures.behind_marks c.act_of.ensures.made c.requires.some.part refl in
    let e = among.one_of in
    grind (arith, e)
