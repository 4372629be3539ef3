use Rattle.std.proofs.Common.{refl, arith}
use Rattle.gv_gosyntax.specs.declared.generated.gosyntax_acts.Part.TheVariants.{Exprs as PExprs}
use Rattle.gv_gosyntax.specs.GosyntaxActs.{is_exprs}
use Rattle.gv_gonodes.proofs.Opened.{some_made}
use Rattle.gv_gonodes.proofs.MadeKinds.{made_there}
use Rattle.gv_gonodes.proofs.generated.exprs_node.exprs_node.Goals as goal

pub act_of-requires : goal.act_of-requires
act_of-requires c = some_made c.args.nodes.now c.args.at (PExprs c.requires.some.whole) c.requires.some.within c.requires.some.part refl

pub unreachable-requires : goal.unreachable-requires
unreachable-requires c =
    let among = made_there is_exprs c.args.nodes.now c.args.at c.act_of.result (PExprs c.requires.some.whole) c.act_of.ensures.behind_marks c.act_of.ensures.made c.requires.some.part refl in
    let e = among.one_of in
    grind (arith, e)
