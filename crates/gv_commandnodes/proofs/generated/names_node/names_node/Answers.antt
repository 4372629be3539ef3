use Rattle.std.proofs.Common.{refl, arith}
use Rattle.gv_termread.specs.declared.generated.term_acts.Part.TheVariants.{Other as POther}
use Rattle.gv_scriptsyntax.specs.declared.generated.script_acts.ScriptPart.TheVariants.{Names as PNames}
use Rattle.gv_scriptsyntax.specs.ScriptActs.{is_names}
use Rattle.gv_certnodes.proofs.Opened.{some_made}
use Rattle.gv_certnodes.proofs.MadeKinds.{made_there}
use Rattle.gv_commandnodes.proofs.generated.names_node.names_node.Goals as goal

pub act_of-requires : goal.act_of-requires
act_of-requires c = some_made c.args.text.now c.args.nodes.now c.args.at (POther (PNames c.requires.some.whole)) c.requires.some.within c.requires.some.part refl

pub unreachable-requires : goal.unreachable-requires
unreachable-requires c =
    let among = made_there is_names c.args.text.now c.args.nodes.now c.args.at c.act_of.result (POther (PNames c.requires.some.whole)) c.act_of.ensures.made c.requires.some.part refl refl in
    let e = among.one_of in
    grind (arith, e)
