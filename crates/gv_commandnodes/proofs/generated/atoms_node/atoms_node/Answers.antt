use Rattle.std.proofs.Common.{refl, arith}
use Rattle.gv_termread.specs.declared.generated.term_acts.Part.TheVariants.{Other as POther}
use Rattle.gv_scriptsyntax.specs.declared.generated.script_acts.ScriptPart.TheVariants.{Atoms as PAtoms}
use Rattle.gv_scriptsyntax.specs.ScriptActs.{is_atoms}
use Rattle.gv_certnodes.proofs.Opened.{some_made}
use Rattle.gv_certnodes.proofs.MadeKinds.{made_there}
use Rattle.gv_commandnodes.proofs.generated.atoms_node.atoms_node.Goals as goal

pub act_of-requires : goal.act_of-requires
act_of-requires c = some_made c.args.text.now c.args.nodes.now c.args.at (POther (PAtoms c.requires.some.whole)) c.requires.some.within c.requires.some.part refl

pub unreachable-requires : goal.unreachable-requires
unreachable-requires c =
    let among = made_there is_atoms c.args.text.now c.args.nodes.now c.args.at c.act_of.result (POther (PAtoms c.requires.some.whole)) c.act_of.ensures.made c.requires.some.part refl refl in
    let e = among.one_of in
    grind (arith, e)
