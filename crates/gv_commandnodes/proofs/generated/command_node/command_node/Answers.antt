use Rattle.std.proofs.Common.{refl, arith, [], ◌∷◌, inl, inr}
use Rattle.gv_termread.specs.declared.generated.term_acts.Part.TheVariants.{Other as POther}
use Rattle.gv_scriptsyntax.specs.declared.generated.script_acts.ScriptPart.TheVariants.{Command as PCommand}
use Rattle.gv_commandnodes.proofs.Halves.{either, bounded}
use Rattle.gv_scriptsyntax.specs.ScriptActs.{is_command}
use Rattle.gv_certnodes.proofs.Opened.{some_made}
use Rattle.gv_certnodes.proofs.MadeKinds.{made_there}
use Rattle.gv_commandnodes.proofs.generated.command_node.command_node.Goals as goal

pub act_of-act-requires : goal.act_of-act-requires
act_of-act-requires c = some_made c.args.text.now c.args.nodes.now c.args.at (POther (PCommand c.requires.some.whole)) c.requires.some.within c.requires.some.part refl

pub earlier_command_node-requires-clause-among : goal.earlier_command_node-requires-clause-among
earlier_command_node-requires-clause-among c =
    let among = made_there is_command c.args.text.now c.args.nodes.now c.args.at c.act_of-act.result (POther (PCommand c.requires.some.whole)) c.act_of-act.ensures.made c.requires.some.part refl refl in
    elim (either c.act_of-act.result (70 ∷ 71 ∷ 72 ∷ 73 ∷ 74 ∷ 75 ∷ 76 ∷ 77 ∷ 78 ∷ 79 ∷ 80 ∷ 81 ∷ 82 ∷ 83 ∷ []) (84 ∷ 85 ∷ 86 ∷ 87 ∷ 88 ∷ 89 ∷ 90 ∷ 91 ∷ 92 ∷ 93 ∷ 94 ∷ 95 ∷ 96 ∷ 97 ∷ []) among.one_of) [ inl a ↦ a | inr b ↦ let k = bounded c.act_of-act.result 84 98 (84 ∷ 85 ∷ 86 ∷ 87 ∷ 88 ∷ 89 ∷ 90 ∷ 91 ∷ 92 ∷ 93 ∷ 94 ∷ 95 ∷ 96 ∷ 97 ∷ []) (omega arith, omega arith, (omega arith, omega arith, (omega arith, omega arith, (omega arith, omega arith, (omega arith, omega arith, (omega arith, omega arith, (omega arith, omega arith, (omega arith, omega arith, (omega arith, omega arith, (omega arith, omega arith, (omega arith, omega arith, (omega arith, omega arith, (omega arith, omega arith, (omega arith, omega arith, tt)))))))))))))) b in let l = k.0 in let m = k.1 in let never : ⊥ = grind (arith, l, m) in absurd never ]

pub later_command_node-requires-clause-among : goal.later_command_node-requires-clause-among
later_command_node-requires-clause-among c =
    let among = made_there is_command c.args.text.now c.args.nodes.now c.args.at c.act_of-act.result (POther (PCommand c.requires.some.whole)) c.act_of-act.ensures.made c.requires.some.part refl refl in
    elim (either c.act_of-act.result (70 ∷ 71 ∷ 72 ∷ 73 ∷ 74 ∷ 75 ∷ 76 ∷ 77 ∷ 78 ∷ 79 ∷ 80 ∷ 81 ∷ 82 ∷ 83 ∷ []) (84 ∷ 85 ∷ 86 ∷ 87 ∷ 88 ∷ 89 ∷ 90 ∷ 91 ∷ 92 ∷ 93 ∷ 94 ∷ 95 ∷ 96 ∷ 97 ∷ []) among.one_of) [ inl a ↦ let k = bounded c.act_of-act.result 70 84 (70 ∷ 71 ∷ 72 ∷ 73 ∷ 74 ∷ 75 ∷ 76 ∷ 77 ∷ 78 ∷ 79 ∷ 80 ∷ 81 ∷ 82 ∷ 83 ∷ []) (omega arith, omega arith, (omega arith, omega arith, (omega arith, omega arith, (omega arith, omega arith, (omega arith, omega arith, (omega arith, omega arith, (omega arith, omega arith, (omega arith, omega arith, (omega arith, omega arith, (omega arith, omega arith, (omega arith, omega arith, (omega arith, omega arith, (omega arith, omega arith, (omega arith, omega arith, tt)))))))))))))) a in let l = k.0 in let m = k.1 in let never : ⊥ = grind (arith, l, m) in absurd never | inr b ↦ b ]
