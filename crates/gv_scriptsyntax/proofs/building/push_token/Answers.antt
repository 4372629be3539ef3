use Rattle.std.proofs.Common.{ap, sym, subst, ◌∙◌}
use Rattle.gv_scriptsyntax.specs.declared.node.Node.TheVariants.{Token}
use Rattle.gv_scriptsyntax.specs.Nodes.{built, IsFormed}
use Rattle.gv_scriptsyntax.proofs.Nodes.{built_end, formed_token}
use Rattle.gv_scriptsyntax.proofs.building.push_token.Goals as goal

pub returns-clause-made : goal.returns-clause-made
returns-clause-made c = ap (built c.args.text.now) c.in_ok-push.ensures.items ∙ built_end c.args.text.now c.args.nodes.now.items (Token c.args.token)

pub returns-clause-formed : goal.returns-clause-formed
returns-clause-formed c = subst (IsFormed c.args.text.now) (sym c.in_ok-push.ensures.items) (formed_token c.args.text.now c.args.nodes.now.items c.args.token c.requires.formed c.requires.made)
