use Rattle.std.proofs.Common.{ap, sym, subst, ◌∙◌}
use Rattle.gv_gosyntax.specs.declared.node.Node.TheVariants.{Token}
use Rattle.gv_gosyntax.specs.Nodes.{built, IsFormed}
use Rattle.gv_gosyntax.proofs.Nodes.{built_end, formed_token}
use Rattle.gv_gosyntax.proofs.building.push_token.Goals as goal

pub returns-clause-made : goal.returns-clause-made
returns-clause-made c = ap built c.in_ok-push.ensures.items ∙ built_end c.args.nodes.now.items (Token c.args.token)

pub returns-clause-formed : goal.returns-clause-formed
returns-clause-formed c = subst IsFormed (sym c.in_ok-push.ensures.items) (formed_token c.args.nodes.now.items c.args.token c.requires.formed c.requires.made)
