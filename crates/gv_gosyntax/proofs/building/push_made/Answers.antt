use Rattle.std.proofs.Common.{◌≡◌, ◌≤◌, List, Some, length, ap, sym, subst, ◌∙◌}
use Rattle.std.specs.Prelude.{take, drop}
use Rattle.gv_gosyntax.specs.declared.generated.gosyntax_acts.Part.{Part}
use Rattle.gv_gosyntax.specs.declared.node.Node.{Node}
use Rattle.gv_gosyntax.specs.declared.node.Node.TheVariants.{Made}
use Rattle.gv_gosyntax.specs.Nodes.{built, arity, IsFormed}
use Rattle.gv_gosyntax.proofs.Nodes.{built_end, formed_act}
use Rattle.gv_gosyntax.proofs.building.push_made.Goals as goal

pub returns-clause-made : goal.returns-clause-made
returns-clause-made c = ap built c.in_ok-push.ensures.items ∙ built_end c.args.nodes.now.items (Made c.args.act c.act_start-from.result)

pub returns-clause-formed : goal.returns-clause-formed
returns-clause-formed c =
    let from = c.act_start-from.result in
    subst IsFormed (sym c.in_ok-push.ensures.items)
    (formed_act c.args.nodes.now.items c.args.act from c.requires.formed c.requires.allowed
    (subst (λ (nodes : List Node). from ≤ length nodes) c.deref.ensures.value c.act_start-from.ensures.within)
    (subst (λ (nodes : List Node). (parts : List Part) → built nodes ≡ Some parts → built (take from nodes) ≡ Some (drop (arity c.args.act) parts)) c.deref.ensures.value c.act_start-from.ensures.kept))
