use Rattle.std.proofs.Common.{◌≡◌, ◌≤◌, List, Some, length, ap, sym, subst, ◌∙◌}
use Rattle.std.specs.Prelude.{take, drop}
use Rattle.gv_scriptsyntax.specs.declared.node.Node.{Node}
use Rattle.gv_scriptsyntax.specs.declared.node.Node.TheVariants.{Made}
use Rattle.gv_scriptsyntax.specs.Nodes.{Parts, built, arity, IsFormed}
use Rattle.gv_scriptsyntax.proofs.Nodes.{built_end, formed_act}
use Rattle.gv_scriptsyntax.proofs.building.push_made.Goals as goal

pub returns-clause-made : goal.returns-clause-made
returns-clause-made c = ap (built c.args.text.now) c.in_ok-push.ensures.items ∙ built_end c.args.text.now c.args.nodes.now.items (Made c.args.act c.act_start-from.result)

pub returns-clause-formed : goal.returns-clause-formed
returns-clause-formed c =
    let from = c.act_start-from.result in
    subst (IsFormed c.args.text.now) (sym c.in_ok-push.ensures.items)
    (formed_act c.args.text.now c.args.nodes.now.items c.args.act from c.requires.formed c.requires.allowed
    (subst (λ (nodes : List Node). from ≤ length nodes) c.deref.ensures.value c.act_start-from.ensures.within)
    (subst (λ (nodes : List Node). (parts : Parts) → built c.args.text.now nodes ≡ Some parts → built c.args.text.now (take from nodes) ≡ Some (drop (arity c.args.act) parts)) c.deref.ensures.value c.act_start-from.ensures.kept))
