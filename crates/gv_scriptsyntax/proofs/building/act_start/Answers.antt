use Rattle.std.proofs.Common.{◌≡◌, ℕ, Some, ap, subst, ◌∙◌}
use Rattle.std.specs.Prelude.{take, drop}
use Rattle.gv_scriptsyntax.specs.Nodes.{built}
use Rattle.gv_scriptsyntax.proofs.Nodes.{has_parts, take_whole}
use Rattle.gv_scriptsyntax.proofs.building.act_start.Goals as goal

pub start_of-requires-clause-enough : goal.start_of-requires-clause-enough
start_of-requires-clause-enough c = rw c.arity.ensures (has_parts c.args.text.now c.args.nodes.now c.args.act c.requires.allowed)

pub returns-clause-kept : goal.returns-clause-kept
returns-clause-kept c = λ parts e.
    subst (λ (n : ℕ). built c.args.text.now (take c.start_of.result c.args.nodes.now) ≡ Some (drop n parts)) c.arity.ensures
    (c.start_of.ensures.kept parts (ap (built c.args.text.now) (take_whole c.args.text.now c.args.nodes.now) ∙ e))
