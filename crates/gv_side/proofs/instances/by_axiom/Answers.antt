use Rattle.std.proofs.Common.{◌∙◌, ap}
use Rattle.gv_terms.specs.Store.{tree_at, trees_at}
use Rattle.gv_axioms.specs.Instances.{instance_of}
use Rattle.gv_certs.specs.Trees.{tree_eq}
use Rattle.gv_certs.specs.Proving.{of_instance}
use Rattle.gv_known.proofs.Nodes.{tree_kept}
use Rattle.gv_side.specs.Telling.{IsFault}
use Rattle.gv_side.proofs.Lists.{trees_same, handed_on, given, not_given, not_known}
use Rattle.gv_side.proofs.instances.by_axiom.Goals as goal

pub returns-in_err-ask_all-clause-cause : goal.returns-in_err-ask_all-clause-cause
returns-in_err-ask_all-clause-cause c =
    let st = c.args.store.now in
    let new = c.instance.new.store in
    let facts = c.args.facts.now in
    let o = instance_of c.args.number (trees_at st c.args.parts.now) in
    let goal_tree = tree_at st c.args.goal.id in
    let e = c.in_err-ask_all.field-0.0 in
    handed_on c.from_residual.result e (IsFault (of_instance (trees_at st facts) goal_tree o)) c.from_residual.ensures.1
    (not_known (trees_at st facts) (trees_at new facts) o (trees_at new c.in-Ok.given.premises) (trees_at new c.as_slice.result.now) (tree_at new c.in-Ok.given.conclusion.id) goal_tree
    c.in-Ok.ensures.exact (trees_same st new facts c.requires.facts c.instance.ensures.grows) (ap (trees_at new) c.as_slice.ensures) e c.in_err-ask_all.ensures.cause)

pub returns-clause-holds : goal.returns-clause-holds
returns-clause-holds c =
    let st = c.args.store.now in
    let new = c.instance.new.store in
    let facts = c.args.facts.now in
    let o = instance_of c.args.number (trees_at st c.args.parts.now) in
    let goal_tree = tree_at st c.args.goal.id in
    let conclusion = tree_at new c.in-Ok.given.conclusion.id in
    given (trees_at st facts) (trees_at new facts) o (trees_at new c.in-Ok.given.premises) (trees_at new c.as_slice.result.now) conclusion goal_tree
    c.in-Ok.ensures.exact (trees_same st new facts c.requires.facts c.instance.ensures.grows) (ap (trees_at new) c.as_slice.ensures)
    c.ask.result c.same.result (c.same.ensures ∙ ap (tree_eq conclusion) (tree_kept st new c.args.goal c.requires.goal c.instance.ensures.grows)) c.in_ok-ask_all.ensures.holds c.ask.ensures.holds

pub returns-clause-cause : goal.returns-clause-cause
returns-clause-cause c =
    let st = c.args.store.now in
    let new = c.instance.new.store in
    let facts = c.args.facts.now in
    let o = instance_of c.args.number (trees_at st c.args.parts.now) in
    let goal_tree = tree_at st c.args.goal.id in
    let conclusion = tree_at new c.in-Ok.given.conclusion.id in
    not_given (trees_at st facts) (trees_at new facts) o (trees_at new c.in-Ok.given.premises) (trees_at new c.as_slice.result.now) conclusion goal_tree
    c.in-Ok.ensures.exact (trees_same st new facts c.requires.facts c.instance.ensures.grows) (ap (trees_at new) c.as_slice.ensures)
    c.ask.result c.same.result (c.same.ensures ∙ ap (tree_eq conclusion) (tree_kept st new c.args.goal c.requires.goal c.instance.ensures.grows)) c.in_ok-ask_all.ensures.holds c.ask.ensures.cause
