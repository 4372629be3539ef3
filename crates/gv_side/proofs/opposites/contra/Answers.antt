use Rattle.gv_terms.specs.Store.{tree_at, trees_at}
use Rattle.gv_certs.specs.Trees.{negation}
use Rattle.gv_side.proofs.Lists.{trees_same, both_hold, second_fault}
use Rattle.gv_side.proofs.opposites.contra.Goals as goal

pub returns-clause-holds : goal.returns-clause-holds
returns-clause-holds c =
    let st = c.args.store.now in
    let new = c.negation.new.store in
    let g = tree_at st c.args.formula.id in
    both_hold c.ask_known-2.result (trees_at st c.args.facts.now) (trees_at new c.args.facts.now) g (negation g) (tree_at new c.in_ok-denied.denied.id)
    (trees_same st new c.args.facts.now c.requires.facts c.negation.ensures.grows) c.in_ok-denied.ensures.made c.in_ok-ask_known.ensures.holds c.ask_known-2.ensures.holds

pub returns-clause-cause : goal.returns-clause-cause
returns-clause-cause c =
    let st = c.args.store.now in
    let new = c.negation.new.store in
    let g = tree_at st c.args.formula.id in
    second_fault c.ask_known-2.result (trees_at st c.args.facts.now) (trees_at new c.args.facts.now) g (negation g) (tree_at new c.in_ok-denied.denied.id)
    (trees_same st new c.args.facts.now c.requires.facts c.negation.ensures.grows) c.in_ok-denied.ensures.made c.in_ok-ask_known.ensures.holds c.ask_known-2.ensures.cause
