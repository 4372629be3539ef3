use Rattle.std.proofs.Common.{◌≡◌, None, Some, IfOk, IfErr, subst}
use Rattle.gv_terms.specs.Store.{tree_at, trees_at}
use Rattle.gv_axioms.specs.declared.fault.AxiomFault.TheVariants as fault
use Rattle.gv_axioms.proofs.Stacks.{applied_tree}
use Rattle.gv_axioms.proofs.building.term_of.Goals as goal

pub returns-in_ok-operands-in-Apply-clause-made : goal.returns-in_ok-operands-in-Apply-clause-made
returns-in_ok-operands-in-Apply-clause-made c =
    subst (λ o. IfOk c.apply-in-Apply.result (λ t. o ≡ Some (tree_at c.apply-in-Apply.new.store t.id)))
    (applied_tree (trees_at c.args.store.now c.args.parts.now) c.args.store.now c.args.stack.now c.in_ok-operands-in-Apply.operands.items c.args.step c.in-Apply.operator c.in-Apply.count c.in-Apply.is c.in_ok-operands-in-Apply.ensures)
    c.apply-in-Apply.ensures.made

pub returns-in_ok-operands-in-Apply-clause-cause : goal.returns-in_ok-operands-in-Apply-clause-cause
returns-in_ok-operands-in-Apply-clause-cause c =
    subst (λ o. IfErr c.apply-in-Apply.result (λ e. e ≡ fault.BadAxiom → o ≡ None))
    (applied_tree (trees_at c.args.store.now c.args.parts.now) c.args.store.now c.args.stack.now c.in_ok-operands-in-Apply.operands.items c.args.step c.in-Apply.operator c.in-Apply.count c.in-Apply.is c.in_ok-operands-in-Apply.ensures)
    c.apply-in-Apply.ensures.cause
