use Rattle.std.proofs.Common.{◌++◌, map, ap, ◌∙◌}
use Rattle.gv_gosyntax.specs.declared.tree.Simple.{Simple as DeclaredSimple}
use Rattle.gv_gotypes.specs.Trees.{Assign, call_of, expr_of, right_of, simple_of}
use Rattle.gv_gotypes.specs.Expressions.{operand}
use Rattle.gv_gotypes.specs.Calls.{answer}
use Rattle.gv_gotypes.specs.Assigning.{target}
use Rattle.gv_gotypes.specs.Statements.{simple_findings}
use Rattle.gv_gowalk.proofs.Steps.{expr_there}
use Rattle.gv_gocalls.proofs.ArgumentLemmas.{exprs_there}
use Rattle.gv_goassigns.proofs.TargetLemmas.{call_there}
use Rattle.gv_gosimple.proofs.Splits.{right_there}
use Rattle.gv_gouses.specs.Uses.{uses_of}
use Rattle.gv_gouses.proofs.UseLemmas.{adds_as, adds_two, then_so}
use Rattle.gv_gouses.proofs.CountUses.{counted_uses, update_uses}
use Rattle.gv_gouses.proofs.simple.note_simple.Goals as goal

pub note_assign-requires-clause-lefts : goal.note_assign-requires-clause-lefts
note_assign-requires-clause-lefts g c =
    let m = c.in-Assign.ensures c.requires.some.whole c.requires.some.part in
    exprs_there c.args.nodes.now c.args.at c.in-Assign.lefts m.of_lefts c.requires.some.within m.at_lefts

pub note_assign-requires-clause-right : goal.note_assign-requires-clause-right
note_assign-requires-clause-right g c =
    let m = c.in-Assign.ensures c.requires.some.whole c.requires.some.part in
    right_there c.args.nodes.now c.args.at c.in-Assign.right m.of_right c.requires.some.within m.at_right

pub note_side-requires-clause-some : goal.note_side-requires-clause-some
note_side-requires-clause-some g c =
    let m = c.in-Count.ensures c.requires.some.whole c.requires.some.part in
    expr_there c.args.nodes.now c.args.at c.in-Count.name m.of_name c.requires.some.within m.at_name

pub note_side-requires-in-Update-clause-some : goal.note_side-requires-in-Update-clause-some
note_side-requires-in-Update-clause-some g c =
    let m = c.in-Update.ensures c.requires.some.whole c.requires.some.part in
    expr_there c.args.nodes.now c.args.at c.in-Update.name m.of_name c.requires.some.within m.at_name

pub note_operand-requires-clause-some : goal.note_operand-requires-clause-some
note_operand-requires-clause-some g c =
    let m = c.in-Update.ensures c.requires.some.whole c.requires.some.part in
    expr_there c.args.nodes.now c.args.at c.in-Update.value m.of_value c.requires.some.within m.at_value

pub note_call-requires-clause-some : goal.note_call-requires-clause-some
note_call-requires-clause-some g c =
    let m = c.in-Do.ensures c.requires.some.whole c.requires.some.part in
    call_there c.args.nodes.now c.args.at c.in-Do.done m.of_done c.requires.some.within m.at_done

pub returns-in-Assign : goal.returns-in-Assign
returns-in-Assign g c = then_so c.note_assign.result c.note_assign.ensures (λ a. λ s h.
    let env = g.N.Names.env c.args.names.now in
    let m = c.in-Assign.ensures s h in
    adds_as c.args.uses.now.items c.note_assign.new.uses.items (simple_findings env (Assign (map expr_of m.of_lefts) c.in-Assign.sign (right_of m.of_right))) (simple_findings env (simple_of s))
    (a m.of_lefts m.of_right m.at_lefts.is m.at_right.is) (ap (λ (x : DeclaredSimple). uses_of (simple_findings env (simple_of x))) m.made))

pub returns-in-Count : goal.returns-in-Count
returns-in-Count g c = then_so c.note_side.result c.note_side.ensures (λ a. λ s h.
    let env = g.N.Names.env c.args.names.now in
    let m = c.in-Count.ensures s h in
    adds_as c.args.uses.now.items c.note_side.new.uses.items (target env (expr_of m.of_name)).findings (simple_findings env (simple_of s)) (a m.of_name m.at_name.is)
    (ap (λ (x : DeclaredSimple). uses_of (simple_findings env (simple_of x))) m.made ∙ counted_uses env (expr_of m.of_name)))

pub returns-in_ok-note_side-in-Update : goal.returns-in_ok-note_side-in-Update
returns-in_ok-note_side-in-Update g c = then_so c.note_operand.result c.note_operand.ensures (λ a. λ s h.
    let env = g.N.Names.env c.args.names.now in
    let old = c.args.uses.now.items in
    let m = c.in-Update.ensures s h in
    let x = (target env (expr_of m.of_name)).findings in
    let y = (operand env (expr_of m.of_value)).findings in
    adds_as old c.note_operand.new.uses.items (x ++ y) (simple_findings env (simple_of s))
    (adds_two old c.note_side-in-Update.new.uses.items c.note_operand.new.uses.items x y (c.in_ok-note_side-in-Update.ensures m.of_name m.at_name.is) (a m.of_value m.at_value.is))
    (ap (λ (z : DeclaredSimple). uses_of (simple_findings env (simple_of z))) m.made ∙ update_uses env c.in-Update.sign.class (expr_of m.of_name) (expr_of m.of_value)))

pub returns-in-Do : goal.returns-in-Do
returns-in-Do g c = then_so c.note_call.result c.note_call.ensures (λ a. λ s h.
    let env = g.N.Names.env c.args.names.now in
    let m = c.in-Do.ensures s h in
    adds_as c.args.uses.now.items c.note_call.new.uses.items (answer env (call_of m.of_done)).findings (simple_findings env (simple_of s)) (a m.of_done m.at_done.is)
    (ap (λ (x : DeclaredSimple). uses_of (simple_findings env (simple_of x))) m.made))
