use Rattle.std.proofs.Common.{◌≡◌, Option, IfOk, sym, ap, subst, ◌∙◌}
use Rattle.gv_gosyntax.specs.declared.tree.Simple.{Simple as DeclaredSimple}
use Rattle.gv_gotypes.specs.Trees.{simple_of}
use Rattle.gv_gotypes.specs.Statements.{simple_findings}
use Rattle.gv_gotyped.specs.declared.fault.Fault.{Fault}
use Rattle.gv_gotyped.specs.First.{first_of}
use Rattle.gv_gowalk.proofs.Steps.{expr_there}
use Rattle.gv_gocalls.proofs.ArgumentLemmas.{exprs_there}
use Rattle.gv_goassigns.proofs.TargetLemmas.{call_there}
use Rattle.gv_gosimple.proofs.Splits.{right_there}
use Rattle.gv_gosimple.proofs.simple.simple_fault.Goals as goal

pub assign_fault-requires-clause-lefts : goal.assign_fault-requires-clause-lefts
assign_fault-requires-clause-lefts g c =
    let m = c.in-Assign.ensures c.requires.some.whole c.requires.some.part in
    exprs_there c.args.nodes.now c.args.at c.in-Assign.lefts m.of_lefts c.requires.some.within m.at_lefts

pub assign_fault-requires-clause-right : goal.assign_fault-requires-clause-right
assign_fault-requires-clause-right g c =
    let m = c.in-Assign.ensures c.requires.some.whole c.requires.some.part in
    right_there c.args.nodes.now c.args.at c.in-Assign.right m.of_right c.requires.some.within m.at_right

pub returns-in-Assign : goal.returns-in-Assign
returns-in-Assign g c = λ s h.
    let m = c.in-Assign.ensures s h in
    subst (λ (x : DeclaredSimple). IfOk c.assign_fault.result (λ (f : Option Fault). f ≡ first_of (simple_findings (g.N.Names.env c.args.names.now) (simple_of x)))) (sym m.made)
    (c.assign_fault.ensures m.of_lefts m.of_right m.at_lefts.is m.at_right.is)

pub counted_at-requires-clause-some : goal.counted_at-requires-clause-some
counted_at-requires-clause-some g c =
    let m = c.in-Count.ensures c.requires.some.whole c.requires.some.part in
    expr_there c.args.nodes.now c.args.at c.in-Count.name m.of_name c.requires.some.within m.at_name

pub returns-in-Count : goal.returns-in-Count
returns-in-Count g c = λ s h.
    let m = c.in-Count.ensures s h in
    c.counted_at.ensures m.of_name m.at_name.is ∙ sym (ap (λ (x : DeclaredSimple). first_of (simple_findings (g.N.Names.env c.args.names.now) (simple_of x))) m.made)

pub update_at-requires-clause-left : goal.update_at-requires-clause-left
update_at-requires-clause-left g c =
    let m = c.in-Update.ensures c.requires.some.whole c.requires.some.part in
    expr_there c.args.nodes.now c.args.at c.in-Update.name m.of_name c.requires.some.within m.at_name

pub update_at-requires-clause-right : goal.update_at-requires-clause-right
update_at-requires-clause-right g c =
    let m = c.in-Update.ensures c.requires.some.whole c.requires.some.part in
    expr_there c.args.nodes.now c.args.at c.in-Update.value m.of_value c.requires.some.within m.at_value

pub returns-in-Update : goal.returns-in-Update
returns-in-Update g c = λ s h.
    let m = c.in-Update.ensures s h in
    c.update_at.ensures m.of_name m.of_value m.at_name.is m.at_value.is
    ∙ sym (ap (λ (x : DeclaredSimple). first_of (simple_findings (g.N.Names.env c.args.names.now) (simple_of x))) m.made)

pub answer_at-requires-clause-some : goal.answer_at-requires-clause-some
answer_at-requires-clause-some g c =
    let m = c.in-Do.ensures c.requires.some.whole c.requires.some.part in
    call_there c.args.nodes.now c.args.at c.in-Do.done m.of_done c.requires.some.within m.at_done

pub returns-in_ok-answer-in-Do : goal.returns-in_ok-answer-in-Do
returns-in_ok-answer-in-Do g c = λ s h.
    let m = c.in-Do.ensures s h in
    let k = c.in_ok-answer-in-Do.ensures m.of_done m.at_done.is in
    k.first ∙ sym (ap (λ (x : DeclaredSimple). first_of (simple_findings (g.N.Names.env c.args.names.now) (simple_of x))) m.made)
