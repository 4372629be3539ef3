use Rattle.std.proofs.Common.{ap}
use Rattle.gv_gosyntax.specs.declared.tree.Right.{Right as DeclaredRight}
use Rattle.gv_gotypes.specs.Trees.{expr_of, right_of, call_of}
use Rattle.gv_gotypes.specs.Expressions.{operand}
use Rattle.gv_gotypes.specs.Calls.{answer}
use Rattle.gv_gowalk.proofs.Steps.{expr_there}
use Rattle.gv_goassigns.proofs.TargetLemmas.{call_there}
use Rattle.gv_gouses.specs.Uses.{uses_of}
use Rattle.gv_gouses.specs.Parts.{right_findings}
use Rattle.gv_gouses.proofs.UseLemmas.{adds_as, then_so}
use Rattle.gv_gouses.proofs.calls.note_right.Goals as goal

pub note_operand-requires-clause-some : goal.note_operand-requires-clause-some
note_operand-requires-clause-some g c =
    let m = c.in-Value.ensures c.requires.some.whole c.requires.some.part in
    expr_there c.args.nodes.now c.args.at c.in-Value.value m.of_value c.requires.some.within m.at_value

pub note_call-requires-clause-some : goal.note_call-requires-clause-some
note_call-requires-clause-some g c =
    let m = c.in-Result.ensures c.requires.some.whole c.requires.some.part in
    call_there c.args.nodes.now c.args.at c.in-Result.result m.of_result c.requires.some.within m.at_result

pub returns-in-Value : goal.returns-in-Value
returns-in-Value g c = then_so c.note_operand.result c.note_operand.ensures (λ a. λ r h.
    let env = g.N.Names.env c.args.names.now in
    let m = c.in-Value.ensures r h in
    adds_as c.args.uses.now.items c.note_operand.new.uses.items (operand env (expr_of m.of_value)).findings (right_findings env (right_of r)) (a m.of_value m.at_value.is)
    (ap (λ (x : DeclaredRight). uses_of (right_findings env (right_of x))) m.made))

pub returns-in-Result : goal.returns-in-Result
returns-in-Result g c = then_so c.note_call.result c.note_call.ensures (λ a. λ r h.
    let env = g.N.Names.env c.args.names.now in
    let m = c.in-Result.ensures r h in
    adds_as c.args.uses.now.items c.note_call.new.uses.items (answer env (call_of m.of_result)).findings (right_findings env (right_of r)) (a m.of_result m.at_result.is)
    (ap (λ (x : DeclaredRight). uses_of (right_findings env (right_of x))) m.made))
