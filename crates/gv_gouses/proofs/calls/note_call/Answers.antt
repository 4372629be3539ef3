use Rattle.std.proofs.Common.{◌==◌, [], ◌++◌, map, Some, None, ap, ◌∙◌}
use Rattle.std.specs.Prelude.{codes}
use Rattle.gv_gosyntax.specs.declared.generated.gosyntax_table.TheConstants.{CLASS_DELETE}
use Rattle.gv_gosyntax.specs.declared.tree.Call.{Call as DeclaredCall}
use Rattle.gv_gosyntax.specs.declared.tree.KeyedExpr.{KeyedExpr as DeclaredKeyed}
use Rattle.gv_operands.specs.declared.part.Want.TheVariants.{Exactly}
use Rattle.gv_operands.specs.declared.types.GoType.TheVariants.{Word}
use Rattle.gv_gotypes.specs.Trees.{call_of, expr_of, keyed_of}
use Rattle.gv_gotypes.specs.Scopes.{name_in, entity_named}
use Rattle.gv_gotypes.specs.Kinds.{struct_in, mutex_in, name_findings}
use Rattle.gv_gotypes.specs.Expressions.{operand}
use Rattle.gv_gotypes.specs.Calls.{answer, callee, fields_of, keyed_findings}
use Rattle.gv_gowalk.proofs.Steps.{expr_there}
use Rattle.gv_gocalls.proofs.ArgumentLemmas.{exprs_there}
use Rattle.gv_gocalls.proofs.KeyedLemmas.{keyed_there}
use Rattle.gv_gouses.specs.Uses.{uses_of}
use Rattle.gv_gouses.specs.Parts.{operands_findings}
use Rattle.gv_gouses.proofs.UseLemmas.{adds_as, adds_nothing, adds_two, then_so, uses_none, uses_behind}
use Rattle.gv_gouses.proofs.CallUses.{function_uses, pair_uses, make_uses, placed_uses, keyed_uses, name_faults}
use Rattle.gv_gouses.proofs.calls.note_call.Goals as goal

pub note_callee-requires-clause-some : goal.note_callee-requires-clause-some
note_callee-requires-clause-some g c =
    let m = c.in-Call.ensures c.requires.some.whole c.requires.some.part in
    expr_there c.args.nodes.now c.args.at c.in-Call.function m.of_function c.requires.some.within m.at_function

pub note_operands-requires-clause-some : goal.note_operands-requires-clause-some
note_operands-requires-clause-some g c =
    let m = c.in-Call.ensures c.requires.some.whole c.requires.some.part in
    exprs_there c.args.nodes.now c.args.at c.in-Call.arguments m.of_arguments c.requires.some.within m.at_arguments

pub note_operand-requires-clause-some : goal.note_operand-requires-clause-some
note_operand-requires-clause-some g c =
    let m = c.in-Pair.ensures c.requires.some.whole c.requires.some.part in
    expr_there c.args.nodes.now c.args.at c.in-Pair.first m.of_first c.requires.some.within m.at_first

pub note_operand-requires-in-Pair-clause-some : goal.note_operand-requires-in-Pair-clause-some
note_operand-requires-in-Pair-clause-some g c =
    let m = c.in-Pair.ensures c.requires.some.whole c.requires.some.part in
    expr_there c.args.nodes.now c.args.at c.in-Pair.second m.of_second c.requires.some.within m.at_second

pub note_operand-requires-in-MakeLength-clause-some : goal.note_operand-requires-in-MakeLength-clause-some
note_operand-requires-in-MakeLength-clause-some g c =
    let m = c.in-MakeLength.ensures c.requires.some.whole c.requires.some.part in
    expr_there c.args.nodes.now c.args.at c.in-MakeLength.length m.of_length c.requires.some.within m.at_length

pub note_values-requires-clause-some : goal.note_values-requires-clause-some
note_values-requires-clause-some g c =
    let m = c.in-Literal.ensures c.requires.some.whole c.requires.some.part in
    keyed_there c.args.nodes.now c.args.at c.in-Literal.fields m.of_fields c.requires.some.within m.at_fields

pub returns-in_ok-note_callee-in-Call : goal.returns-in_ok-note_callee-in-Call
returns-in_ok-note_callee-in-Call g c = then_so c.note_operands.result c.note_operands.ensures (λ a. λ d h.
    let env = g.N.Names.env c.args.names.now in
    let old = c.args.uses.now.items in
    let m = c.in-Call.ensures d h in
    let f = (callee env (expr_of m.of_function)).findings in
    let es = operands_findings env (map expr_of m.of_arguments) in
    adds_as old c.note_operands.new.uses.items (f ++ es) (answer env (call_of d)).findings
    (adds_two old c.note_callee.new.uses.items c.note_operands.new.uses.items f es (c.in_ok-note_callee-in-Call.ensures m.of_function m.at_function.is) (a m.of_arguments m.at_arguments.is))
    (ap (λ (x : DeclaredCall). uses_of (answer env (call_of x)).findings) m.made ∙ function_uses env (expr_of m.of_function) (map expr_of m.of_arguments) (callee env (expr_of m.of_function))))

pub returns-in_ok-note_operand-in-Pair : goal.returns-in_ok-note_operand-in-Pair
returns-in_ok-note_operand-in-Pair g c = then_so c.note_operand-in-Pair.result c.note_operand-in-Pair.ensures (λ a. λ d h.
    let env = g.N.Names.env c.args.names.now in
    let old = c.args.uses.now.items in
    let m = c.in-Pair.ensures d h in
    let x = (operand env (expr_of m.of_first)).findings in
    let y = (operand env (expr_of m.of_second)).findings in
    adds_as old c.note_operand-in-Pair.new.uses.items (x ++ y) (answer env (call_of d)).findings
    (adds_two old c.note_operand.new.uses.items c.note_operand-in-Pair.new.uses.items x y (c.in_ok-note_operand-in-Pair.ensures m.of_first m.at_first.is) (a m.of_second m.at_second.is))
    (ap (λ (z : DeclaredCall). uses_of (answer env (call_of z)).findings) m.made ∙ pair_uses env (c.in-Pair.word.class == CLASS_DELETE) (expr_of m.of_first) (expr_of m.of_second)))

pub returns-in-Make : goal.returns-in-Make
returns-in-Make g c = λ d h.
    let env = g.N.Names.env c.args.names.now in
    let old = c.args.uses.now.items in
    let m = c.in-Make.ensures d h in
    adds_nothing old (answer env (call_of d)).findings
    (ap (λ (x : DeclaredCall). uses_of (answer env (call_of x)).findings) m.made ∙ make_uses env m.of_kind _ _ None)

pub returns-in-MakeLength : goal.returns-in-MakeLength
returns-in-MakeLength g c = then_so c.note_operand-in-MakeLength.result c.note_operand-in-MakeLength.ensures (λ a. λ d h.
    let env = g.N.Names.env c.args.names.now in
    let old = c.args.uses.now.items in
    let m = c.in-MakeLength.ensures d h in
    adds_as old c.note_operand-in-MakeLength.new.uses.items (operand env (expr_of m.of_length)).findings (answer env (call_of d)).findings (a m.of_length m.at_length.is)
    (ap (λ (x : DeclaredCall). uses_of (answer env (call_of x)).findings) m.made ∙ make_uses env m.of_kind _ _ (Some (expr_of m.of_length)) ∙ placed_uses env (Exactly Word) (expr_of m.of_length)))

pub returns-in-New : goal.returns-in-New
returns-in-New g c = λ d h.
    let env = g.N.Names.env c.args.names.now in
    let old = c.args.uses.now.items in
    adds_nothing old (answer env (call_of d)).findings
    (ap (λ (x : DeclaredCall). uses_of (answer env (call_of x)).findings) (c.in-New.ensures d h)
    ∙ uses_none (name_findings (entity_named env (codes "sync")) (mutex_in (entity_named env (codes "sync"))) _ _) (name_faults (entity_named env (codes "sync")) (mutex_in (entity_named env (codes "sync"))) _ _))

pub returns-in-Literal : goal.returns-in-Literal
returns-in-Literal g c = then_so c.note_values.result c.note_values.ensures (λ a. λ d h.
    let env = g.N.Names.env c.args.names.now in
    let old = c.args.uses.now.items in
    let m = c.in-Literal.ensures d h in
    let e = entity_named env (name_in env.source c.in-Literal.name) in
    let own = name_findings e (struct_in e) c.in-Literal.name.start c.in-Literal.start.start in
    let keyed = keyed_findings env (fields_of env.declared (struct_in e)) [] (map keyed_of m.of_fields) in
    adds_as old c.note_values.new.uses.items (operands_findings env (map expr_of (map (λ (k : DeclaredKeyed). k.value) m.of_fields))) (answer env (call_of d)).findings (a m.of_fields m.at_fields.is)
    (ap (λ (x : DeclaredCall). uses_of (answer env (call_of x)).findings) m.made
    ∙ uses_behind own keyed (name_faults e (struct_in e) c.in-Literal.name.start c.in-Literal.start.start)
    ∙ keyed_uses env (fields_of env.declared (struct_in e)) [] m.of_fields))
