use Rattle.std.proofs.Common.{ℕ, List, Option, sym, ap, ◌∙◌}
use Rattle.gv_gosyntax.specs.declared.tree.Right.{Right as DeclaredRight}
use Rattle.gv_operands.specs.declared.types.GoType.{GoType}
use Rattle.gv_gotypes.specs.Trees.{call_of, right_of}
use Rattle.gv_gotypes.specs.Calls.{answer, call_start}
use Rattle.gv_gotypes.specs.Assigning.{right_findings, result_findings}
use Rattle.gv_gotyped.specs.First.{first_of}
use Rattle.gv_gotyped.proofs.Firsts.{first_of_two}
use Rattle.gv_gowalk.proofs.Steps.{expr_there}
use Rattle.gv_goassigns.proofs.TargetLemmas.{call_there}
use Rattle.gv_gosimple.proofs.Results.{some_result}
use Rattle.gv_gosimple.proofs.rights.right_fault.Goals as goal

pub value_fault-requires-clause-some : goal.value_fault-requires-clause-some
value_fault-requires-clause-some g c =
    let m = c.in-Value.ensures c.requires.some.whole c.requires.some.part in
    expr_there c.args.nodes.now c.args.at c.in-Value.value m.of_value c.requires.some.within m.at_value

pub answer_at-requires-clause-some : goal.answer_at-requires-clause-some
answer_at-requires-clause-some g c =
    let m = c.in-Result.ensures c.requires.some.whole c.requires.some.part in
    call_there c.args.nodes.now c.args.at c.in-Result.result m.of_result c.requires.some.within m.at_result

pub returns-in-Value : goal.returns-in-Value
returns-in-Value g c = λ r ts h w.
    let env = g.N.Names.env c.args.names.now in
    let m = c.in-Value.ensures r h in
    c.value_fault.ensures m.of_value ts m.at_value.is w
    ∙ sym (ap (λ (x : DeclaredRight). first_of (right_findings env ts c.args.statement (right_of x))) m.made)

pub returns-in_ok-answer-in-Result : goal.returns-in_ok-answer-in-Result
returns-in_ok-answer-in-Result g c = λ r ts h w.
    let env = g.N.Names.env c.args.names.now in
    let m = c.in-Result.ensures r h in
    let d = call_of m.of_result in
    let k = c.in_ok-answer-in-Result.ensures m.of_result m.at_result.is in
    let known = c.in_ok-answer-in-Result.answer in
    c.earliest.ensures
    ∙ first_of_two (answer env d).findings (result_findings ts (answer env d).results c.args.statement (call_start d)) known.first c.results_fault-misfit.result k.first
    (c.results_fault-misfit.ensures ts w
    ∙ ap (λ (x : Option (List (Option GoType))). first_of (result_findings ts x c.args.statement known.start)) k.results
    ∙ ap (λ (n : ℕ). first_of (result_findings ts (answer env d).results c.args.statement n)) k.start)
    ∙ sym (ap (λ (x : DeclaredRight). first_of (right_findings env ts c.args.statement (right_of x))) m.made ∙ ap first_of (some_result env ts c.args.statement d))
