use Rattle.std.proofs.Common.{◌≡◌, Bool, List, [], ◌∷◌, Option, Some, sym, ap, ◌∙◌}
use Rattle.std.proofs.lemmas.Result.{IfOk-weaker}
use Rattle.gv_gosyntax.specs.declared.tree.Right.{Right as DeclaredRight}
use Rattle.gv_operands.specs.declared.types.GoType.{GoType}
use Rattle.gv_operands.specs.declared.part.Part.{Part}
use Rattle.gv_gotypes.specs.Trees.{call_of, expr_of, right_of}
use Rattle.gv_gotypes.specs.Assigning.{settled, types_for, read_types, given_types}
use Rattle.gv_gowalk.proofs.Steps.{expr_there}
use Rattle.gv_goassigns.proofs.TargetLemmas.{call_there}
use Rattle.gv_gosimple.specs.Given.{padded}
use Rattle.gv_gosimple.proofs.Declared.{one_given, other_given, result_given}
use Rattle.gv_gosimple.proofs.given.given_at.Goals as goal

pub operand_at-known-requires-clause-some : goal.operand_at-known-requires-clause-some
operand_at-known-requires-clause-some g c =
    let m = c.in-Value.ensures c.requires.some.whole c.requires.some.part in
    expr_there c.args.nodes.now c.args.at c.in-Value.value m.of_value c.requires.some.within m.at_value

pub map_read_at-requires-clause-some : goal.map_read_at-requires-clause-some
map_read_at-requires-clause-some g c =
    let m = c.in-Value.ensures c.requires.some.whole c.requires.some.part in
    expr_there c.args.nodes.now c.args.at c.in-Value.value m.of_value c.requires.some.within m.at_value

pub answer_at-requires-clause-some : goal.answer_at-requires-clause-some
answer_at-requires-clause-some g c =
    let m = c.in-Result.ensures c.requires.some.whole c.requires.some.part in
    call_there c.args.nodes.now c.args.at c.in-Result.result m.of_result c.requires.some.within m.at_result

pub returns-then-count-eq1 : goal.returns-then-count-eq1
returns-then-count-eq1 g c = λ r es h k.
    let env = g.N.Names.env c.args.names.now in
    let m = c.in-Value.ensures r h in
    let known = c.operand_at-known.ensures m.of_value m.at_value.is in
    IfOk-weaker c.types_for.result (λ given. padded es given.items ≡ types_for es (Some (c.settled.result ∷ []))) (λ given. padded es given.items ≡ given_types env es (right_of r))
    (λ given e. e
    ∙ ap (λ (t : Option GoType). types_for es (Some (t ∷ []))) (c.settled.ensures ∙ ap (λ (p : Part). settled p.spot p.class) known.part)
    ∙ one_given env es (expr_of m.of_value) (sym k ∙ c.if-count-eq1.true)
    ∙ sym (ap (λ (x : DeclaredRight). given_types env es (right_of x)) m.made))
    (c.types_for.ensures es k)

pub returns-else-count-eq1 : goal.returns-else-count-eq1
returns-else-count-eq1 g c = λ r es h k.
    let env = g.N.Names.env c.args.names.now in
    let m = c.in-Value.ensures r h in
    IfOk-weaker c.read_types.result (λ given. padded es given.items ≡ types_for es (read_types c.map_read_at.result)) (λ given. padded es given.items ≡ given_types env es (right_of r))
    (λ given e. e
    ∙ ap (λ (b : Option Bool). types_for es (read_types b)) (c.map_read_at.ensures m.of_value m.at_value.is)
    ∙ other_given env es (expr_of m.of_value) (λ q. c.if-count-eq1.false (k ∙ q))
    ∙ sym (ap (λ (x : DeclaredRight). given_types env es (right_of x)) m.made))
    (c.read_types.ensures es k)

pub returns-in_ok-answer-in-Result : goal.returns-in_ok-answer-in-Result
returns-in_ok-answer-in-Result g c = λ r es h k.
    let env = g.N.Names.env c.args.names.now in
    let m = c.in-Result.ensures r h in
    let known = c.in_ok-answer-in-Result.ensures m.of_result m.at_result.is in
    IfOk-weaker c.results_types.result _ (λ given. padded es given.items ≡ given_types env es (right_of r))
    (λ given e. e
    ∙ ap (λ (ks : Option (List (Option GoType))). types_for es ks) known.results
    ∙ result_given env es (call_of m.of_result)
    ∙ sym (ap (λ (x : DeclaredRight). given_types env es (right_of x)) m.made))
    (c.results_types.ensures es k)
