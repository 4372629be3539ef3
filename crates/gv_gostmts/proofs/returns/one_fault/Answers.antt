use Rattle.std.proofs.Common.{sym, ap, ◌∙◌}
use Rattle.gv_gosyntax.specs.declared.tree.Right.{Right as DeclaredRight}
use Rattle.gv_gotypes.specs.Trees.{right_of}
use Rattle.gv_gotyped.specs.First.{first_of}
use Rattle.gv_gowalk.proofs.Steps.{expr_there}
use Rattle.gv_goassigns.proofs.TargetLemmas.{call_there}
use Rattle.gv_gostmts.specs.Lists.{right_one}
use Rattle.gv_gostmts.proofs.returns.one_fault.Goals as goal

pub placed_at-requires-clause-some : goal.placed_at-requires-clause-some
placed_at-requires-clause-some g c =
    let m = c.in-Value.ensures c.requires.some.whole c.requires.some.part in
    expr_there c.args.nodes.now c.args.at c.in-Value.value m.of_value c.requires.some.within m.at_value

pub answer_at-requires-clause-some : goal.answer_at-requires-clause-some
answer_at-requires-clause-some g c =
    let m = c.in-Result.ensures c.requires.some.whole c.requires.some.part in
    call_there c.args.nodes.now c.args.at c.in-Result.result m.of_result c.requires.some.within m.at_result

pub returns-in-Value : goal.returns-in-Value
returns-in-Value g c = λ r h.
    let m = c.in-Value.ensures r h in
    c.placed_at.ensures m.of_value m.at_value.is
    ∙ sym (ap (λ (x : DeclaredRight). first_of (right_one (g.N.Names.env c.args.names.now) c.args.want (right_of x))) m.made)

pub returns-in_ok-answer-in-Result : goal.returns-in_ok-answer-in-Result
returns-in_ok-answer-in-Result g c = λ r h.
    let m = c.in-Result.ensures r h in
    let k = c.in_ok-answer-in-Result.ensures m.of_result m.at_result.is in
    k.first ∙ sym (ap (λ (x : DeclaredRight). first_of (right_one (g.N.Names.env c.args.names.now) c.args.want (right_of x))) m.made)
