use Rattle.std.proofs.Common.{ℕ, Some, None, sym, ap, subst}
use Rattle.std.specs.Prelude.{map, IfOk}
use Rattle.gv_gosyntax.specs.declared.tree.Call.{Call as DeclaredCall}
use Rattle.gv_gotypes.specs.Trees.{call_of, expr_of, keyed_of}
use Rattle.gv_gowalk.proofs.Steps.{expr_there}
use Rattle.gv_gocalls.specs.declared.answers.Answer.{Answer}
use Rattle.gv_gocalls.specs.Answers.{IsAnswer}
use Rattle.gv_gocalls.proofs.ArgumentLemmas.{exprs_there}
use Rattle.gv_gocalls.proofs.KeyedLemmas.{keyed_there, type_there}
use Rattle.gv_gocalls.proofs.calls.answer_at.Goals as goal

pub function_at-requires-clause-function : goal.function_at-requires-clause-function
function_at-requires-clause-function g c =
    let m = c.in-Call.ensures c.requires.some.whole c.requires.some.part in
    expr_there c.args.nodes.now c.args.at c.in-Call.function m.of_function c.requires.some.within m.at_function

pub function_at-requires-clause-arguments : goal.function_at-requires-clause-arguments
function_at-requires-clause-arguments g c =
    let m = c.in-Call.ensures c.requires.some.whole c.requires.some.part in
    exprs_there c.args.nodes.now c.args.at c.in-Call.arguments m.of_arguments c.requires.some.within m.at_arguments

pub returns-in-Call : goal.returns-in-Call
returns-in-Call g c = λ d h.
    let m = c.in-Call.ensures d h in
    subst (λ (x : DeclaredCall). IsAnswer (g.N.Names.env c.args.names.now) (call_of x) c.function_at.result) (sym m.made)
    (c.function_at.ensures m.of_function m.of_arguments m.at_function.is m.at_arguments.is)

pub pair_at-requires-clause-first : goal.pair_at-requires-clause-first
pair_at-requires-clause-first g c =
    let m = c.in-Pair.ensures c.requires.some.whole c.requires.some.part in
    expr_there c.args.nodes.now c.args.at c.in-Pair.first m.of_first c.requires.some.within m.at_first

pub pair_at-requires-clause-second : goal.pair_at-requires-clause-second
pair_at-requires-clause-second g c =
    let m = c.in-Pair.ensures c.requires.some.whole c.requires.some.part in
    expr_there c.args.nodes.now c.args.at c.in-Pair.second m.of_second c.requires.some.within m.at_second

pub returns-in-Pair : goal.returns-in-Pair
returns-in-Pair g c = λ d h.
    let m = c.in-Pair.ensures d h in
    subst (λ (x : DeclaredCall). IsAnswer (g.N.Names.env c.args.names.now) (call_of x) c.pair_at.result) (sym m.made)
    (c.pair_at.ensures m.of_first m.of_second m.at_first.is m.at_second.is)

pub make_at-requires-clause-kind : goal.make_at-requires-clause-kind
make_at-requires-clause-kind g c =
    let m = c.in-Make.ensures c.requires.some.whole c.requires.some.part in
    type_there c.args.nodes.now c.args.at c.in-Make.kind m.of_kind c.requires.some.within m.at_kind

pub returns-in-Make : goal.returns-in-Make
returns-in-Make g c = λ d h.
    let m = c.in-Make.ensures d h in
    subst (λ (x : DeclaredCall). IsAnswer (g.N.Names.env c.args.names.now) (call_of x) c.make_at.result) (sym m.made)
    (c.make_at.ensures m.of_kind m.at_kind.is)

pub make_length_at-requires-clause-kind : goal.make_length_at-requires-clause-kind
make_length_at-requires-clause-kind g c =
    let m = c.in-MakeLength.ensures c.requires.some.whole c.requires.some.part in
    type_there c.args.nodes.now c.args.at c.in-MakeLength.kind m.of_kind c.requires.some.within m.at_kind

pub make_length_at-requires-clause-length : goal.make_length_at-requires-clause-length
make_length_at-requires-clause-length g c =
    let m = c.in-MakeLength.ensures c.requires.some.whole c.requires.some.part in
    expr_there c.args.nodes.now c.args.at c.in-MakeLength.length m.of_length c.requires.some.within m.at_length

pub returns-in-MakeLength : goal.returns-in-MakeLength
returns-in-MakeLength g c = λ d h.
    let m = c.in-MakeLength.ensures d h in
    subst (λ (x : DeclaredCall). IsAnswer (g.N.Names.env c.args.names.now) (call_of x) c.make_length_at.result) (sym m.made)
    (c.make_length_at.ensures m.of_kind m.of_length m.at_kind.is m.at_length.is)

pub returns-in-New : goal.returns-in-New
returns-in-New g c = λ d h.
    subst (λ (x : DeclaredCall). IsAnswer (g.N.Names.env c.args.names.now) (call_of x) c.new_at.result) (sym (c.in-New.ensures d h)) c.new_at.ensures

pub literal_at-requires-clause-some : goal.literal_at-requires-clause-some
literal_at-requires-clause-some g c =
    let m = c.in-Literal.ensures c.requires.some.whole c.requires.some.part in
    keyed_there c.args.nodes.now c.args.at c.in-Literal.fields m.of_fields c.requires.some.within m.at_fields

pub returns-in-Literal : goal.returns-in-Literal
returns-in-Literal g c = λ d h.
    let m = c.in-Literal.ensures d h in
    subst (λ (x : DeclaredCall). IfOk c.literal_at.result (λ (known : Answer). IsAnswer (g.N.Names.env c.args.names.now) (call_of x) known)) (sym m.made)
    (c.literal_at.ensures m.of_fields m.at_fields.is)
