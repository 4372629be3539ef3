use Rattle.std.proofs.Common.{List, sym, ap, ◌∙◌}
use Rattle.gv_gosyntax.specs.declared.tree.Decl.{Decl}
use Rattle.gv_gosyntax.specs.declared.tree.Group.{Group}
use Rattle.gv_gotypes.specs.Trees.{decl_of}
use Rattle.gv_goheads.specs.declared.head.FuncHead.{FuncHead}
use Rattle.gv_goheads.specs.declared.head.Head.TheVariants as head
use Rattle.gv_goheads.specs.Heads.{head_of}
use Rattle.gv_goheads.proofs.Splits.{groups_there, receiver_there, types_there}
use Rattle.gv_goheads.proofs.heads.head_at.Goals as goal

pub groups_at-requires-clause-some : goal.groups_at-requires-clause-some
groups_at-requires-clause-some c =
    let m = c.in-Struct.ensures c.requires.some.whole c.requires.some.part in
    groups_there c.args.nodes.now c.args.at c.in-Struct.fields m.of_fields c.requires.some.within m.at_fields

pub func_head_at-requires-clause-receiver : goal.func_head_at-requires-clause-receiver
func_head_at-requires-clause-receiver c =
    let m = c.in-Func.ensures c.requires.some.whole c.requires.some.part in
    receiver_there c.args.nodes.now c.args.at c.in-Func.receiver m.of_receiver c.requires.some.within m.at_receiver

pub func_head_at-requires-clause-params : goal.func_head_at-requires-clause-params
func_head_at-requires-clause-params c =
    let m = c.in-Func.ensures c.requires.some.whole c.requires.some.part in
    groups_there c.args.nodes.now c.args.at c.in-Func.params m.of_params c.requires.some.within m.at_params

pub func_head_at-requires-clause-results : goal.func_head_at-requires-clause-results
func_head_at-requires-clause-results c =
    let m = c.in-Func.ensures c.requires.some.whole c.requires.some.part in
    types_there c.args.nodes.now c.args.at c.in-Func.results m.of_results c.requires.some.within m.at_results

pub returns-in_ok-groups-in-Struct : goal.returns-in_ok-groups-in-Struct
returns-in_ok-groups-in-Struct c = λ d h.
    let m = c.in-Struct.ensures d h in
    ap (λ (gs : List Group). head.Struct c.in-Struct.name gs) (c.from_vec.ensures ∙ c.in_ok-groups-in-Struct.ensures m.of_fields m.at_fields.is)
    ∙ sym (ap (λ (x : Decl). head_of (decl_of x)) m.made)

pub returns-in-Const : goal.returns-in-Const
returns-in-Const c = λ d h. let m = c.in-Const.ensures d h in sym (ap (λ (x : Decl). head_of (decl_of x)) m.made)

pub returns-in-TypedConst : goal.returns-in-TypedConst
returns-in-TypedConst c = λ d h. let m = c.in-TypedConst.ensures d h in sym (ap (λ (x : Decl). head_of (decl_of x)) m.made)

pub returns-in_ok-func-in-Func : goal.returns-in_ok-func-in-Func
returns-in_ok-func-in-Func c = λ d h.
    let m = c.in-Func.ensures d h in
    ap (λ (f : FuncHead). head.Func f) (c.in_ok-func-in-Func.ensures m.of_receiver m.of_params m.of_results m.at_receiver.is m.at_params.is m.at_results.is)
    ∙ sym (ap (λ (x : Decl). head_of (decl_of x)) m.made)
