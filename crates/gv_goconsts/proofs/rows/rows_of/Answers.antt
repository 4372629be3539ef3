use Rattle.std.proofs.Common.{◌+◌, List, ◌∷◌, ◌++◌, ℕ, false, drop, get_or, sym, ap, subst, ◌∙◌}
use Rattle.std.proofs.lemmas.List.{drop_more}
use Rattle.gv_cycles.specs.Leading.{lists_of}
use Rattle.gv_gotypes.specs.Constants.{named_by}
use Rattle.gv_gotypes.specs.Trees.{expr_of}
use Rattle.gv_goconsts.specs.declared.constants.ConstantNode.{ConstantNode}
use Rattle.gv_goconsts.proofs.Walks.{AreStill, still_more, lists_push}
use Rattle.gv_goconsts.proofs.rows.rows_of.Goals as goal

pub loop-constant-preserved : goal.loop-constant-preserved
loop-constant-preserved g c = λ cs h.
    let nodes = c.args.nodes.now in
    let constants = c.args.constants.now in
    let env = g.N.Names.env c.args.names.now in
    let i = c.loop-constant.constant-index in
    let d : ConstantNode = record { is_word = false; value = 0 } in
    let rows = c.loop-constant.rows.items in
    let named = c.push_named.new.named in
    let a : AreStill nodes env (lists_of rows) (get_or constants i d ∷ drop (i + 1) constants) cs
    = subst (λ (rest : List ConstantNode). AreStill nodes env (lists_of rows) rest cs) (drop_more constants i d c.loop-constant-test.true) (c.loop-constant.invariant cs h) in
    subst (λ (ns : List (List ℕ)). AreStill nodes env ns (drop (i + 1) constants) cs)
    (sym (ap lists_of c.in_ok-push.ensures.items ∙ lists_push rows named))
    (still_more nodes env (lists_of rows) named.items (get_or constants i d) (drop (i + 1) constants) cs a
    (λ e at. c.in_ok-push_named.ensures e at ∙ ap (λ (xs : List ℕ). xs ++ named_by env (expr_of e)) c.new-named.ensures.items))
