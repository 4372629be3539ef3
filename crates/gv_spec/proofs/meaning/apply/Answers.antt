use Rattle.std.proofs.Common.{◌≡◌, List, IsTrue, sym, ap, subst, ◌∙◌, rules}
use Rattle.gv_terms.specs.declared.value.Value.{Value}
use Rattle.gv_terms.specs.Values.{sort_of_value}
use Rattle.gv_spec.specs.Meaning.{fields_after, reply_of}
use Rattle.gv_spec.specs.Atomic.{are_of, field_vars, EachOfOp}
use Rattle.gv_spec.proofs.Atomic.{op_each, op_sorts, reply_sorts}
use Rattle.gv_spec.proofs.meaning.apply.Goals as goal

pub returns-clause-each : goal.returns-clause-each
returns-clause-each c =
    let s = c.args.spec.now in
    let args = c.args.args.now in
    let choices = c.args.choices.now in
    let old = c.args.s.now.values in
    let same : c.in_ok-after.after.values ≡ fields_after s c.args.op args choices old = search rules in
    subst (λ (vs : List Value). EachOfOp s c.args.op args choices old vs) (sym same) (op_each s c.args.op args choices old)

pub returns-clause-sorts : goal.returns-clause-sorts
returns-clause-sorts c =
    let s = c.args.spec.now in
    let args = c.args.args.now in
    let choices = c.args.choices.now in
    let old = c.args.s.now.values in
    let same : c.in_ok-after.after.values ≡ fields_after s c.args.op args choices old = search rules in
    λ given. subst (λ (vs : List Value). IsTrue (are_of (field_vars s) vs)) (sym same) (op_sorts s c.args.op args choices old given)

pub returns-clause-reply_sort : goal.returns-clause-reply_sort
returns-clause-reply_sort c =
    let s = c.args.spec.now in
    let args = c.args.args.now in
    let choices = c.args.choices.now in
    let old = c.args.s.now.values in
    let same : c.in_ok-reply.reply ≡ reply_of s c.args.op args choices old = search rules in
    ap sort_of_value same ∙ reply_sorts s c.args.op args choices old
