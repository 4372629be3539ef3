use Rattle.std.proofs.Common.{◌≡◌, Some, None, map, sym, ap, ◌∙◌, rules}
use Rattle.gv_terms.specs.declared.operator.Operator.TheVariants as op
use Rattle.gv_terms.specs.declared.tree.Head.TheVariants as head
use Rattle.gv_terms.specs.Store.{tree_at}
use Rattle.gv_terms.specs.Trees.{root_of, branches_of}
use Rattle.gv_smallspec.specs.SmallSpec.{part_in, sum_of, sum_of_variable}
use Rattle.gv_smallspec.proofs.Sums.{by_root, number_in, part_of_operator}
use Rattle.gv_smallspec.proofs.forms.part.Goals as goal

pub returns-in-Some : goal.returns-in-Some
returns-in-Some c =
    let params = c.args.params.now in
    let t = tree_at c.args.store.now c.args.term.id in
    let root : root_of t ≡ head.Variable c.in-Variable.name c.in-Variable.sort = search rules in
    let given : Some c.in-Some.sum.first ≡ part_in (sum_of_variable params c.in-Variable.name c.in-Variable.sort) = search rules in
    given ∙ sym (ap part_in (by_root params t (head.Variable c.in-Variable.name c.in-Variable.sort) root))

pub returns-in-None : goal.returns-in-None
returns-in-None c =
    let params = c.args.params.now in
    let t = tree_at c.args.store.now c.args.term.id in
    let root : root_of t ≡ head.Variable c.in-Variable.name c.in-Variable.sort = search rules in
    let given : None ≡ part_in (sum_of_variable params c.in-Variable.name c.in-Variable.sort) = search rules in
    given ∙ sym (ap part_in (by_root params t (head.Variable c.in-Variable.name c.in-Variable.sort) root))

pub returns-in-Apply-Number : goal.returns-in-Apply-Number
returns-in-Apply-Number c =
    let params = c.args.params.now in
    let t = tree_at c.args.store.now c.args.term.id in
    let root : root_of t ≡ head.Apply (op.Number c.in-Apply-Number.value) = search rules in
    sym (ap part_in (by_root params t (head.Apply (op.Number c.in-Apply-Number.value)) root))

pub returns-in-Apply : goal.returns-in-Apply
returns-in-Apply c =
    let params = c.args.params.now in
    let t = tree_at c.args.store.now c.args.term.id in
    let o = c.in-Apply.field-0 in
    let root : root_of t ≡ head.Apply o = search rules in
    let none : None ≡ number_in o = search rules in
    none ∙ sym (ap part_in (by_root params t (head.Apply o) root) ∙ part_of_operator params o (map (sum_of params) (branches_of t)))
