use Rattle.std.proofs.Common.{◌≡◌, true, false, [], None, sym, ap, ◌∙◌}
use Rattle.gv_terms.specs.declared.operator.Operator.TheVariants as op
use Rattle.gv_terms.specs.declared.sort.Sort.TheVariants as sort
use Rattle.gv_terms.specs.declared.tree.Head.TheVariants as head
use Rattle.gv_terms.specs.declared.tree.TermTree.TheVariants as tree
use Rattle.gv_terms.specs.Store.{trees_at}
use Rattle.gv_terms.specs.Trees.{sort_of, sort_of_node}
use Rattle.gv_terms.specs.Values.{is_sort}
use Rattle.gv_specs.proofs.Sorted.{true_sort}
use Rattle.gv_specs.proofs.terms.make_true.Goals as goal

pub unreachable-requires : goal.unreachable-requires
unreachable-requires c =
    let none : sort_of (tree.Apply op.True []) ≡ None = ap (λ ps. sort_of_node (head.Apply op.True) (trees_at c.args.store.now ps)) (sym c.new.ensures) ∙ c.in-Err-WrongSort.ensures.cause c.in-Err-WrongSort.field-0-is in
    let other : true ≡ false = sym true_sort ∙ ap (is_sort sort.Bool) none in
    cc
