use Rattle.std.proofs.Common.{Some, option_map, ap, sym, ◌∙◌}
use Rattle.gv_terms.specs.declared.tree.TermTree.TheVariants as tree
use Rattle.gv_terms.proofs.RawTrees.{resolved_variable}
use Rattle.gv_typing.proofs.resolving.make_variable.Goals as goal

pub returns-in-Ok-clause-tree : goal.returns-in-Ok-clause-tree
returns-in-Ok-clause-tree c =
    let vars = c.args.scope.now in
    let n = c.args.name.now in
    let sort = c.in-Some.sort in
    resolved_variable vars n
    ∙ ap (option_map (λ s. tree.Variable n s)) (sym c.sort_of.ensures ∙ c.in-Some.is)
    ∙ ap (λ m. Some (tree.Variable m sort)) (sym c.in_ok-copy.ensures)
    ∙ ap Some (sym c.in-Ok.ensures.made)
