use Rattle.std.proofs.Common.{Some, option_map, ap, sym, subst, ◌∙◌}
use Rattle.gv_base.specs.declared.answers.Code.TheVariants as code
use Rattle.gv_terms.specs.declared.tree.RawTerm.TheVariants as raw
use Rattle.gv_terms.specs.declared.tree.TermTree.TheVariants as tree
use Rattle.gv_terms.specs.Resolving.{IsFirstFault}
use Rattle.gv_terms.proofs.RawTrees.{resolved_variable}
use Rattle.gv_terms.proofs.RawFaults.{first_unknown}
use Rattle.gv_terms.proofs.resolving.resolve_variable.Goals as goal

pub returns-in_default-clause-cause : goal.returns-in_default-clause-cause
returns-in_default-clause-cause c =
    let vars = c.args.scope.now in
    let n = c.args.name.now in
    subst (λ p. IsFirstFault vars (raw.Variable n) p code.Undeclared) (sym c.new.ensures)
    (first_unknown vars n (sym c.sort_of.ensures ∙ c.in_default.is))

pub returns-in-Ok-clause-tree : goal.returns-in-Ok-clause-tree
returns-in-Ok-clause-tree c =
    let vars = c.args.scope.now in
    let n = c.args.name.now in
    let sort = c.in-Some.sort in
    resolved_variable vars n
    ∙ ap (option_map (λ s. tree.Variable n s)) (sym c.sort_of.ensures ∙ c.in-Some.is)
    ∙ ap (λ m. Some (tree.Variable m sort)) (sym c.in_ok-copy.ensures)
    ∙ ap Some (sym c.in-Ok.ensures.made)
