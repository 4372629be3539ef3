use Rattle.std.proofs.Common.{IfErr, sym, ◌∙◌, rules}
use Rattle.gv_typing.specs.Placing.{is_some_plain}
use Rattle.gv_terms.specs.Store.{tree_at}
use Rattle.gv_typing.specs.Placing.{HasPlacedFault, IsCause}
use Rattle.gv_typing.proofs.WholeTerms.{other_first, inside_err, no_fault}
use Rattle.gv_typing.proofs.whole_term.make_plain_term.Goals as goal

pub returns-in_err-made-clause-cause : goal.returns-in_err-made-clause-cause
returns-in_err-made-clause-cause c =
    let same : IfErr c.from_residual.result (IsCause (HasPlacedFault c.args.scope.now c.args.term.now.term c.args.term.now.places)) = search (rules, c.from_residual.ensures, c.in_err-made.ensures.cause) in
    inside_err c.args.scope.now is_some_plain c.args.term.now c.from_residual.result same

pub returns-else-has_plain_sort-clause-cause : goal.returns-else-has_plain_sort-clause-cause
returns-else-has_plain_sort-clause-cause c =
    other_first c.args.scope.now is_some_plain c.args.term.now (tree_at c.make_term.new.store c.in_ok-made.made.id) c.in_ok-made.ensures.tree (sym c.has_plain_sort.ensures ∙ c.if-has_plain_sort.false)
