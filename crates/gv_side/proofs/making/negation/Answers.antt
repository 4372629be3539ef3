use Rattle.std.proofs.Common.{◌∙◌, ap, ◌++◌, ◌∷◌, []}
use Rattle.gv_side.proofs.Lists.{negation_sorted}
use Rattle.gv_side.proofs.making.negation.Goals as goal

pub apply-requires-clause-sorted : goal.apply-requires-clause-sorted
apply-requires-clause-sorted c =
    negation_sorted c.args.store.now c.push.new.self.items c.args.formula (c.in_ok-push.ensures.items ∙ ap (λ ts. ts ++ c.args.formula ∷ []) c.new-parts.ensures.items) c.requires.truth
