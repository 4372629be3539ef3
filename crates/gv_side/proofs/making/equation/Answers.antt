use Rattle.std.proofs.Common.{◌∙◌, ap, ◌++◌, ◌∷◌, []}
use Rattle.gv_side.proofs.Lists.{equation_sorted}
use Rattle.gv_side.proofs.making.equation.Goals as goal

pub apply-requires-clause-sorted : goal.apply-requires-clause-sorted
apply-requires-clause-sorted c =
    equation_sorted c.args.store.now c.push-2.new.self.items c.args.a c.args.b c.sort_of-sort.result
    (c.in_ok-push-2.ensures.items ∙ ap (λ ts. ts ++ c.args.b ∷ []) (c.in_ok-push.ensures.items ∙ ap (λ ts. ts ++ c.args.a ∷ []) c.new-parts.ensures.items)) c.requires.alike c.sort_of-sort.ensures
