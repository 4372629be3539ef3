use Rattle.std.proofs.Common.{refl, sym, ◌∙◌, arith}
use Rattle.gv_trees.proofs.Places.{same_places}
use Rattle.gv_trees.proofs.map.FiniteMap.same.Goals as goal

pub returns : goal.returns
returns g c = (
  (λ t. same_places c.args.self.now c.args.other.now (sym c.len.ensures ∙ c.if-len.false ∙ c.len-2.ensures)
      (λ i k. c.loop-place.invariant i (omega (arith, k, c.loop-place-test.false, c.loop-place.auto.place-end, c.len-place-end.ensures)))),
  (λ e. refl),
)
