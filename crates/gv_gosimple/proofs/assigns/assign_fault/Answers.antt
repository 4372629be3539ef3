use Rattle.std.proofs.Common.{ℕ, List, sym, subst}
use Rattle.gv_gosimple.specs.Lefts.{AreExprs}
use Rattle.gv_gosimple.proofs.assigns.assign_fault.Goals as goal

pub placed_fault-requires-clause-lefts : goal.placed_fault-requires-clause-lefts
placed_fault-requires-clause-lefts g c = record {
  whole = c.requires.lefts.whole;
  are = subst (λ (ps : List ℕ). AreExprs c.args.nodes.now ps c.requires.lefts.whole) (sym c.as_slice.ensures.value) (c.in_ok-places.ensures c.requires.lefts.whole c.requires.lefts.part);
}

pub returns : goal.returns
returns g c = λ es r h i.
    c.placed_fault.ensures es r (subst (λ (ps : List ℕ). AreExprs c.args.nodes.now ps es) (sym c.as_slice.ensures.value) (c.in_ok-places.ensures es h)) i
