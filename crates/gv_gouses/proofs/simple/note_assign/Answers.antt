use Rattle.std.proofs.Common.{ℕ, List, sym, subst}
use Rattle.gv_gosimple.specs.Lefts.{AreExprs}
use Rattle.gv_gouses.proofs.UseLemmas.{then_so}
use Rattle.gv_gouses.proofs.simple.note_assign.Goals as goal

pub note_placed-requires-clause-lefts : goal.note_placed-requires-clause-lefts
note_placed-requires-clause-lefts g c = record {
  whole = c.requires.lefts.whole;
  are = subst (λ (ps : List ℕ). AreExprs c.args.nodes.now ps c.requires.lefts.whole) (sym c.as_slice.ensures.value) (c.in_ok-places.ensures c.requires.lefts.whole c.requires.lefts.part);
}

pub returns : goal.returns
returns g c = then_so c.note_placed.result c.note_placed.ensures (λ a. λ es r h i.
    a es r (subst (λ (ps : List ℕ). AreExprs c.args.nodes.now ps es) (sym c.as_slice.ensures.value) (c.in_ok-places.ensures es h)) i)
