use Rattle.std.proofs.Common.{ℕ, List, sym, subst}
use Rattle.gv_gosimple.specs.Lefts.{AreExprs}
use Rattle.gv_gouses.proofs.UseLemmas.{then_so}
use Rattle.gv_gouses.proofs.lists.note_operands.Goals as goal

pub note_placed-requires-clause-some : goal.note_placed-requires-clause-some
note_placed-requires-clause-some g c = record {
  whole = c.requires.some.whole;
  are = subst (λ (ps : List ℕ). AreExprs c.args.nodes.now ps c.requires.some.whole) (sym c.as_slice.ensures.value) (c.in_ok-places.ensures c.requires.some.whole c.requires.some.part);
}

pub returns : goal.returns
returns g c = then_so c.note_placed.result c.note_placed.ensures (λ a. λ es h.
    a es (subst (λ (ps : List ℕ). AreExprs c.args.nodes.now ps es) (sym c.as_slice.ensures.value) (c.in_ok-places.ensures es h)))
