use Rattle.std.proofs.Common.{ℕ, List, sym, subst}
use Rattle.gv_gostmts.specs.Lists.{AreRights}
use Rattle.gv_gostmts.proofs.returns.return_fault.Goals as goal

pub placed_return-requires-clause-some : goal.placed_return-requires-clause-some
placed_return-requires-clause-some g c = record {
  whole = c.requires.some.whole;
  are = subst (λ (ps : List ℕ). AreRights c.args.nodes.now ps c.requires.some.whole) (sym c.as_slice.ensures.value) (c.in_ok-places.ensures c.requires.some.whole c.requires.some.part);
}

pub returns : goal.returns
returns g c = λ rs h.
    c.placed_return.ensures rs (subst (λ (ps : List ℕ). AreRights c.args.nodes.now ps rs) (sym c.as_slice.ensures.value) (c.in_ok-places.ensures rs h))
