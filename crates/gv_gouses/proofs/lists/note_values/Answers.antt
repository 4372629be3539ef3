use Rattle.std.proofs.Common.{ℕ, List, map, sym, subst}
use Rattle.gv_gosyntax.specs.declared.tree.KeyedExpr.{KeyedExpr}
use Rattle.gv_gosimple.specs.Lefts.{AreExprs}
use Rattle.gv_gouses.proofs.UseLemmas.{then_so}
use Rattle.gv_gouses.proofs.lists.note_values.Goals as goal

pub note_placed-requires-clause-some : goal.note_placed-requires-clause-some
note_placed-requires-clause-some g c =
    let values = map (λ (k : KeyedExpr). k.value) c.requires.some.whole in
    record {
      whole = values;
      are = subst (λ (ps : List ℕ). AreExprs c.args.nodes.now ps values) (sym c.as_slice.ensures.value) (c.in_ok-places.ensures c.requires.some.whole c.requires.some.part);
    }

pub returns : goal.returns
returns g c = then_so c.note_placed.result c.note_placed.ensures (λ a. λ ks h.
    let values = map (λ (k : KeyedExpr). k.value) ks in
    a values (subst (λ (ps : List ℕ). AreExprs c.args.nodes.now ps values) (sym c.as_slice.ensures.value) (c.in_ok-places.ensures ks h)))
