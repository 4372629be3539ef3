use Rattle.std.proofs.Common.{◌<◌, sym, ap, ◌∙◌, subst}
use Rattle.std.specs.List.{All}
use Rattle.std.proofs.lemmas.List.{length-map}
use Rattle.gv_terms.specs.Store.{tree_at, trees_at}
use Rattle.gv_terms.specs.Trees.{branches_of}
use Rattle.gv_terms.proofs.Trees.{branches_rooted}
use Rattle.gv_terms.proofs.store.TermStore.parts_of.Goals as goal

pub returns-clause-trees : goal.returns-clause-trees
returns-clause-trees c =
    let ts = c.args.self.now in
    let n = c.node.result.now in
    ap (λ ps. trees_at ts ps) c.as_slice.ensures
    ∙ sym (ap branches_of c.node.ensures.shape ∙ branches_rooted n.head (trees_at ts n.parts) (length-map n.parts (λ p. tree_at ts p.id) ∙ c.node.ensures.counted))

pub returns-clause-earlier : goal.returns-clause-earlier
returns-clause-earlier c = subst (λ ps. All (λ p. p.id < c.args.t.id) ps) (sym c.as_slice.ensures) c.node.ensures.earlier
