use Rattle.std.proofs.Common.{length, ap, sym, subst, arith}
use Rattle.gv_terms.specs.Store.{trees_of, IsSoundAt}
use Rattle.gv_terms.proofs.Grown.{length_trees}
use Rattle.gv_terms.proofs.store.TermStore.node.Goals as goal

pub index-requires : goal.index-requires
index-requires c =
    omega (arith, length_trees c.self.inside.nodes.items, ap length c.self.view_is, c.requires, c.self.inside.nodes.ok.0)

pub returns : goal.returns
returns c =
    let ns = c.self.inside.nodes.items in
    let n = c.index.result.now in
    let sound = c.self.invariant c.args.t.id n (omega (arith, length_trees ns, ap length c.self.view_is, c.requires)) in
    subst (λ ts. IsSoundAt ts c.args.t.id n) c.self.view_is
    (subst (λ m. IsSoundAt (trees_of ns) c.args.t.id m) (sym c.index.ensures) sound)
