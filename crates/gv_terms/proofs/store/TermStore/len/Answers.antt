use Rattle.std.proofs.Common.{length, sym, ap, ◌∙◌}
use Rattle.gv_terms.proofs.Grown.{length_trees}
use Rattle.gv_terms.proofs.store.TermStore.len.Goals as goal

pub returns : goal.returns
returns c =
    c.len.ensures ∙ c.self.inside.nodes.ok.0 ∙ sym (length_trees c.self.inside.nodes.items) ∙ ap length c.self.view_is
