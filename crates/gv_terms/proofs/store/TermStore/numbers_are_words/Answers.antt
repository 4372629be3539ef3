use Rattle.std.proofs.Common.{◌≡◌, true, subst}
use Rattle.std.specs.List.{All}
use Rattle.gv_terms.specs.Ranges.{numbers_are_words}
use Rattle.gv_terms.proofs.Grown.{all_words}
use Rattle.gv_terms.proofs.store.TermStore.numbers_are_words.Goals as goal

pub returns : goal.returns
returns c = subst (λ ts. All (λ t. numbers_are_words t ≡ true) ts) c.self.view_is (all_words c.self.inside.nodes.items c.self.invariant)
