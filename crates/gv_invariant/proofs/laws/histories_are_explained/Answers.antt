use Rattle.gv_invariant.proofs.Explaining.{explained_law}
use Rattle.gv_invariant.proofs.laws.histories_are_explained.Goals as goal

pub returns : goal.returns
returns c = explained_law
