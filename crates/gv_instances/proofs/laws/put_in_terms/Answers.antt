use Rattle.gv_instances.proofs.Trees.{terms_law}
use Rattle.gv_instances.proofs.laws.put_in_terms.Goals as goal

pub returns : goal.returns
returns c = terms_law
