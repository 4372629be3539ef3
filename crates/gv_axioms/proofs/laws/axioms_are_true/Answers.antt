use Rattle.gv_axioms.proofs.AllTrue.{axioms_are_true}
use Rattle.gv_axioms.proofs.laws.axioms_are_true.Goals as goal

pub returns : goal.returns
returns c = axioms_are_true
