use Rattle.gv_goseen.proofs.CalledLemmas.{called_method_so, no_method_so}
use Rattle.gv_goseen.proofs.seen.Seen.called_method.Goals as goal

pub returns-in-Some : goal.returns-in-Some
returns-in-Some c = called_method_so c.in-Some.signature _ c.in-Some.ensures

pub returns-in-None : goal.returns-in-None
returns-in-None c = no_method_so _ c.in-None.ensures
