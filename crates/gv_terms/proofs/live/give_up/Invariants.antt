use Rattle.gv_terms.specs.Evaluation.{Loses}
use Rattle.gv_terms.proofs.live.give_up.Given as goal

abbrev pub invariant-loop-part : goal.invariant-loop-part
invariant-loop-part l = Loses l.reader l.fn.live l.live
