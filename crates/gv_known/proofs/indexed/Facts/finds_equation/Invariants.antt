use Rattle.gv_known.proofs.indexed.Facts.finds_equation.Given as goal

abbrev pub decreases-loop-up_to : goal.decreases-loop-up_to
decreases-loop-up_to l = l.up_to
