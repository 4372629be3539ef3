use Rattle.std.proofs.Common.{◌≡◌, ◌++◌, length}
use Rattle.gv_lang.specs.Plain.{exprs_of}
use Rattle.gv_points.proofs.copies.exprs.all_copied.Given as goal

abbrev pub invariant-loop-rest : goal.invariant-loop-rest
invariant-loop-rest l = exprs_of l.made ++ exprs_of l.rest ≡ exprs_of l.fn.es

abbrev pub decreases-loop-rest : goal.decreases-loop-rest
decreases-loop-rest l = length l.rest
