-- The values found so far, and those of the rest, are the values of all.
use Rattle.std.proofs.Common.{◌≡◌, length}
use Rattle.gv_lang.specs.Plain.{exprs_of}
use Rattle.gv_lang.specs.Values.{values}
use Rattle.gv_thread.proofs.Prefixes.{prefixed}
use Rattle.gv_thread.proofs.evaluation.values.Given as goal

abbrev pub invariant-loop-rest : goal.invariant-loop-rest
invariant-loop-rest l = values l.locals (exprs_of l.fn.es) ≡ prefixed l.found (values l.locals (exprs_of l.rest))

abbrev pub decreases-loop-rest : goal.decreases-loop-rest
decreases-loop-rest l = length l.rest
