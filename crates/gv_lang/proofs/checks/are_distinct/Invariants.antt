use Rattle.std.proofs.Common.{◌≡◌, length, map}
use Rattle.gv_lang.specs.Plain.{program_of}
use Rattle.gv_lang.specs.WellShaped.{method_at, are_distinct}
use Rattle.gv_lang.proofs.checks.are_distinct.Given as goal

abbrev pub invariant-loop-rest : goal.invariant-loop-rest
invariant-loop-rest l = are_distinct (map (method_at (program_of l.program)) l.rest) ≡ are_distinct (map (method_at (program_of l.program)) l.initial.rest)

abbrev pub decreases-loop-rest : goal.decreases-loop-rest
decreases-loop-rest l = length l.rest
