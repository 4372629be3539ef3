use Rattle.std.proofs.Common.{◌≡◌, length}
use Rattle.std.specs.Prelude.{slice_get}
use Rattle.std.specs.List.{list_all}
use Rattle.gv_lang.specs.Plain.{program_of}
use Rattle.gv_lang.specs.WellShaped.{is_operation}
use Rattle.gv_lang.proofs.checks.are_operations.Given as goal

abbrev pub invariant-loop-rest : goal.invariant-loop-rest
invariant-loop-rest l = list_all (λ op. is_operation (slice_get (program_of l.program).procs op)) l.rest ≡ list_all (λ op. is_operation (slice_get (program_of l.program).procs op)) l.initial.rest

abbrev pub decreases-loop-rest : goal.decreases-loop-rest
decreases-loop-rest l = length l.rest
