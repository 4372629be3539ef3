use Rattle.std.proofs.Common.{◌≡◌, length, map}
use Rattle.std.specs.List.{list_all}
use Rattle.gv_lang.specs.Plain.{proc_of, program_of}
use Rattle.gv_lang.specs.WellShaped.{is_fine_proc}
use Rattle.gv_lang.proofs.checks.are_fine_procs.Given as goal

abbrev pub invariant-loop-rest : goal.invariant-loop-rest
invariant-loop-rest l = list_all (is_fine_proc (program_of l.program)) (map proc_of l.rest) ≡ list_all (is_fine_proc (program_of l.program)) (map proc_of l.initial.rest)

abbrev pub decreases-loop-rest : goal.decreases-loop-rest
decreases-loop-rest l = length l.rest
