use Rattle.std.proofs.Common.{◌≡◌, length, map}
use Rattle.std.specs.List.{list_any}
use Rattle.std.specs.Str.{bytes_eq}
use Rattle.gv_lang.specs.Plain.{program_of}
use Rattle.gv_lang.specs.WellShaped.{method_at}
use Rattle.gv_lang.proofs.checks.is_among.Given as goal

abbrev pub invariant-loop-rest : goal.invariant-loop-rest
invariant-loop-rest l = list_any (bytes_eq l.name) (map (method_at (program_of l.program)) l.rest) ≡ list_any (bytes_eq l.name) (map (method_at (program_of l.program)) l.initial.rest)

abbrev pub decreases-loop-rest : goal.decreases-loop-rest
decreases-loop-rest l = length l.rest
