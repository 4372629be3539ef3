use Rattle.std.proofs.Common.{◌≡◌, ◌++◌, drop}
use Rattle.gv_gotypes.specs.Declarations.{param_kinds}
use Rattle.gv_goseen.specs.Seen.{env_of}
use Rattle.gv_godeclared.proofs.procedures.param_kinds.Given as goal

abbrev pub invariant-loop-group : goal.invariant-loop-group
invariant-loop-group l = l.kinds.items ++ param_kinds (env_of l.seen) (drop l.group-index l.groups) ≡ param_kinds (env_of l.seen) l.groups
