use Rattle.std.proofs.Common.{◌≡◌, ◌++◌, drop, map}
use Rattle.gv_gotypes.specs.Kinds.{kind_of}
use Rattle.gv_goseen.specs.Seen.{env_of}
use Rattle.gv_godeclared.proofs.procedures.result_kinds.Given as goal

abbrev pub invariant-loop-written : goal.invariant-loop-written
invariant-loop-written l = l.kinds.items ++ map (kind_of (env_of l.seen)) (drop l.written-index l.types) ≡ map (kind_of (env_of l.seen)) l.types
