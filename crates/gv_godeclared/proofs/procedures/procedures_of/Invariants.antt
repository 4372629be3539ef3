use Rattle.std.proofs.Common.{◌≡◌, ◌++◌, drop, map}
use Rattle.gv_gotypes.specs.Declarations.{signatures}
use Rattle.gv_goheads.specs.Heads.{bares}
use Rattle.gv_goseen.specs.Seen.{env_of, signature_of}
use Rattle.gv_godeclared.proofs.procedures.procedures_of.Given as goal

abbrev pub invariant-loop-head : goal.invariant-loop-head
invariant-loop-head l =
    map signature_of l.procedures.items ++ signatures (env_of l.seen) (bares (drop l.head-index l.heads)) ≡ signatures (env_of l.seen) (bares l.heads)
