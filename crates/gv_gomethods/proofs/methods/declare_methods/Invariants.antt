use Rattle.std.proofs.Common.{drop}
use Rattle.gv_goheads.specs.Heads.{bares}
use Rattle.gv_goheads.specs.Naming.{counts_of}
use Rattle.gv_goseen.specs.Seen.{env_of}
use Rattle.gv_gomethods.proofs.Growth.{AreAdded}
use Rattle.gv_gomethods.proofs.methods.declare_methods.Given as goal

abbrev pub invariant-loop-head : goal.invariant-loop-head
invariant-loop-head l =
    AreAdded (env_of l.seen) l.seen.text.now l.structs.items l.first (counts_of l.counted) (bares l.heads) (bares (drop l.head-index l.heads))
