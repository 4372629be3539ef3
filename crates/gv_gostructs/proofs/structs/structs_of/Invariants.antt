use Rattle.std.proofs.Common.{drop}
use Rattle.gv_goheads.specs.Heads.{bares}
use Rattle.gv_goseen.specs.Seen.{env_of}
use Rattle.gv_gostructs.proofs.Rests.{AreDeclared}
use Rattle.gv_gostructs.proofs.structs.structs_of.Given as goal

abbrev pub invariant-loop-head : goal.invariant-loop-head
invariant-loop-head l = AreDeclared (env_of l.seen) l.seen.text.now l.structs.items l.first (bares l.heads) (bares (drop l.head-index l.heads))
