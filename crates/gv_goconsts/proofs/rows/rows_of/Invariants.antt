use Rattle.std.proofs.Common.{List, drop}
use Rattle.gv_cycles.specs.Leading.{lists_of}
use Rattle.gv_gotypes.specs.Constants.{ConstantTree}
use Rattle.gv_goconsts.specs.Constants.{AreConstantsAt}
use Rattle.gv_goconsts.proofs.Walks.{AreStill}
use Rattle.gv_goconsts.proofs.rows.rows_of.Given as goal

abbrev pub invariant-loop-constant : goal.invariant-loop-constant
invariant-loop-constant g l = (cs : List ConstantTree) → AreConstantsAt l.nodes l.constants cs
    → AreStill l.nodes (g.N.Names.env l.names) (lists_of l.rows.items) (drop l.constant-index l.constants) cs
