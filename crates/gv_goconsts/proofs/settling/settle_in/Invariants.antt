use Rattle.std.proofs.Common.{◌≡◌, ◌≤◌, ◌-◌, [], List, None, length}
use Rattle.std.specs.Prelude.{replicate}
use Rattle.gv_cycles.specs.Order.{IsOrder}
use Rattle.gv_gotypes.specs.Constants.{ConstantTree}
use Rattle.gv_gotypes.specs.Scopes.{Source, Package}
use Rattle.gv_gonamed.specs.Laws.{with_these}
use Rattle.gv_goseen.specs.Seen.{env_of}
use Rattle.gv_goconsts.specs.Constants.{AreConstantsAt, names_of}
use Rattle.gv_goconsts.proofs.Walks.{AreOnTheWay}
use Rattle.gv_goconsts.proofs.settling.settle_in.Given as goal

abbrev pub invariant-loop-at : goal.invariant-loop-at
invariant-loop-at l = record {
  sized : length l.seen.declared.constants.items ≡ length l.constants;
  locals : l.seen.locals ≡ l.fn.seen.locals;
  within : l.at ≤ length l.order;
  settled : (s : Source) (p : Package) (cs : List ConstantTree) → AreConstantsAt l.nodes l.constants cs
      → env_of l.fn.seen ≡ with_these s p (replicate (length l.constants) None) → IsOrder (names_of (with_these s p []) cs) l.order
      → AreOnTheWay s p cs l.order l.at (env_of l.seen);
}

abbrev pub decreases-loop-at : goal.decreases-loop-at
decreases-loop-at l = length l.order - l.at
