use Rattle.std.proofs.Common.{◌≡◌, ◌+◌, ◌≤◌, drop, map}
use Rattle.gv_spec.specs.Atomic.{atomic_of}
use Rattle.gv_spec.specs.History.{entry_of, move_of}
use Rattle.gv_spec.specs.Walks.{walk, walk_beside}
use Rattle.gv_history.specs.Walker.{walk_in, HasOps}
use Rattle.gv_history.proofs.walking.walk.Given as goal

abbrev pub invariant-loop-i : goal.invariant-loop-i
invariant-loop-i l = record {
  beside : walk_beside (atomic_of l.spec) (l.i + 1) (walk_in l.walker) (map entry_of l.left) (map move_of (drop l.i l.m-items)) ≡ walk (atomic_of l.spec) (map entry_of l.history.items) (map move_of l.moves.items);
  boots : l.walker.table.boots ≤ l.i;
  ops : HasOps l.spec (walk_in l.walker);
}
