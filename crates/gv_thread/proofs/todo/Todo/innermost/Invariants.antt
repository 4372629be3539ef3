-- No mark stands in the parts from the count on.
use Rattle.std.proofs.Common.{◌≤◌, length, take}
use Rattle.gv_thread.specs.Parts.{items_of, Passes}
use Rattle.gv_thread.proofs.todo.Todo.innermost.Given as goal

abbrev pub invariant-loop-count : goal.invariant-loop-count
invariant-loop-count l = record {
  within : l.count ≤ length l.self.parts.items;
  passed : Passes (items_of (take l.count l.self.parts.items)) (items_of l.self.parts.items);
}

abbrev pub decreases-loop-count : goal.decreases-loop-count
decreases-loop-count l = l.count
