use Rattle.std.proofs.Common.{List, map}
use Rattle.std.specs.Prelude.{reverse}
use Rattle.gv_terms.specs.declared.value.Value.{Value}
use Rattle.gv_spec.specs.Move.{Move}
use Rattle.gv_spec.specs.History.{move_of}
use Rattle.gv_judge.specs.Open.{AreLeft, IsAt, work}
use Rattle.gv_judge.proofs.search.Search.next.Given as goal

-- what was to come at first is still to come
abbrev pub invariant-loop-node : goal.invariant-loop-node
invariant-loop-node l = (todo : List (List (Move Value))) → IsAt l.spec l.history l.fn.self todo
    → AreLeft l.spec l.history (reverse l.self.frames.items) (map move_of l.self.moves) todo

abbrev pub decreases-loop-node : goal.decreases-loop-node
decreases-loop-node l = work l.spec l.self.frames.items
