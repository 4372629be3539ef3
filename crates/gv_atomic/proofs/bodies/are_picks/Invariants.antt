use Rattle.std.proofs.Common.{◌≡◌, ◌++◌, true, length, map}
use Rattle.gv_atomic.specs.Typed as typed
use Rattle.gv_atomic.specs.Marks.{AreMarks}
use Rattle.gv_atomic.proofs.bodies.are_picks.Given as goal

abbrev pub invariant-loop-left : goal.invariant-loop-left
invariant-loop-left l = record {
  names : typed.are_names (typed.names_of (l.fields ++ l.own)) ≡ true;
  marks : AreMarks l.store (l.fields ++ l.own) l.number l.marks.items;
  whole : l.own ++ map typed.pick_var l.left ≡ l.fn.own ++ map typed.pick_var l.fn.picks;
  test : typed.are_picks l.store (l.fields ++ l.own) l.left ≡ typed.are_picks l.store (l.fields ++ l.fn.own) l.fn.picks;
}

abbrev pub decreases-loop-left : goal.decreases-loop-left
decreases-loop-left l = length l.left
