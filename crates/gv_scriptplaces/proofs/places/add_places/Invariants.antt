-- The places so far, and those of the bytes that are left, are all.
use Rattle.std.proofs.Common.{◌≡◌, ◌++◌, length, map}
use Rattle.gv_base.specs.Places.{place_at}
use Rattle.gv_scriptplaces.proofs.places.add_places.Given as goal

abbrev pub invariant-loop-left : goal.invariant-loop-left
invariant-loop-left l = l.places.items ++ map (place_at l.text) l.left ≡ l.initial.places.items ++ map (place_at l.text) l.fn.starts

abbrev pub decreases-loop-left : goal.decreases-loop-left
decreases-loop-left l = length l.left
