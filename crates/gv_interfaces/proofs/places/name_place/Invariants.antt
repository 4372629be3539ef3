use Rattle.std.proofs.Common.{◌≡◌, length}
use Rattle.gv_interfaces.specs.Places as places
use Rattle.gv_interfaces.proofs.places.name_place.Given as goal

abbrev pub invariant-loop-left : goal.invariant-loop-left
invariant-loop-left l = places.name_place l.text l.name l.left ≡ places.name_place l.text l.name l.fn.ops

abbrev pub decreases-loop-left : goal.decreases-loop-left
decreases-loop-left l = length l.left
