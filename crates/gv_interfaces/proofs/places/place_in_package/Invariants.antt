-- What is found among the tokens that are left is what is found among all.
use Rattle.std.proofs.Common.{◌≡◌, length}
use Rattle.gv_small.specs.Cursor.{tokens_left}
use Rattle.gv_interfaces.specs.Places as places
use Rattle.gv_interfaces.proofs.places.place_in_package.Given as goal

abbrev pub invariant-loop-taken : goal.invariant-loop-taken
invariant-loop-taken l = places.place_behind l.name l.closed (tokens_left l.cursor) ≡ places.method_place l.text l.name

abbrev pub decreases-loop-taken : goal.decreases-loop-taken
decreases-loop-taken l = length (tokens_left l.cursor)
