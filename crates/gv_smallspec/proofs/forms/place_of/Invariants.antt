use Rattle.std.proofs.Common.{◌≡◌, None, take}
use Rattle.gv_smallspec.specs.SmallSpec as form
use Rattle.gv_smallspec.proofs.forms.place_of.Given as goal

abbrev pub invariant-loop-at : goal.invariant-loop-at
invariant-loop-at l = form.place_of (take l.at l.params) l.name ≡ None
