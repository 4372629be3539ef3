use Rattle.std.proofs.Common.{◌≡◌, ◌≤◌, ◌-◌, length, drop}
use Rattle.gv_gotypes.specs.Literals.{last_element}
use Rattle.gv_goseen.proofs.paths.element_start.Given as goal

abbrev pub invariant-loop-at : goal.invariant-loop-at
invariant-loop-at l = record {
  within : l.at ≤ length l.path;
  before : l.start ≤ l.at;
  same : last_element (drop l.start l.path) (drop l.at l.path) ≡ last_element l.path l.path;
}

abbrev pub decreases-loop-at : goal.decreases-loop-at
decreases-loop-at l = length l.path - l.at
