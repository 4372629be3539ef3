use Rattle.std.proofs.Common.{◌≡◌, ◌+◌}
use Rattle.gv_asserts.specs.Keys.{NoneBefore}
use Rattle.gv_asserts.proofs.finding.find.Given as goal

abbrev pub invariant-loop-i : goal.invariant-loop-i
invariant-loop-i g l = record {
  none : NoneBefore l.cx.store l.key l.items l.i;
  steps : l.steps ≡ l.fn.steps + l.i;
}
