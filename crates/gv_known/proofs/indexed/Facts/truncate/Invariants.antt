use Rattle.std.proofs.Common.{◌≡◌}
use Rattle.gv_known.proofs.indexed.Facts.truncate.Given as goal

abbrev pub invariant-loop-at : goal.invariant-loop-at
invariant-loop-at l = l.self ≡ l.fn.self
