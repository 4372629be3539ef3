use Rattle.std.proofs.Common.{◌≡◌, ℕ, ◌<◌, get_or}
use Rattle.std.proofs.Math.IntN.{ℤ, pos}
use Rattle.gv_linear.proofs.window.all_zero.Given as goal

abbrev pub invariant-loop-sum : goal.invariant-loop-sum
invariant-loop-sum l = (k : ℕ) (d : ℤ) → k < l.sum-index → get_or l.sums k d ≡ pos 0
