use Rattle.std.proofs.Common.{ℕ, ◌<◌}
use Rattle.gv_linear.specs.Answer.{IsNegativeAt}
use Rattle.gv_linear.proofs.check.first_negative.Given as goal

abbrev pub invariant-loop-i : goal.invariant-loop-i
invariant-loop-i l = (r : ℕ) → r < l.i → IsNegativeAt l.rows l.factors r → ⊥
