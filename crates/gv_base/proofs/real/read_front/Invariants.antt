use Rattle.std.proofs.Common.{◌≡◌, ◌+◌, ◌-◌, ◌^◌, ◌<◌, ◌≤◌, None, vec_len, ℕ, ◌*◌, length}
use Rattle.gv_base.proofs.real.read_front.Given as goal

abbrev pub invariant-loop-turn : goal.invariant-loop-turn
invariant-loop-turn g l = vec_len l.bytes ≤ l.most + 1
