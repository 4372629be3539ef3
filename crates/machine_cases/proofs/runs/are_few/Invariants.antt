use Rattle.std.proofs.Common.{◌≡◌, ◌+◌, length, sum, map}
use Rattle.machine_cases.proofs.runs.are_few.Given as goal

abbrev pub invariant-loop-rest : goal.invariant-loop-rest
invariant-loop-rest l = l.left + sum (map (λ line. line.count) l.lines) ≡ 1000000 + sum (map (λ line. line.count) l.rest)

abbrev pub decreases-loop-rest : goal.decreases-loop-rest
decreases-loop-rest l = length l.rest
