use Rattle.std.proofs.Common.{◌≡◌, ◌+◌, length, sum, map}
use Rattle.gv_lang.specs.Plain.{body_of}
use Rattle.gv_lang.specs.Graph.{size}
use Rattle.gv_lang.proofs.counting.left_after_all.Given as goal

abbrev pub invariant-loop-rest : goal.invariant-loop-rest
invariant-loop-rest l = l.left + sum (map (λ p. size (body_of p.body)) l.procs) ≡ l.room + sum (map (λ p. size (body_of p.body)) l.rest)

abbrev pub decreases-loop-rest : goal.decreases-loop-rest
decreases-loop-rest l = length l.rest
