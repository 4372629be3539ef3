use Rattle.std.proofs.Common.{ℕ, take}
use Rattle.std.specs.Prelude.{slice_get}
use Rattle.gv_scriptfaults.specs.Procs.{AreFacts}
use Rattle.gv_scriptfaults.proofs.known.all_facts.Given as goal

abbrev pub invariant-loop-p : goal.invariant-loop-p
invariant-loop-p l = (i : ℕ) → AreFacts (slice_get (take l.p-index l.procs) i) (slice_get l.facts.items i)
