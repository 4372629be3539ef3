use Rattle.std.proofs.Common.{ℕ, ◌<◌, length, get_or}
use Rattle.gv_terms.specs.declared.term.Term.{Term}
use Rattle.spec_bench.proofs.holds.Given as goal

abbrev pub invariant-loop-part : goal.invariant-loop-part
invariant-loop-part l = (k : ℕ) (d : Term) → k < l.part-index → (get_or l.parts k d).id < length l.store
