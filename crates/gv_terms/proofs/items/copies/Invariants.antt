use Rattle.std.proofs.Common.{◌≡◌, replicate}
use Rattle.gv_terms.proofs.items.copies.Given as goal

abbrev pub invariant-loop-i : goal.invariant-loop-i
invariant-loop-i g l = l.copies.items ≡ replicate l._i l.item
