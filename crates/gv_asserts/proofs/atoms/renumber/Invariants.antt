use Rattle.std.proofs.Common.{◌≡◌, ◌++◌, ◌+◌, length, take, drop}
use Rattle.gv_asserts.specs.Stamps.{numbered}
use Rattle.gv_asserts.proofs.atoms.renumber.Given as goal

abbrev pub invariant-loop-i : goal.invariant-loop-i
invariant-loop-i l = record {
  same_length : length l.items.items ≡ length l.fn.items.items;
  whole : take l.i l.items.items ++ numbered (l.i + 1) (drop l.i l.items.items) ≡ numbered 1 l.fn.items.items;
}
