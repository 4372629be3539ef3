use Rattle.std.proofs.Common.{◌≡◌, ℕ, ◌<◌, ◌≤◌, pos, take}
use Rattle.gv_sums.specs.Reading.{coefficient_in}
use Rattle.gv_sums.proofs.numbering.next_unknown.Given as goal

abbrev pub invariant-loop-i : goal.invariant-loop-i
invariant-loop-i l = record {
  low : l.from ≤ l.next;
  high : l.next ≤ l.unknowns;
  between : (c : ℕ) → l.from ≤ c → c < l.next → coefficient_in c (take l.i l.summands) ≡ pos 0;
}
