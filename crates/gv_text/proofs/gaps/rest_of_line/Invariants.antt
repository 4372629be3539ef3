use Rattle.std.proofs.Common.{◌≡◌, ◌+◌, drop}
use Rattle.std.specs.List.{prefix_len}
use Rattle.gv_text.specs.Gaps.{is_on_line}
use Rattle.gv_text.proofs.gaps.rest_of_line.Given as goal

abbrev pub invariant-loop-i : goal.invariant-loop-i
invariant-loop-i l = l.i + prefix_len is_on_line (drop l.i l.text) ≡ prefix_len is_on_line l.text
