use Rattle.std.proofs.Common.{◌≡◌, take}
use Rattle.gv_report.proofs.json_form.copies.Given as goal

abbrev pub invariant-loop-line : goal.invariant-loop-line
invariant-loop-line l = l.made.items ≡ take l.line-index l.lines
