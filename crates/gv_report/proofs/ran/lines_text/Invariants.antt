use Rattle.std.proofs.Common.{◌≡◌, take}
use Rattle.gv_report.specs.Report.{joined}
use Rattle.gv_report.proofs.ran.lines_text.Given as goal

abbrev pub invariant-loop-line : goal.invariant-loop-line
invariant-loop-line l = l.text.items ≡ joined (take l.line-index l.lines)
