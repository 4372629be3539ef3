use Rattle.gv_report.proofs.OutputLemmas.{one_line_else}
use Rattle.gv_report.proofs.json_form.report_lines.Goals as goal

pub only_line-requires : goal.only_line-requires
only_line-requires c = one_line_else c.args.report.now c.in_default.not-Ran c.in_default.not-Moves c.in_default.not-Points
