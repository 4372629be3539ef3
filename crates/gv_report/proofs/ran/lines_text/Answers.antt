use Rattle.std.proofs.Common.{ℕ, ◌<◌, List, [], ◌∷◌, ◌++◌, length, ap, ◌∙◌, arith}
use Rattle.gv_report.proofs.RanLemmas.{joined_next}
use Rattle.gv_report.proofs.ran.lines_text.Goals as goal

pub loop-line-preserved : goal.loop-line-preserved
loop-line-preserved c =
    let lt : c.loop-line.line-index < length c.args.lines.now = omega arith in
    joined_next c.loop-line.text.items c.push_line.new.out.items c.args.lines.now c.loop-line.line-index c.line-item.result lt c.line-item.is
    c.loop-line.invariant
    (c.in_ok-push_line.ensures ∙ ap (λ (v : List ℕ). c.loop-line.text.items ++ (v ++ 10 ∷ [])) c.as_slice.ensures)
