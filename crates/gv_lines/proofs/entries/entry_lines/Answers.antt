use Rattle.std.proofs.Common.{ℕ, take, ◌∷◌, [], ◌++◌, ◌<◌, List, length, sym, ap, ◌∙◌, arith}
use Rattle.gv_lines.specs.Lines.{entry_lines}
use Rattle.gv_lines.proofs.LineLemmas.{entries_next}
use Rattle.gv_lines.proofs.entries.entry_lines.Goals as goal

pub loop-e-preserved : goal.loop-e-preserved
loop-e-preserved c =
    let i = c.loop-e.e-index in
    let es = c.args.history.now in
    let lt : i < length es = omega arith in
    c.in_ok-push.ensures.items ∙ ap (λ (ls : List (List ℕ)). ls ++ c.in_ok-entry_line.field-0 ∷ []) c.loop-e.invariant
    ∙ ap (λ l. entry_lines c.args.spec.now (take i es) ++ l ∷ []) c.in_ok-entry_line.ensures
    ∙ sym (entries_next c.args.spec.now es i c.e-item.result lt c.e-item.is)
