use Rattle.std.proofs.Common.{ℕ, take, ◌∷◌, [], ◌++◌, ◌<◌, List, length, sym, ap, ◌∙◌, arith}
use Rattle.gv_lines.specs.Moves.{move_lines}
use Rattle.gv_lines.proofs.MoveLemmas.{moves_next}
use Rattle.gv_lines.proofs.moves.move_lines.Goals as goal

pub loop-m-preserved : goal.loop-m-preserved
loop-m-preserved c =
    let i = c.loop-m.m-index in
    let ms = c.args.moves.now in
    let lt : i < length ms = omega arith in
    c.in_ok-push.ensures.items ∙ ap (λ (ls : List (List ℕ)). ls ++ c.in_ok-move_line.field-0 ∷ []) c.loop-m.invariant
    ∙ ap (λ l. move_lines c.args.spec.now (take i ms) ++ l ∷ []) c.in_ok-move_line.ensures
    ∙ sym (moves_next c.args.spec.now ms i c.m-item.result lt c.m-item.is)
