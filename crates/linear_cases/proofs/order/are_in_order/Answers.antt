use Rattle.std.proofs.Common.{ℕ, ℤ, ◌≡◌, ◌<◌, List, length, get_or, below_more, subst, sym, ◌∙◌, arith}
use Rattle.std.proofs.lemmas.List.{get_or_default}
use Rattle.std.specs.Prelude.{All, AllPairs}
use Rattle.gv_linear.specs.declared.row.Row.{Row}
use Rattle.gv_linear.specs.Row.{IsInOrder}
use Rattle.linear_cases.proofs.order.are_in_order.Goals as goal

pub loop-row-preserved : goal.loop-row-preserved
loop-row-preserved c k d l =
    let rows = c.args.rows.now in
    let i = c.loop-row.row-index in
    let row = c.row-item.result in
    let items : c.as_slice.result.now ≡ row.items = c.as_slice.ensures in
    let here : IsInOrder c.args.unknowns row = record {
      ascending = subst (λ (xs : List (ℕ × ℤ)). AllPairs (λ i j. i.0 < j.0) xs) items c.if-not-is_in_order.ensures.ascending;
      below = subst (λ (xs : List (ℕ × ℤ)). All (λ i. i.0 < c.args.unknowns) xs) items c.if-not-is_in_order.ensures.below;
    } in
    let at : (d : Row) → row ≡ get_or rows i d = λ d. c.row-item.is ∙ get_or_default rows i row d c.loop-row-test.true in
    below_more (λ n. (d : Row) → IsInOrder c.args.unknowns (get_or rows n d)) i (λ n l d. c.loop-row.invariant n d l) (λ d. subst (λ (r : Row). IsInOrder c.args.unknowns r) (at d) here) k l d

pub returns : goal.returns
returns c k d l = c.loop-row.invariant k d (omega arith)
