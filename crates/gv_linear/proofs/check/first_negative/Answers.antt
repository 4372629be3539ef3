use Rattle.std.proofs.Common.{rules, get_or, below_more, sym, ◌∙◌, arith}
use Rattle.std.specs.Prelude.{FitsSigned}
use Rattle.std.specs.Int.{w128}
use Rattle.std.proofs.Math.IntN.{pos}
use Rattle.gv_linear.specs.Answer.{IsNegativeAt}
use Rattle.gv_linear.proofs.ColumnLemmas.{negative_at, not_negative_at, below_from_test, not_below_from_test}
use Rattle.gv_linear.proofs.check.first_negative.Goals as goal
use Rattle.gv_linear.proofs.check.first_negative.Goals.{else-not-row-via-then-not-row+else-factors-i-lt0, else-not-row-via-else-not-row}

pub returns-then-factors-i-lt0-clause-some : goal.returns-then-factors-i-lt0-clause-some
returns-then-factors-i-lt0-clause-some c = record {
  negative = let fits : FitsSigned w128 (get_or c.args.factors.now c.loop-i.i (pos 0)) = search rules in negative_at c.args.rows.now c.args.factors.now c.requires.lengths c.loop-i.i c.index-rows-i.result (omega arith) c.index-rows-i.is c.if-not-row.true (below_from_test (get_or c.args.factors.now c.loop-i.i (pos 0)) fits c.if-factors-i-lt0.true);
  first = c.loop-i.invariant;
}

pub loop-i-preserved : goal.loop-i-preserved
loop-i-preserved c =
    let here : IsNegativeAt c.args.rows.now c.args.factors.now c.loop-i.i → ⊥ =
    not_negative_at c.args.rows.now c.args.factors.now c.requires.lengths c.loop-i.i c.index-rows-i.result (omega arith) c.index-rows-i.is (λ same below. elim c.else-not-row.branch [ else-not-row-via-then-not-row+else-factors-i-lt0 w ↦ let fits : FitsSigned w128 (get_or c.args.factors.now c.loop-i.i (pos 0)) = search rules in not_below_from_test (get_or c.args.factors.now c.loop-i.i (pos 0)) fits w.if-factors-i-lt0.false below | else-not-row-via-else-not-row w ↦ let t = sym w.if-not-row.false ∙ same in cc ]) in
    below_more (λ r. IsNegativeAt c.args.rows.now c.args.factors.now r → ⊥) c.loop-i.i c.loop-i.invariant here

pub returns-clause-none : goal.returns-clause-none
returns-clause-none c r negative = let l = negative.0 in c.loop-i.invariant r (omega arith) negative
