use Rattle.std.proofs.Common.{◌++◌, List, [], ◌∷◌, ℕ, Option, None, ap, ◌∙◌, arith}
use Rattle.std.specs.Prelude.{replicate}
use Rattle.gv_operands.specs.declared.types.Class.{Class}
use Rattle.gv_goconsts.proofs.Walks.{none_more}
use Rattle.gv_goconsts.proofs.settling.nothings.Goals as goal

pub loop-at-preserved : goal.loop-at-preserved
loop-at-preserved c = record {
  items = c.in_ok-push.ensures.items ∙ (ap (λ (ks : List (Option Class)). ks ++ None ∷ []) c.loop-at.invariant.items ∙ none_more c.loop-at.at);
  within = (let k = c.loop-at-test.true in omega (arith, k));
}

pub returns : goal.returns
returns c = c.loop-at.invariant.items ∙ ap (λ (n : ℕ). replicate {A = Option Class} n None) (let k = c.loop-at-test.false in let l = c.loop-at.invariant.within in omega (arith, k, l))
