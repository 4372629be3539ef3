use Rattle.std.proofs.Common.{arith, sym, ap, ◌∙◌}
use Rattle.std.proofs.lemmas.Grind.{common_steps}
use Rattle.gv_top.proofs.ComparingLemmas.{at_both, not_then}
use Rattle.gv_top.proofs.comparing.same_interface.Goals as goal

pub returns-then-not-same_interface_of : goal.returns-then-not-same_interface_of
returns-then-not-same_interface_of c =
    let ops = c.args.ops.now in
    let others = c.args.other.now in
    let op = c.index-ops-at.result in
    let other = c.index-other-at.result in
    not_then _ _ c.same_interface_of.result c.same_interface_of.ensures c.if-not-same_interface_of.true
    (λ e. (
      at_both (λ x. x.name) (λ x. x.name) ops others c.loop-at.at op other c.loop-at-test.true (grind (arith, common_steps)) c.index-ops-at.is e.0 ∙ ap (λ x. x.name) (sym c.index-other-at.is),
      at_both (λ x. x.params) (λ x. x.params) ops others c.loop-at.at op other c.loop-at-test.true (grind (arith, common_steps)) c.index-ops-at.is e.1 ∙ ap (λ x. x.params) (sym c.index-other-at.is),
    ))
