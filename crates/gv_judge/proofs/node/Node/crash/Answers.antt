use Rattle.std.proofs.Common.{refl, ◌∙◌}
use Rattle.gv_judge.proofs.Standing.{crash_taken}
use Rattle.gv_judge.proofs.node.Node.crash.Goals as goal

pub returns : goal.returns
returns c = λ s before w stands.
    crash_taken s before c.args.self.now _ w stands c.in_ok-share.ensures (c.in_ok-same_waiting.ensures ∙ c.as_slice.ensures.value)
    (c.in_ok-same_kept.ensures ∙ c.as_slice-2.ensures.value) refl
