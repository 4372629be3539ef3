use Rattle.std.proofs.Common.{sym, ◌∙◌}
use Rattle.gv_asserts.proofs.Alike.{are_same, test_passes}
use Rattle.gv_asserts.proofs.finding.are_same.Goals as goal

pub returns : goal.returns
returns c = (λ e. are_same _ _ (sym c.are_alike.ensures ∙ e), λ e. c.are_alike.ensures ∙ test_passes _ _ e)
