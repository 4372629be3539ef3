use Rattle.std.proofs.Common.{◌∙◌}
use Rattle.gv_gotyped.proofs.Faults.{first_of_places}
use Rattle.gv_gotyped.proofs.forms.both_refusals.Goals as goal

pub returns : goal.returns
returns c = c.earliest.ensures ∙ first_of_places c.args.a c.args.b c.args.c c.args.d
    c.refusal-left.result c.refusal-right.result c.refusal-left.ensures c.refusal-right.ensures
