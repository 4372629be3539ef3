use Rattle.std.proofs.Common.{◌∙◌}
use Rattle.gv_gotyped.specs.Parts.{listed}
use Rattle.gv_gotyped.proofs.PartLemmas.{first_of_parts}
use Rattle.gv_gotyped.proofs.forms.slice_refusal.Goals as goal

pub returns : goal.returns
returns c = c.earliest.ensures ∙ first_of_parts c.args.whole (listed c.args.low) (listed c.args.high) c.part_refusal-own.result c.bound_refusal-below.result
    c.bound_refusal-above.result c.earliest-bounds.result c.part_refusal-own.ensures c.bound_refusal-below.ensures c.bound_refusal-above.ensures c.earliest-bounds.ensures
