use Rattle.std.proofs.Common.{◌∷◌, ◌++◌, sym, ◌∙◌}
use Rattle.gv_gotypes.specs.Places.{refusals}
use Rattle.gv_gotypes.specs.Expressions.{sliced}
use Rattle.gv_gotyped.specs.Parts.{listed}
use Rattle.gv_gotyped.proofs.Faults.{faults_of_parts}
use Rattle.gv_gotyped.proofs.FormLemmas.{renamed}
use Rattle.gv_gotyped.proofs.PartLemmas.{whole_of}
use Rattle.gv_gotyped.proofs.forms.slice_made.Goals as goal

pub returns-else-some_nothing : goal.returns-else-some_nothing
returns-else-some_nothing c =
    let ps = listed c.args.low ++ listed c.args.high in
    let all = c.args.whole ∷ ps in
    whole_of all (refusals all) (sliced c.args.whole.class ps) c.args.whole.spot.start c.whole_form.result (sym c.some_nothing.ensures ∙ c.if-some_nothing.false)
    (renamed (refusals all) c.args.whole.spot.start c.whole_form.result c.sliced-made.result (sliced c.args.whole.class ps) c.sliced-made.ensures
    (c.whole_form.ensures (refusals all) (faults_of_parts all) c.slice_refusal-refused.ensures))
