use Rattle.std.proofs.Common.{Some, [], ◌∷◌}
use Rattle.gv_gotypes.specs.Places.{refusals}
use Rattle.gv_gotypes.specs.Expressions.{index_class}
use Rattle.gv_gotyped.proofs.Faults.{faults_of_parts}
use Rattle.gv_gotyped.proofs.FormLemmas.{renamed}
use Rattle.gv_gotyped.proofs.forms.index_something.Goals as goal

pub returns : goal.returns
returns c = renamed (refusals (record { spot = c.args.a; class = Some c.args.c } ∷ record { spot = c.args.b; class = Some c.args.d } ∷ [])) c.args.a.start c.whole_form.result c.index_class-made.result (index_class c.args.c c.args.d) c.index_class-made.ensures
    (c.whole_form.ensures (refusals (record { spot = c.args.a; class = Some c.args.c } ∷ record { spot = c.args.b; class = Some c.args.d } ∷ [])) (faults_of_parts (record { spot = c.args.a; class = Some c.args.c } ∷ record { spot = c.args.b; class = Some c.args.d } ∷ [])) (c.both_refusals-refused.ensures))
