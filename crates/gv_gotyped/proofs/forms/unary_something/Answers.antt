use Rattle.std.proofs.Common.{Some, [], ◌∷◌, sym, ◌∙◌}
use Rattle.gv_operands.specs.Operators.{unary}
use Rattle.gv_gotypes.specs.Places.{refusals}
use Rattle.gv_gotyped.proofs.Faults.{faults_of_parts, first_of_one}
use Rattle.gv_gotyped.proofs.FormLemmas.{renamed}
use Rattle.gv_gotyped.proofs.forms.unary_something.Goals as goal

pub returns : goal.returns
returns c = renamed (refusals (record { spot = c.args.spot; class = Some c.args.class } ∷ [])) c.args.sign.start c.whole_form.result c.unary-made.result (unary c.args.sign.class c.args.class) c.unary-made.ensures
    (c.whole_form.ensures (refusals (record { spot = c.args.spot; class = Some c.args.class } ∷ [])) (faults_of_parts (record { spot = c.args.spot; class = Some c.args.class } ∷ [])) (c.refusal-refused.ensures ∙ sym (first_of_one (record { spot = c.args.spot; class = Some c.args.class }))))
