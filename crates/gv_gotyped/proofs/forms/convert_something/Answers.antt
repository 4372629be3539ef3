use Rattle.gv_gotypes.specs.Expressions.{convert_refusals, converted}
use Rattle.gv_gotyped.proofs.Faults.{faults_of_convert}
use Rattle.gv_gotyped.proofs.FormLemmas.{renamed}
use Rattle.gv_gotyped.proofs.forms.convert_something.Goals as goal

pub returns : goal.returns
returns c = renamed (convert_refusals c.args.word.class c.args.spot c.args.class) c.args.word.start c.whole_form.result c.converted-made.result (converted c.args.word.class c.args.class) c.converted-made.ensures
    (c.whole_form.ensures (convert_refusals c.args.word.class c.args.spot c.args.class) (faults_of_convert c.args.word.class c.args.spot c.args.class) (c.convert_refusals-refused.ensures))
