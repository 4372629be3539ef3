use Rattle.gv_operands.specs.Operators.{binary}
use Rattle.gv_gotypes.specs.Expressions.{binary_refusals}
use Rattle.gv_gotyped.proofs.Faults.{faults_of_binary}
use Rattle.gv_gotyped.proofs.FormLemmas.{renamed}
use Rattle.gv_gotyped.proofs.forms.binary_something.Goals as goal

pub returns : goal.returns
returns c = renamed (binary_refusals c.args.sign.class c.args.a c.args.b c.args.c c.args.d) c.args.a.start c.whole_form.result c.binary-made.result (binary c.args.sign.class c.args.c c.args.d) c.binary-made.ensures
    (c.whole_form.ensures (binary_refusals c.args.sign.class c.args.a c.args.b c.args.c c.args.d) (faults_of_binary c.args.sign.class c.args.a c.args.b c.args.c c.args.d) (c.binary_refusals-refused.ensures))
