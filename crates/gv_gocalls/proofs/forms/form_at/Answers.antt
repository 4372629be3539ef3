use Rattle.std.proofs.Common.{sym, subst}
use Rattle.gv_gocalls.specs.declared.forms.Form.{Form}
use Rattle.gv_gocalls.specs.Forms.{IsForm}
use Rattle.gv_gocalls.proofs.FormLemmas.{is_form}
use Rattle.gv_gocalls.proofs.forms.form_at.Goals as goal

pub returns : goal.returns
returns c = λ e h. subst (λ (f : Form). IsForm c.args.nodes.now c.args.at f e) (sym c.form_of.ensures)
    (is_form c.args.nodes.now c.args.at c.expr_node-node.result e (c.expr_node-node.ensures e h))
