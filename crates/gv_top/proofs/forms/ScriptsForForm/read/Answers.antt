use Rattle.gv_top.specs.SmallScript.{IsSmallScript}
use Rattle.gv_top.specs.Forms.{IsScriptFor}
use Rattle.gv_top.proofs.FormLemmas.{other_blocks, refused_start, refused_more, handed_on}
use Rattle.gv_top.proofs.forms.ScriptsForForm.read.Goals as goal

pub returns-in_err-script : goal.returns-in_err-script
returns-in_err-script c =
    let program = c.args.self.now.package.now in
    handed_on (IsScriptFor program) c.args.text.now c.from_residual.result c.in_err-script.field-0.0 c.from_residual.ensures.1
    (refused_more (IsScriptFor program) c.args.text.now IsSmallScript c.in_err-script.field-0.0 c.in_err-script.ensures.fault c.in_err-script.ensures.only (λ x s. (x, s.0)))

pub returns-else-same_blocks : goal.returns-else-same_blocks
returns-else-same_blocks c =
    let program = c.args.self.now.package.now in
    refused_start (IsScriptFor program) c.args.text.now c.not_of_form.result c.not_of_form.ensures
    (λ x s. other_blocks program c.in_ok-script.script x c.as_slice.result.now c.as_slice-2.result.now c.same_blocks.result (c.in_ok-script.ensures.only x s.0) s.1 c.as_slice.ensures c.as_slice-2.ensures c.same_blocks.ensures c.if-same_blocks.false)
