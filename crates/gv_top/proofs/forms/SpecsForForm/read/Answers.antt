use Rattle.gv_top.proofs.SpecForm.{text_refuses, other_refuses, interface_refuses, spec_is_for}
use Rattle.gv_top.proofs.forms.SpecsForForm.read.Goals as goal

pub returns-in_err-spec : goal.returns-in_err-spec
returns-in_err-spec c =
    text_refuses c.args.self.now.package.now c.args.text.now c.from_residual.result c.in_err-spec.field-0.0 c.from_residual.ensures.1 c.in_err-spec.ensures.refused

pub returns-in_err-small : goal.returns-in_err-small
returns-in_err-small c =
    other_refuses c.args.self.now.package.now c.args.text.now c.in_ok-spec.spec c.in_ok-spec.ensures.read c.from_residual-in_err-small.result c.in_err-small.field-0.0
    c.from_residual-in_err-small.ensures.1 c.in_err-small.ensures.refused

pub returns : goal.returns
returns c =
    interface_refuses c.args.self.now.package.now c.args.text.now c.in_ok-spec.spec c.in_ok-spec.ensures.read c.in_ok-small.small c.in_ok-small.ensures.found
    c.as_slice.result.now c.as_slice-2.result.now c.same_interface.result c.as_slice.ensures c.as_slice-2.ensures c.same_interface.ensures c.not_of_form.result c.not_of_form.ensures c.if-same_interface.false

pub returns-then-same_interface : goal.returns-then-same_interface
returns-then-same_interface c =
    spec_is_for c.args.self.now.package.now c.args.text.now c.in_ok-spec.spec c.in_ok-spec.ensures.read c.in_ok-small.small c.in_ok-small.ensures.found
    c.as_slice.result.now c.as_slice-2.result.now c.same_interface.result c.as_slice.ensures c.as_slice-2.ensures c.same_interface.ensures c.if-same_interface.true
