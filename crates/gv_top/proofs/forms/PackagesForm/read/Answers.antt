use Rattle.gv_top.proofs.PackageForm.{tokens_refuse, grammar_refuses, is_package, form_decides}
use Rattle.gv_top.proofs.forms.PackagesForm.read.Goals as goal

pub returns-in_err-tokens : goal.returns-in_err-tokens
returns-in_err-tokens c =
    tokens_refuse c.args.text.now c.from_residual.result c.in_err-tokens.field-0.0 c.from_residual.ensures.1 c.in_err-tokens.ensures.refused

pub returns-in_err-parse : goal.returns-in_err-parse
returns-in_err-parse c =
    grammar_refuses c.args.text.now c.in_ok-tokens.tokens.items c.as_slice.result.now c.as_slice.ensures.value c.in_ok-tokens.ensures.read c.from_residual-in_err-parse.result c.in_err-parse.field-0.0
    c.from_residual-in_err-parse.ensures.1 c.in_err-parse.ensures.refused

pub returns : goal.returns
returns c =
    form_decides c.args.text.now c.read_small_package.result
    (is_package c.args.text.now c.in_ok-tokens.tokens.items c.as_slice.result.now c.as_slice.ensures.value c.in_ok-tokens.ensures.read c.in_ok-parse.field-0 c.in_ok-parse.ensures.read)
    c.read_small_package.ensures.found c.read_small_package.ensures.only c.read_small_package.ensures.fault
