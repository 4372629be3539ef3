use Rattle.std.proofs.Common.{List, sym, subst}
use Rattle.gv_base.specs.declared.token.Token.{Token}
use Rattle.gv_lex.specs.Reading as lex
use Rattle.gv_smallscript.proofs.Answers.{other_of, not_read}
use Rattle.gv_smallscript.proofs.forms.small_script.Goals as goal

pub returns-in_ok-form_of-in-Ok-clause-other : goal.returns-in_ok-form_of-in-Ok-clause-other
returns-in_ok-form_of-in-Ok-clause-other c =
    let cut = subst (λ (ts : List Token). lex.IsRead c.args.text.now ts) (sym c.deref.ensures.value) c.in-Ok.ensures.read in
    other_of c.args.text.now c.deref.result.now c.in_ok-form_of-in-Ok.field-0 c.found_form.result c.found_form.ensures.other c.in_ok-form_of-in-Ok.ensures.none cut

pub returns-in-Err-At-clause-other : goal.returns-in-Err-At-clause-other
returns-in-Err-At-clause-other c = λ e s is.
    not_read is.tokens c.in-Err-At.field-0 c.in-Err-At.field-0-0 c.in-Err-At.field-0-1 c.in-Err-At.field-0-is (c.in-Err-At.ensures.only is.tokens is.cut)
