use Rattle.std.proofs.Common.{Some, [], ◌∷◌, ◌∙◌}
use Rattle.gv_gotypes.specs.Places.{refusals}
use Rattle.gv_gotypes.specs.Expressions.{too_large_compared, zero_divisor}
use Rattle.gv_gotyped.proofs.Firsts.{first_of_lists}
use Rattle.gv_gotyped.proofs.forms.binary_refusals.Goals as goal

pub returns : goal.returns
returns c = c.earliest.ensures ∙ first_of_lists
    (refusals (record { spot = c.args.a; class = Some c.args.c } ∷ record { spot = c.args.b; class = Some c.args.d } ∷ []))
    (too_large_compared c.args.sign c.args.a c.args.b c.args.c c.args.d) (zero_divisor c.args.sign c.args.b c.args.d)
    c.both_refusals-own.result c.too_large_compared-compared.result c.zero_divisor-zero.result c.earliest-more.result
    c.both_refusals-own.ensures c.too_large_compared-compared.ensures c.zero_divisor-zero.ensures c.earliest-more.ensures
