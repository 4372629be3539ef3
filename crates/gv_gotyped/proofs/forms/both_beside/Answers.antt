use Rattle.std.proofs.Common.{◌∙◌}
use Rattle.gv_gotypes.specs.Expressions.{too_large_beside}
use Rattle.gv_gotyped.proofs.Firsts.{first_of_two}
use Rattle.gv_gotyped.proofs.forms.both_beside.Goals as goal

pub returns : goal.returns
returns c = c.earliest.ensures ∙ first_of_two (too_large_beside c.args.c c.args.b c.args.d) (too_large_beside c.args.d c.args.a c.args.c)
    c.too_large_beside-right.result c.too_large_beside-left.result c.too_large_beside-right.ensures c.too_large_beside-left.ensures
