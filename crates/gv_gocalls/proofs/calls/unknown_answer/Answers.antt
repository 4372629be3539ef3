use Rattle.std.specs.Prelude.{map}
use Rattle.gv_gotypes.specs.Trees.{expr_of}
use Rattle.gv_gocalls.proofs.FunctionLemmas.{unknown_stands}
use Rattle.gv_gocalls.proofs.calls.unknown_answer.Goals as goal

pub returns : goal.returns
returns g c = λ f es k h is_callee unsigned.
    unknown_stands (g.N.Names.env c.args.names.now) f (map expr_of es) k c.args.callee c.arguments_at-misfit.result c.earliest.result is_callee unsigned
    (c.arguments_at-misfit.ensures es h) c.earliest.ensures
