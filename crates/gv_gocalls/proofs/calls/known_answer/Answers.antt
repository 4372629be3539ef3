use Rattle.std.proofs.Common.{sym, ◌∙◌}
use Rattle.std.specs.Prelude.{map}
use Rattle.std.proofs.lemmas.List.{length-map}
use Rattle.gv_gotypes.specs.Trees.{expr_of}
use Rattle.gv_gocalls.proofs.FunctionLemmas.{known_stands}
use Rattle.gv_gocalls.proofs.calls.known_answer.Goals as goal

pub returns : goal.returns
returns g c = λ f es k s h is_callee signed is_signature.
    known_stands (g.N.Names.env c.args.names.now) f (map expr_of es) k s c.args.callee c.args.signature c.count_at-given.result c.count_fault-count.result
    c.arguments_at-misfit.result c.earliest-more.result c.earliest.result is_callee signed is_signature (c.count_at-given.ensures es h ∙ sym (length-map es expr_of))
    c.count_fault-count.ensures (c.arguments_at-misfit.ensures es h) c.earliest-more.ensures c.earliest.ensures
