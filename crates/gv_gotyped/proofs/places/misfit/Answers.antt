use Rattle.std.proofs.Common.{sym, ap, ◌∙◌}
use Rattle.gv_operands.specs.declared.types.Class.{Class}
use Rattle.gv_gotypes.specs.Places.{misfit}
use Rattle.gv_gotyped.specs.First.{first_of}
use Rattle.gv_gotyped.proofs.Faults.{length_misfit, nil_misfit, run_misfit}
use Rattle.gv_gotyped.proofs.places.misfit.Goals as goal

pub returns-in-Run : goal.returns-in-Run
returns-in-Run c = c.unless_same.ensures ∙ run_misfit c.args.spot c.args.kind c.in-Run.own ∙ ap (λ (x : Class). first_of (misfit c.args.spot c.args.kind x)) (sym c.in-Run.is)

pub returns-in-Nil : goal.returns-in-Nil
returns-in-Nil c = c.nil_fits.ensures ∙ nil_misfit c.args.spot c.args.kind ∙ ap (λ (x : Class). first_of (misfit c.args.spot c.args.kind x)) (sym c.in-Nil.is)

pub returns-in-Length : goal.returns-in-Length
returns-in-Length c = c.unless_same-in-Length.ensures ∙ length_misfit c.args.spot c.args.kind ∙ ap (λ (x : Class). first_of (misfit c.args.spot c.args.kind x)) (sym c.in-Length.is)
