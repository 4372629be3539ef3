use Rattle.std.proofs.Common.{sym, ap, ◌∙◌}
use Rattle.gv_operands.specs.declared.types.Kind.{Kind}
use Rattle.gv_operands.specs.declared.types.Class.TheVariants.{Fixed}
use Rattle.gv_gotypes.specs.Places.{misfit}
use Rattle.gv_gotyped.specs.First.{first_of}
use Rattle.gv_gotyped.proofs.Faults.{byte_misfit, truth_misfit, word_misfit}
use Rattle.gv_gotyped.proofs.places.fixed_misfit.Goals as goal

pub returns-in-OfWord : goal.returns-in-OfWord
returns-in-OfWord c = c.unless_same.ensures ∙ word_misfit c.args.spot c.args.kind c.args.value ∙ ap (λ (x : Kind). first_of (misfit c.args.spot c.args.kind (Fixed x c.args.value))) (sym c.in-OfWord.is)

pub returns-in-OfByte : goal.returns-in-OfByte
returns-in-OfByte c = c.unless_same-in-OfByte.ensures ∙ byte_misfit c.args.spot c.args.kind c.args.value ∙ ap (λ (x : Kind). first_of (misfit c.args.spot c.args.kind (Fixed x c.args.value))) (sym c.in-OfByte.is)

pub returns-in-OfBool : goal.returns-in-OfBool
returns-in-OfBool c = c.unless_same-in-OfBool.ensures ∙ truth_misfit c.args.spot c.args.kind c.args.value ∙ ap (λ (x : Kind). first_of (misfit c.args.spot c.args.kind (Fixed x c.args.value))) (sym c.in-OfBool.is)
