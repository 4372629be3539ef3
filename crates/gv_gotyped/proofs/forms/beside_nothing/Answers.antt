use Rattle.std.proofs.Common.{refl, sym, ◌∙◌}
use Rattle.gv_gotyped.proofs.Faults.{first_of_one}
use Rattle.gv_gotyped.proofs.forms.beside_nothing.Goals as goal

pub returns : goal.returns
returns c = record { class = refl; first = c.part_refusal.ensures ∙ sym (first_of_one c.args.part) }
