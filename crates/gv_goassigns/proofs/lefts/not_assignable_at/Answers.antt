use Rattle.std.proofs.Common.{ℕ, [], ◌∷◌, refl, ap, ◌∙◌}
use Rattle.gv_base.specs.declared.answers.Code.TheVariants.{NotAssignable}
use Rattle.gv_gotypes.specs.Trees.{expr_of}
use Rattle.gv_gotypes.specs.Types.{Fault as FaultAt}
use Rattle.gv_gotypes.specs.Places.{start_of}
use Rattle.gv_gotypes.specs.Assigning.{left_parts}
use Rattle.gv_gotyped.specs.First.{first_of}
use Rattle.gv_gotyped.proofs.Firsts.{first_of_two}
use Rattle.gv_goassigns.proofs.lefts.not_assignable_at.Goals as goal

pub returns : goal.returns
returns g c = λ e h. record {
  wants = refl;
  first = c.earliest.ensures
      ∙ first_of_two (left_parts (g.N.Names.env c.args.names.now) (expr_of e)) (FaultAt (start_of (expr_of e)) NotAssignable ∷ []) c.left_parts_at-parts.result c.not_assignable-own.result
      (c.left_parts_at-parts.ensures e h)
      (c.not_assignable-own.ensures ∙ ap (λ (n : ℕ). first_of (FaultAt n NotAssignable ∷ [])) (c.start_at.ensures e h));
}
