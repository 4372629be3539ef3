use Rattle.std.proofs.Common.{[], ◌∷◌, Option, Some, refl, ap, ◌∙◌}
use Rattle.std.specs.Prelude.{option_and_then}
use Rattle.gv_operands.specs.declared.part.Part.{Part}
use Rattle.gv_operands.specs.declared.part.Want.{Want}
use Rattle.gv_operands.specs.declared.part.Want.TheVariants.{ASlice}
use Rattle.gv_operands.specs.declared.types.GoType.{GoType}
use Rattle.gv_operands.specs.Types.{item_of, own_type_of}
use Rattle.gv_gotypes.specs.Trees.{expr_of}
use Rattle.gv_gotypes.specs.Places.{want}
use Rattle.gv_gotypes.specs.Expressions.{operand}
use Rattle.gv_gotypes.specs.Calls.{placed, slice_type}
use Rattle.gv_gotyped.specs.First.{first_of}
use Rattle.gv_gotyped.proofs.Firsts.{first_of_two}
use Rattle.gv_gocalls.proofs.made.append_at.Goals as goal

pub returns : goal.returns
returns g c = λ a b h i.
    let env = g.N.Names.env c.args.names.now in
    let k = c.operand_at-whole.ensures a h in
    let t = option_and_then slice_type (own_type_of (operand env (expr_of a)).class) in
    let same = c.slice_of-slice.ensures ∙ ap (λ (p : Part). option_and_then slice_type (own_type_of p.class)) k.part in
    record {
      start = refl;
      results = ap (λ (x : Option GoType). Some (x ∷ [])) same;
      first = c.earliest.ensures
          ∙ first_of_two (placed env ASlice (expr_of a)) (placed env (want (option_and_then item_of t)) (expr_of b)) c.placed-own.result c.placed_at-item.result
          (c.placed-own.ensures env (expr_of a) k)
          (c.placed_at-item.ensures b i
          ∙ ap (λ (w : Want). first_of (placed env w (expr_of b)))
          (c.item_wanted-wanted.ensures ∙ ap (λ (x : Option GoType). want (option_and_then item_of x)) same));
    }
