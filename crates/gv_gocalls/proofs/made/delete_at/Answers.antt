use Rattle.std.proofs.Common.{refl, ◌∙◌}
use Rattle.gv_operands.specs.declared.types.GoType.TheVariants.{Word}
use Rattle.gv_operands.specs.declared.part.Want.TheVariants.{Exactly, AMap}
use Rattle.gv_gotypes.specs.Trees.{expr_of}
use Rattle.gv_gotypes.specs.Calls.{placed}
use Rattle.gv_gotyped.proofs.Firsts.{first_of_two}
use Rattle.gv_gocalls.proofs.made.delete_at.Goals as goal

pub returns : goal.returns
returns g c = λ a b h i.
    let env = g.N.Names.env c.args.names.now in
    record {
      start = refl;
      results = refl;
      first = c.earliest.ensures
          ∙ first_of_two (placed env AMap (expr_of a)) (placed env (Exactly Word) (expr_of b)) c.placed_at-map.result c.placed_at-key.result
          (c.placed_at-map.ensures a h) (c.placed_at-key.ensures b i);
    }
