use Rattle.std.proofs.Common.{Some, refl, subst}
use Rattle.gv_gosyntax.specs.declared.tree.GoType.{GoType}
use Rattle.gv_gotypes.specs.Trees.{expr_of}
use Rattle.gv_gotyped.specs.Kinds.{IsWritten}
use Rattle.gv_gocalls.proofs.made.make_length_at.Goals as goal

pub returns : goal.returns
returns g c = λ t e h i.
    let env = g.N.Names.env c.args.names.now in
    c.make_answer.ensures env t (Some (expr_of e))
    (subst (λ (x : GoType). IsWritten env x c.written_at-written.result) (c.type_at.ensures t h) c.written_at-written.ensures) refl
    (c.placed_at-size.ensures e i)
