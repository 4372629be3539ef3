use Rattle.std.proofs.Common.{None, refl, subst}
use Rattle.gv_gosyntax.specs.declared.tree.GoType.{GoType}
use Rattle.gv_gotyped.specs.Kinds.{IsWritten}
use Rattle.gv_gocalls.proofs.made.make_at.Goals as goal

pub returns : goal.returns
returns g c = λ t h.
    let env = g.N.Names.env c.args.names.now in
    c.make_answer.ensures env t None
    (subst (λ (x : GoType). IsWritten env x c.written_at-written.result) (c.type_at.ensures t h) c.written_at-written.ensures) refl refl
