use Rattle.std.proofs.Common.{ap, ◌∙◌}
use Rattle.gv_gosyntax.specs.declared.tree.GoType.{GoType as TypeTree}
use Rattle.gv_gotypes.specs.Kinds.{kind_findings}
use Rattle.gv_gotypes.specs.Statements.{name_findings}
use Rattle.gv_gotyped.specs.First.{first_of}
use Rattle.gv_gotyped.proofs.Firsts.{first_of_two}
use Rattle.gv_gostmts.proofs.vars.var_fault.Goals as goal

pub returns : goal.returns
returns g c = λ t h.
    let env = g.N.Names.env c.args.names.now in
    c.earliest.ensures
    ∙ first_of_two (kind_findings env t) (name_findings env c.args.name) c.written_at-written.result.first c.name_fault-twice.result
    (c.written_at-written.ensures.first ∙ ap (λ (x : TypeTree). first_of (kind_findings env x)) (c.type_at.ensures t h)) c.name_fault-twice.ensures
