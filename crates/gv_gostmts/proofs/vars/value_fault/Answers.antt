use Rattle.std.proofs.Common.{List, [], ◌∷◌, ap, ◌∙◌}
use Rattle.gv_gosyntax.specs.declared.tree.GoType.{GoType as TypeTree}
use Rattle.gv_operands.specs.declared.part.Want.{Want}
use Rattle.gv_gotypes.specs.Trees.{right_of}
use Rattle.gv_gotypes.specs.Kinds.{kind_of, kind_findings}
use Rattle.gv_gotypes.specs.Places.{want}
use Rattle.gv_gotypes.specs.Assigning.{Target, right_findings}
use Rattle.gv_gotypes.specs.Statements.{name_findings}
use Rattle.gv_gotyped.specs.First.{first_of}
use Rattle.gv_gotyped.proofs.Firsts.{first_of_lists}
use Rattle.gv_gostmts.proofs.vars.value_fault.Goals as goal

pub returns : goal.returns
returns g c = λ t r h i.
    let env = g.N.Names.env c.args.names.now in
    let ts : List Target = record { wants = want (kind_of env t); findings = [] } ∷ [] in
    let is = c.type_at.ensures t h in
    c.earliest.ensures
    ∙ first_of_lists (kind_findings env t) (right_findings env ts c.args.word.start (right_of r)) (name_findings env c.args.name)
    c.written_at-written.result.first c.in_ok-own.own c.name_fault-twice.result c.earliest-more.result
    (c.written_at-written.ensures.first ∙ ap (λ (x : TypeTree). first_of (kind_findings env x)) is)
    (c.in_ok-own.ensures r ts i (ap (λ (x : Want). x ∷ []) (c.want_of.ensures ∙ ap want (c.written_at-written.ensures.kind ∙ ap (kind_of env) is))))
    c.name_fault-twice.ensures c.earliest-more.ensures
