use Rattle.std.proofs.Common.{Bool, ap, ◌∙◌}
use Rattle.gv_base.specs.declared.answers.Code.TheVariants.{Undeclared}
use Rattle.gv_operands.specs.declared.part.Want.{Want}
use Rattle.gv_gotypes.specs.Types.{unless}
use Rattle.gv_gotypes.specs.Trees.{expr_of}
use Rattle.gv_gotypes.specs.Scopes.{name_in}
use Rattle.gv_gotypes.specs.Calls.{placed, is_field, field_want, fields_of}
use Rattle.gv_gotyped.specs.First.{first_of}
use Rattle.gv_gotyped.proofs.Firsts.{first_of_two}
use Rattle.gv_gocalls.proofs.literals.keyed_one_at.Goals as goal

pub returns : goal.returns
returns g c = λ e h.
    let env = g.N.Names.env c.args.names.now in
    let fs = fields_of env.declared c.args.base in
    let name = name_in env.source c.args.key in
    c.earliest.ensures
    ∙ first_of_two (unless (is_field fs name) c.args.key.start Undeclared) (placed env (field_want fs name) (expr_of e)) c.field_fault-field.result c.placed_at-misfit.result
    (c.field_fault-field.ensures ∙ ap (λ (b : Bool). first_of (unless b c.args.key.start Undeclared)) c.key_of-known.ensures.is_field)
    (c.placed_at-misfit.ensures e h ∙ ap (λ (w : Want). first_of (placed env w (expr_of e))) c.key_of-known.ensures.wants)
