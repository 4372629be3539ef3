use Rattle.std.proofs.Common.{List, refl, subst}
use Rattle.gv_terms.specs.declared.var.Var.{Var}
use Rattle.gv_specs.specs.Spelled.{IsTermOf}
use Rattle.gv_specs.proofs.Noted.{field_noted}
use Rattle.gv_specs.proofs.fields.read_field.Goals as goal

pub returns-clause-noted : goal.returns-clause-noted
returns-clause-noted c =
    field_noted c.args.text.now c.args.vars.now c.new-none.result c.args.tree.now c.is_field_sort.result c.args.first.now c.declare.new.first c.want.new.first c.read_term.new.first
    c.new-none.ensures c.is_field_sort.ensures c.in_ok-name.ensures.noted c.want.ensures c.in_ok-value.ensures.noted

pub returns-clause-read : goal.returns-clause-read
returns-clause-read c = λ e. record {
  name = c.in_ok-name.ensures.name;
  its_sort = refl;
  leased = refl;
  first = subst (λ (vs : List Var). IsTermOf c.read_term.new.store vs c.args.tree.now.first c.in_ok-value.value) c.new-none.ensures (c.in_ok-value.ensures.read e);
}
