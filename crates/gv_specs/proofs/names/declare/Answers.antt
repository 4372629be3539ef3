use Rattle.std.proofs.Common.{ℕ, List, ap, ◌∙◌}
use Rattle.gv_terms.specs.declared.var.Var.{Var}
use Rattle.gv_atomic.specs.Typed.{names_of}
use Rattle.gv_atomic.specs.Marks.{is_new}
use Rattle.gv_specs.specs.Names.{with_var}
use Rattle.gv_specs.proofs.Noted.{name_noted}
use Rattle.gv_specs.proofs.names.declare.Goals as goal

pub returns-clause-scope : goal.returns-clause-scope
returns-clause-scope c =
    c.in_ok-new.ensures.added ∙ ap (λ (n : List ℕ). let v : Var = record { name = n; sort = c.args.sort } in with_var c.args.vars.now v) c.in_ok-name.ensures

pub returns-clause-noted : goal.returns-clause-noted
returns-clause-noted c =
    name_noted c.args.text.now c.args.vars.now c.args.span c.in_ok-new.new c.args.first.now c.want.new.first (c.in_ok-new.ensures.told ∙ ap (is_new (names_of c.args.vars.now)) c.in_ok-name.ensures) c.want.ensures
