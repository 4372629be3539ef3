use Rattle.std.proofs.Common.{ℕ, List, ap}
use Rattle.gv_terms.specs.declared.var.Var.{Var}
use Rattle.gv_specs.proofs.Noted.{param_noted}
use Rattle.gv_specs.proofs.params.read_param.Goals as goal

pub returns-clause-noted : goal.returns-clause-noted
returns-clause-noted c =
    param_noted c.args.text.now c.args.vars.now c.args.tree c.is_plain.result c.args.first.now c.declare.new.first c.want.new.first c.is_plain.ensures c.in_ok-name.ensures.noted c.want.ensures

pub returns-clause-read : goal.returns-clause-read
returns-clause-read c = ap (λ (n : List ℕ). let v : Var = record { name = n; sort = c.args.tree.sort.sort } in v) c.in_ok-name.ensures.name
