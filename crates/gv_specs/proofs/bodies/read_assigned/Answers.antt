use Rattle.std.proofs.Common.{Option, sym, subst}
use Rattle.gv_specs.specs.declared.field_table.NumberedSort.{NumberedSort}
use Rattle.gv_specs.specs.Bodies.{HasAssignedFault}
use Rattle.gv_specs.specs.Told.{Adds}
use Rattle.gv_specs.proofs.Noted.{nothing_assigned}
use Rattle.gv_specs.proofs.bodies.read_assigned.Goals as goal

pub returns-in-None-clause-noted : goal.returns-in-None-clause-noted
returns-in-None-clause-noted c = nothing_assigned c.args.vars.now c.args.entry c.args.term.now c.args.first.now c.in-None.is

pub returns-in_ok-read_term-in-Some-clause-noted : goal.returns-in_ok-read_term-in-Some-clause-noted
returns-in_ok-read_term-in-Some-clause-noted c =
    subst (λ (o : Option NumberedSort). Adds (HasAssignedFault c.args.vars.now o c.args.term.now) c.args.first.now c.read_term.new.first) (sym c.in-Some.is) c.in_ok-read_term-in-Some.ensures.noted
