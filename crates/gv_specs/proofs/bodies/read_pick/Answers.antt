use Rattle.gv_specs.specs.Faults.{HasNameFault}
use Rattle.gv_specs.proofs.Firsts.{still_told}
use Rattle.gv_specs.proofs.Noted.{pick_noted}
use Rattle.gv_specs.proofs.bodies.read_pick.Goals as goal

pub returns-clause-noted : goal.returns-clause-noted
returns-clause-noted c =
    pick_noted c.args.text.now c.args.vars.now c.args.tree.now c.args.first.now c.read_term.new.first c.declare.new.first c.in_ok-bound.ensures.noted c.in_ok-name.ensures.noted

pub returns-clause-read : goal.returns-clause-read
returns-clause-read c = λ e. record {
  name = c.in_ok-name.ensures.name;
  bound = c.in_ok-bound.ensures.read (still_told (HasNameFault c.args.text.now c.args.vars.now c.args.tree.now.name) c.read_term.new.first c.declare.new.first c.in_ok-name.ensures.noted e);
}
