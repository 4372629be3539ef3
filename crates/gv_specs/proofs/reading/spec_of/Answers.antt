use Rattle.std.proofs.Common.{None, refl, subst}
use Rattle.gv_specs.specs.Faults.{HasFault}
use Rattle.gv_specs.proofs.Firsts.{untold, told_all}
use Rattle.gv_specs.proofs.Typing.{parts_typed}
use Rattle.gv_specs.specs.Told.{TellsFirst}
use Rattle.gv_specs.proofs.reading.spec_of.Goals as goal

pub returns-clause-faultless : goal.returns-clause-faultless
returns-clause-faultless c = untold (HasFault c.args.text.now c.args.tree.now) None c.read_parts.new.first c.in_ok-parts.ensures.noted c.in_default.is

pub returns-in-Some-clause-cause : goal.returns-in-Some-clause-cause
returns-in-Some-clause-cause c =
    let Has = HasFault c.args.text.now c.args.tree.now in
    rw c.from.ensures (subst (TellsFirst Has) c.in-Some.is (told_all Has None c.read_parts.new.first refl c.in_ok-parts.ensures.noted))

pub invariant_of-result : goal.invariant_of-result
invariant_of-result c =
    let text = c.args.text.now in
    let tree = c.args.tree.now in
    record { typed = parts_typed text tree c.in_ok-parts.parts (c.in_ok-parts.ensures.read c.in_default.is) (untold (HasFault text tree) None c.read_parts.new.first c.in_ok-parts.ensures.noted c.in_default.is) }
