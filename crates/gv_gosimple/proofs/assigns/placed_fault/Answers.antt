use Rattle.std.proofs.Common.{map, ◌∙◌}
use Rattle.gv_gotypes.specs.Trees.{expr_of, right_of}
use Rattle.gv_gosimple.proofs.AssignLemmas.{assign_told}
use Rattle.gv_gosimple.proofs.assigns.placed_fault.Goals as goal

pub returns : goal.returns
returns g c = λ es r h i.
    assign_told (g.N.Names.env c.args.names.now) (map expr_of es) c.args.sign (right_of r) c.side_at-side.result c.in_ok-targets.targets c.is_define-defines.result
    c.beside_fault-beside.result c.earliest-own.result c.in_ok-given.given c.earliest.result c.first_start_at-statement.result
    c.is_define-defines.ensures (c.side_at-side.ensures es h) (c.in_ok-targets.ensures es h) (c.beside_fault-beside.ensures es h) (c.first_start_at-statement.ensures es h)
    (λ ts w. c.in_ok-given.ensures r ts i (c.as_slice.ensures.value ∙ w)) c.earliest-own.ensures c.earliest.ensures
