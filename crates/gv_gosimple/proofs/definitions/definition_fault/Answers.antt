use Rattle.std.proofs.Common.{map, ◌∙◌}
use Rattle.gv_gotypes.specs.Trees.{expr_of}
use Rattle.gv_gotypes.specs.Assigning.{nothing_new, again}
use Rattle.gv_gotyped.proofs.Firsts.{first_of_two}
use Rattle.gv_gosimple.proofs.definitions.definition_fault.Goals as goal

pub returns : goal.returns
returns g c = λ es h f.
    let env = g.N.Names.env c.args.names.now in
    c.earliest.ensures
    ∙ first_of_two (nothing_new env (map expr_of es)) (again env (map expr_of es)) c.nothing_new_at-nothing.result c.again_at-again.result
    (c.nothing_new_at-nothing.ensures es h f) (c.again_at-again.ensures es h)
