use Rattle.std.proofs.Common.{Bool, [], ◌++◌, map, sym, ap, ◌∙◌}
use Rattle.std.specs.Prelude.{if◌then◌else◌}
use Rattle.gv_gotypes.specs.Trees.{expr_of}
use Rattle.gv_gotypes.specs.Assigning.{nothing_new, again}
use Rattle.gv_gotyped.specs.First.{first_of}
use Rattle.gv_gosimple.proofs.assigns.beside_fault.Goals as goal

pub returns-then-defines : goal.returns-then-defines
returns-then-defines g c = λ es h.
    let env = g.N.Names.env c.args.names.now in
    c.definition_fault.ensures es h (c.some_is_new-fresh.ensures es h)
    ∙ sym (ap (λ (b : Bool). first_of (if b then nothing_new env (map expr_of es) ++ again env (map expr_of es) else [])) c.if-defines.true)

pub returns-else-defines : goal.returns-else-defines
returns-else-defines g c = λ es h.
    let env = g.N.Names.env c.args.names.now in
    sym (ap (λ (b : Bool). first_of (if b then nothing_new env (map expr_of es) ++ again env (map expr_of es) else [])) c.if-defines.false)
