use Rattle.std.proofs.Common.{◌==◌, ◌++◌, map, refl}
use Rattle.gv_gosyntax.specs.declared.generated.gosyntax_table.TheConstants.{CLASS_DEFINE}
use Rattle.gv_gotypes.specs.Trees.{Assign, expr_of, right_of}
use Rattle.gv_gotypes.specs.Assigning.{targets_by, target_findings}
use Rattle.gv_gotypes.specs.Statements.{simple_findings}
use Rattle.gv_gosimple.specs.Lefts.{by_side}
use Rattle.gv_gouses.specs.Parts.{right_findings}
use Rattle.gv_gouses.proofs.UseLemmas.{adds_as, adds_two, then_so}
use Rattle.gv_gouses.proofs.AssignUses.{assign_uses}
use Rattle.gv_gouses.proofs.simple.note_placed.Goals as goal

pub returns : goal.returns
returns g c = then_so c.note_right.result c.note_right.ensures (λ a. λ es r h i.
    let env = g.N.Names.env c.args.names.now in
    let old = c.args.uses.now.items in
    let lefts = target_findings (targets_by (by_side env c.side_at-side.result) (map expr_of es)) in
    let rights = right_findings env (right_of r) in
    adds_as old c.note_right.new.uses.items (lefts ++ rights) (simple_findings env (Assign (map expr_of es) c.args.sign (right_of r)))
    (adds_two old c.note_sides.new.uses.items c.note_right.new.uses.items lefts rights (c.in_ok-note_sides.ensures es h) (a r i))
    (assign_uses env (map expr_of es) c.args.sign (right_of r) c.side_at-side.result (c.args.sign.class == CLASS_DEFINE) refl (c.side_at-side.ensures es h)))
