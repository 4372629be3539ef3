use Rattle.std.proofs.Common.{Bool, Option, sym, ap, ◌∙◌}
use Rattle.gv_operands.specs.declared.part.Part.{Part}
use Rattle.gv_gotypes.specs.Trees.{expr_of}
use Rattle.gv_gotypes.specs.Places.{start_of}
use Rattle.gv_gotypes.specs.Expressions.{operand}
use Rattle.gv_gotypes.specs.Assigning.{is_map_read, read_findings}
use Rattle.gv_gotyped.specs.First.{first_of}
use Rattle.gv_gotyped.proofs.Firsts.{first_of_two}
use Rattle.gv_gosimple.proofs.Results.{other_value}
use Rattle.gv_gosimple.proofs.rights.several_fault.Goals as goal

pub returns : goal.returns
returns g c = λ e ts h w n.
    let env = g.N.Names.env c.args.names.now in
    let o = operand env (expr_of e) in
    let known = c.operand_at-known.result in
    let k = c.operand_at-known.ensures e h in
    c.earliest.ensures
    ∙ first_of_two o.findings (read_findings ts (is_map_read env (expr_of e)) o.class c.args.statement (start_of (expr_of e))) known.first c.read_fault-misfit.result k.first
    (c.read_fault-misfit.ensures ts w
    ∙ ap (λ (r : Option Bool). first_of (read_findings ts r known.part.class c.args.statement known.part.spot.start)) (c.map_read_at-read.ensures e h)
    ∙ ap (λ (p : Part). first_of (read_findings ts (is_map_read env (expr_of e)) p.class c.args.statement p.spot.start)) k.part)
    ∙ sym (ap first_of (other_value env ts c.args.statement (expr_of e) n))
