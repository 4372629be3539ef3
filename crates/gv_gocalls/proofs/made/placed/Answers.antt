use Rattle.std.proofs.Common.{ap, ◌∙◌}
use Rattle.gv_operands.specs.declared.part.Part.{Part}
use Rattle.gv_gotypes.specs.Places.{spot_of, in_place}
use Rattle.gv_gotypes.specs.Expressions.{operand}
use Rattle.gv_gotyped.specs.First.{first_of}
use Rattle.gv_gotyped.proofs.Firsts.{first_of_two}
use Rattle.gv_gocalls.proofs.made.placed.Goals as goal

pub returns : goal.returns
returns c = λ env e k.
    let o = operand env e in
    c.earliest.ensures
    ∙ first_of_two o.findings (in_place (spot_of e) c.args.want o.class) c.args.known.first c.in_place-misfit.result k.first
    (c.in_place-misfit.ensures ∙ ap (λ (p : Part). first_of (in_place p.spot c.args.want p.class)) k.part)
