use Rattle.std.proofs.Common.{ap, ◌∙◌}
use Rattle.std.specs.Prelude.{option_map}
use Rattle.gv_gotypes.specs.Trees.{expr_of, simple_of}
use Rattle.gv_gotypes.specs.Scopes.{Env}
use Rattle.gv_gotypes.specs.Statements.{part_findings, condition_findings, part_after}
use Rattle.gv_gotyped.specs.First.{first_of}
use Rattle.gv_gotyped.proofs.Firsts.{first_of_lists}
use Rattle.gv_gostmts.proofs.blocks.header_fault.Goals as goal

pub returns-clause-told : goal.returns-clause-told
returns-clause-told g c = λ a d b h i j.
    let old = g.N.Names.env c.args.names.now in
    let env = part_after old (option_map simple_of a) in
    let seen = c.in_ok-declare_part.ensures.env a h in
    c.earliest.ensures
    ∙ first_of_lists (part_findings old (option_map simple_of a)) (condition_findings env (option_map expr_of b)) (part_findings env (option_map simple_of d))
    c.in_ok-begun.begun c.condition_fault-tested.result c.in_ok-ended.ended c.earliest-more.result
    (c.in_ok-begun.ensures a h)
    (c.condition_fault-tested.ensures b i ∙ ap (λ (e : Env). first_of (condition_findings e (option_map expr_of b))) seen)
    (c.in_ok-ended.ensures d j ∙ ap (λ (e : Env). first_of (part_findings e (option_map simple_of d))) seen)
    c.earliest-more.ensures

pub returns-clause-env : goal.returns-clause-env
returns-clause-env g c = c.in_ok-declare_part.ensures.env

pub returns-clause-outer : goal.returns-clause-outer
returns-clause-outer g c = c.in_ok-declare_part.ensures.outer
