use Rattle.std.proofs.Common.{Bool, subst, ◌∙◌}
use Rattle.gv_base.specs.declared.answers.Code.TheVariants as code
use Rattle.gv_specs.specs.Told.{Adds, IsFaultUnless}
use Rattle.std.specs.HashSet.{contains}
use Rattle.std.specs.Str.{bytes_eq}
use Rattle.gv_specs.proofs.Assigned.{was_or_is}
use Rattle.gv_specs.proofs.bodies.keep_assigned.Goals as goal

pub returns-clause-noted : goal.returns-clause-noted
returns-clause-noted c = subst (λ (b : Bool). Adds (IsFaultUnless b c.args.start code.Twice) c.args.first.now c.want.new.first) c.in_ok-new.ensures.added c.want.ensures

pub returns-clause-kept : goal.returns-clause-kept
returns-clause-kept c = λ n. c.in_ok-new.ensures.updates.0 n ∙ was_or_is c.args.name n (contains bytes_eq c.args.assigned.now n)
