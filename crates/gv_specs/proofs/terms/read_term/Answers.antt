use Rattle.std.proofs.Common.{subst}
use Rattle.gv_terms.specs.Values.{is_sort}
use Rattle.gv_typing.specs.Placing.{HasTermFault, IsCause}
use Rattle.gv_specs.proofs.Firsts.{adds_nothing, adds_first, never_untold}
use Rattle.gv_specs.proofs.terms.read_term.Goals as goal

pub returns-in-Ok-clause-noted : goal.returns-in-Ok-clause-noted
returns-in-Ok-clause-noted c = adds_nothing (HasTermFault c.args.vars.now (is_sort c.args.sort) c.args.term.now) c.args.first.now c.in-Ok.ensures.faultless

pub returns-in-Ok-clause-read : goal.returns-in-Ok-clause-read
returns-in-Ok-clause-read c = λ _. record { within = c.in-Ok.ensures.within; same = c.in-Ok.ensures.tree }

pub returns-in-Err-At-clause-noted : goal.returns-in-Err-At-clause-noted
returns-in-Err-At-clause-noted c =
    adds_first (HasTermFault c.args.vars.now (is_sort c.args.sort) c.args.term.now) c.in-Err-At.start c.in-Err-At.code c.args.first.now c.note.new.first
    (subst (IsCause (HasTermFault c.args.vars.now (is_sort c.args.sort) c.args.term.now)) c.in-Err-At.field-0-is c.in-Err-At.ensures.cause) c.note.ensures

pub returns-in-Err-At-clause-read : goal.returns-in-Err-At-clause-read
returns-in-Err-At-clause-read c = λ e. absurd (never_untold c.in-Err-At.start c.in-Err-At.code c.args.first.now c.note.new.first c.note.ensures e)
