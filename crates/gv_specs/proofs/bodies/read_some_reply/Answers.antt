use Rattle.std.proofs.Common.{Option, sym, subst}
use Rattle.gv_terms.specs.declared.sort.Sort.{Sort}
use Rattle.gv_base.specs.declared.answers.Code.TheVariants as code
use Rattle.gv_specs.specs.Faults.{HasReplyFault}
use Rattle.std.proofs.Common.{Some}
use Rattle.gv_specs.specs.Spelled as spelled
use Rattle.gv_specs.specs.Told.{Adds}
use Rattle.gv_specs.proofs.Firsts.{never_untold}
use Rattle.gv_specs.proofs.Noted.{reply_noted, unwanted_noted}
use Rattle.gv_specs.proofs.bodies.read_some_reply.Goals as goal

pub returns-in_ok-term-in-Some-clause-noted : goal.returns-in_ok-term-in-Some-clause-noted
returns-in_ok-term-in-Some-clause-noted c =
    subst (λ (o : Option Sort). Adds (HasReplyFault c.args.vars.now o c.args.start (Some c.args.reply.now)) c.args.first.now c.read_term.new.first) (sym c.in-Some.is)
    (reply_noted c.args.vars.now c.in-Some.sort c.args.start c.args.reply.now c.args.first.now c.read_term.new.first c.in_ok-term-in-Some.ensures.noted)

pub returns-in_ok-term-in-Some-clause-read : goal.returns-in_ok-term-in-Some-clause-read
returns-in_ok-term-in-Some-clause-read c = λ e. spelled.written_reply c.args.reply.now c.in_ok-term-in-Some.term (c.in_ok-term-in-Some.ensures.read e)

pub returns-in-None-clause-noted : goal.returns-in-None-clause-noted
returns-in-None-clause-noted c = unwanted_noted c.args.vars.now c.args.wanted c.args.start c.args.reply.now c.args.first.now c.note.new.first c.in-None.is c.note.ensures

pub returns-in-None-clause-read : goal.returns-in-None-clause-read
returns-in-None-clause-read c = λ e. absurd (never_untold c.args.start code.WrongCount c.args.first.now c.note.new.first c.note.ensures e)
