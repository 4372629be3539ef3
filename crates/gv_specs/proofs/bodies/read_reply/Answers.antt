use Rattle.std.proofs.Common.{Option, None, is_some, sym, subst}
use Rattle.gv_specread.specs.declared.tree.ReplyTree.{ReplyTree}
use Rattle.gv_specs.specs.Faults.{HasReplyFault}
use Rattle.gv_specs.specs.Spelled as spelled
use Rattle.gv_specs.specs.Spelled.{IsReply}
use Rattle.gv_specs.specs.Told.{Adds}
use Rattle.gv_specs.proofs.Noted.{wanted_noted}
use Rattle.gv_specs.proofs.Scopes.{turned_round}
use Rattle.gv_specs.proofs.bodies.read_reply.Goals as goal

pub returns-in-None-clause-noted : goal.returns-in-None-clause-noted
returns-in-None-clause-noted c =
    subst (λ (o : Option ReplyTree). Adds (HasReplyFault c.args.vars.now c.args.wanted c.args.start o) c.args.first.now c.want.new.first) (sym c.in-None.is)
    (wanted_noted c.args.vars.now c.args.wanted c.args.start c.is_none.result c.args.first.now c.want.new.first (turned_round (is_some c.args.wanted) c.is_none.result c.is_none.ensures) c.want.ensures)

pub returns-in-None-clause-read : goal.returns-in-None-clause-read
returns-in-None-clause-read c = λ e. subst (λ (o : Option ReplyTree). IsReply c.args.store.now c.args.vars.now o None) (sym c.in-None.is) spelled.no_reply
