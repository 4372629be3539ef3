use Rattle.gv_spec.specs.Atomic.{atomic_of}
use Rattle.gv_spec.specs.Walks.{walk_answered}
use Rattle.gv_history.specs.Table.{standing_in}
use Rattle.gv_history.specs.Walker.{walk_in}
use Rattle.gv_history.proofs.WalkerLemmas.{refused_on}
use Rattle.gv_history.proofs.walker.Walker.answer.Goals as goal

pub returns-in_err-replies-clause-step : goal.returns-in_err-replies-clause-step
returns-in_err-replies-clause-step c = λ s.
    refused_on c.args.index c.from_residual.result c.in_err-replies.field-0.0
    (walk_answered (atomic_of s) (walk_in c.args.self.now) c.args.number c.args.reply.now (standing_in c.args.self.now.table c.args.number)) (walk_in c.args.self.now)
    c.from_residual.ensures.1 (c.in_err-replies.ensures.err s)
