use Rattle.std.proofs.Common.{sym}
use Rattle.gv_goheads.proofs.heads.receiver_at.Goals as goal

pub returns-in-NoReceiver : goal.returns-in-NoReceiver
returns-in-NoReceiver c = λ r h. sym (c.in-NoReceiver.ensures r h)

pub returns-in-Receiver : goal.returns-in-Receiver
returns-in-Receiver c = λ r h. sym (c.in-Receiver.ensures r h)
