-- Both parts stand in place of the last one's command.
use Rattle.std.proofs.Common.{rules, arith}
use Rattle.gv_thread.proofs.Parts.{two_for_last, two_behind}
use Rattle.gv_thread.proofs.todo.Todo.put_both.Goals as goal

pub returns-in_ok-push_both-in-Some-clause-ok : goal.returns-in_ok-push_both-in-Some-clause-ok
returns-in_ok-push_both-in-Some-clause-ok c =
    two_behind c.args.self.now.parts.items c.push_both-in-Some.new.self.parts.items c.len-count.result c.index.result.now c.in-Some.left c.args.low c.args.high
    (search rules) (omega arith) c.index.ensures c.in-Some.ensures c.in_ok-push_both-in-Some.ensures.ok

pub returns-in_ok-push-in-None-clause-ok : goal.returns-in_ok-push-in-None-clause-ok
returns-in_ok-push-in-None-clause-ok c =
    two_for_last c.args.self.now.parts.items c.push.new.self.items c.len-count.result c.index.result.now c.args.low c.args.high
    (search rules) (omega arith) c.index.ensures c.in-None.ensures c.in_ok-push-in-None.ensures.items
