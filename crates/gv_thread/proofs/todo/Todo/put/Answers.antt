-- The part stands in place of the last one.
use Rattle.std.proofs.Common.{rules, arith}
use Rattle.gv_thread.proofs.Parts.{one_for_last}
use Rattle.gv_thread.proofs.todo.Todo.put.Goals as goal

pub returns-in-None-clause-ok : goal.returns-in-None-clause-ok
returns-in-None-clause-ok c =
    one_for_last c.args.self.now.parts.items c.len-count.result c.index.result.now c.args.part (search rules) (omega arith) c.index.ensures c.in-None.ensures
