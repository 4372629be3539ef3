use Rattle.std.proofs.Common.{length, take}
use Rattle.gv_scriptfaults.specs.Tables.{IsTable}
use Rattle.gv_scriptfaults.proofs.known.ops_of.Given as goal

abbrev pub invariant-loop-op : goal.invariant-loop-op
invariant-loop-op l = IsTable (λ o. o.name) (λ o. length o.params) (take l.op-index l.ops) l.table
