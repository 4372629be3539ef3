use Rattle.std.proofs.Common.{take}
use Rattle.gv_lang.specs.Plain.{program_of}
use Rattle.gv_lang.specs.WellShaped.{method_at}
use Rattle.gv_scriptfaults.specs.Tables.{IsTable}
use Rattle.gv_scriptfaults.proofs.known.methods_of.Given as goal

abbrev pub invariant-loop-op : goal.invariant-loop-op
invariant-loop-op l = IsTable (method_at (program_of l.program)) (λ op. op) (take l.op-index l.program.ops) l.table
