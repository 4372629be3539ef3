-- The procedures so far, and those of the operations that are left, are all.
use Rattle.std.proofs.Common.{◌≡◌, [], ◌∷◌, ◌++◌, length, map}
use Rattle.gv_lang.specs.Plain.{proc_of}
use Rattle.gv_smallprogram.specs.Program.{nowhere, recovery_proc, method_proc}
use Rattle.gv_smallprogram.proofs.program.procs.Given as goal

abbrev pub invariant-loop-left : goal.invariant-loop-left
invariant-loop-left l = map proc_of l.procs.items ++ map (method_proc [] [] nowhere) l.left ≡ recovery_proc nowhere ∷ map (method_proc [] [] nowhere) l.fn.ops

abbrev pub decreases-loop-left : goal.decreases-loop-left
decreases-loop-left l = length l.left
