-- The locals so far, and the zeros of the others, are the arguments and the zeros of all.
use Rattle.std.proofs.Common.{◌≡◌, ◌++◌, length, map, drop}
use Rattle.gv_lang.specs.Threads.{zero_of}
use Rattle.gv_thread.proofs.frame.Frame.new.Given as goal

abbrev pub invariant-loop-rest : goal.invariant-loop-rest
invariant-loop-rest l = l.locals.items ++ map (λ x. zero_of x.kind) l.rest ≡ l.fn.args.items ++ map (λ x. zero_of x.kind) (drop l.fn.proc.params l.fn.proc.locals)

abbrev pub decreases-loop-rest : goal.decreases-loop-rest
decreases-loop-rest l = length l.rest
