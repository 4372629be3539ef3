use Rattle.std.proofs.Common.{Some, take}
use Rattle.gv_scriptfaults.specs.Noted.{AreLocals}
use Rattle.gv_scriptfaults.proofs.bodies.note_known_locals.Given as goal

abbrev pub invariant-loop-t : goal.invariant-loop-t
invariant-loop-t l = AreLocals l.text (Some l.facts) (take l.t-index l.ts) l.fn.first l.first
