-- What is still to be assigned, assigned to the locals so far.
use Rattle.std.proofs.Common.{◌≡◌, length}
use Rattle.gv_lang.specs.Step.{assigned}
use Rattle.gv_thread.specs.Frames.{frame_of}
use Rattle.gv_thread.proofs.frame.Frame.assign.Given as goal

abbrev pub invariant-loop-places : goal.invariant-loop-places
invariant-loop-places l =
    record (frame_of l.self) { locals = assigned (frame_of l.self).locals l.places l.rest }
    ≡ record (frame_of l.initial.self) { locals = assigned (frame_of l.initial.self).locals l.xs l.values }

abbrev pub decreases-loop-places : goal.decreases-loop-places
decreases-loop-places l = length l.places
