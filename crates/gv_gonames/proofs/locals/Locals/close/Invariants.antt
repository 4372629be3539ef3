use Rattle.std.proofs.Common.{◌≡◌, ◌∷◌, true, ◌+◌, length, cond}
use Rattle.std.specs.Bool.{OnTrue, OnFalse}
use Rattle.gv_gonames.specs.Trail.{is_around}
use Rattle.gv_gonames.proofs.locals.Locals.close.Given as goal

abbrev pub invariant-loop-ended : goal.invariant-loop-ended
invariant-loop-ended l = record {
  open_still : OnFalse l.ended (l.self.outer ≡ l.fn.self.outer);
  around : is_around l.fn.self.outer ≡ true;
  closed : OnTrue l.ended (l.fn.self.outer ≡ l.self.here ∷ l.self.outer);
}

abbrev pub decreases-loop-ended : goal.decreases-loop-ended
decreases-loop-ended l = length l.self.here.entries + cond l.ended 0 1
