use Rattle.std.proofs.Common.{◌≡◌, ◌≤◌}
use Rattle.gv_small.specs.Cursor.{tokens_left, bytes_left}
use Rattle.gv_small.proofs.cursor.Cursor.pass_blanks.Given as goal

abbrev pub invariant-loop-self : goal.invariant-loop-self
invariant-loop-self l = record {
  kept : tokens_left l.initial.self ≡ tokens_left l.self;
  fewer : bytes_left l.self ≤ bytes_left l.initial.self;
}

abbrev pub decreases-loop-self : goal.decreases-loop-self
decreases-loop-self l = bytes_left l.self
