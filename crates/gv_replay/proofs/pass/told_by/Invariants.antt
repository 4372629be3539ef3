use Rattle.std.proofs.Common.{◌≡◌, length}
use Rattle.gv_base.specs.Tokens.{AreSpans}
use Rattle.gv_replay.specs.Progress.{told_from}
use Rattle.gv_replay.specs.Reading.{told_by}
use Rattle.gv_replay.specs.Sights.{sights_from}
use Rattle.gv_replay.proofs.pass.told_by.Given as goal

abbrev pub invariant-loop-left : goal.invariant-loop-left
invariant-loop-left g l = record {
  spans : AreSpans l.behind (length l.text) l.left;
  same : told_from (g.A.Account.with_line l.spec) l.kind (length l.text) l.progress (sights_from l.text l.behind l.left)
      ≡ told_by (g.A.Account.with_line l.spec) l.fn.start l.kind l.text l.tokens;
}

abbrev pub decreases-loop-left : goal.decreases-loop-left
decreases-loop-left g l = length l.left
