use Rattle.std.proofs.Common.{◌≡◌, map, length}
use Rattle.gv_lang.specs.Kinds.{agree_all, kind_at}
use Rattle.gv_lang.proofs.kinds.fit_results.Given as goal

abbrev pub invariant-loop-left : goal.invariant-loop-left
invariant-loop-left l = agree_all (map (kind_at l.locals) l.left) l.places ≡ agree_all (map (kind_at l.locals) l.initial.left) l.initial.places

abbrev pub decreases-loop-left : goal.decreases-loop-left
decreases-loop-left l = length l.left
