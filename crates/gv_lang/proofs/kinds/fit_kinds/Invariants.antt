use Rattle.std.proofs.Common.{◌≡◌, map, length}
use Rattle.gv_lang.specs.Plain.{exprs_of}
use Rattle.gv_lang.specs.Kinds.{agree_all, kind_of}
use Rattle.gv_lang.proofs.kinds.fit_kinds.Given as goal

abbrev pub invariant-loop-left : goal.invariant-loop-left
invariant-loop-left l = agree_all (map (kind_of l.locals) (exprs_of l.left)) l.places ≡ agree_all (map (kind_of l.locals) (exprs_of l.initial.left)) l.initial.places

abbrev pub decreases-loop-left : goal.decreases-loop-left
decreases-loop-left l = length l.left
