use Rattle.std.proofs.Common.{◌≡◌, ◌<◌, List, Some, length, take, sym, ap, subst, ◌∙◌, arith}
use Rattle.std.specs.Prelude.{slice_get}
use Rattle.gv_lang.specs.declared.program.Proc.{Proc}
use Rattle.gv_scriptfaults.specs.Scoped.{ArePlaces}
use Rattle.gv_scriptfaults.proofs.Meeting.{taken}
use Rattle.gv_scriptfaults.proofs.Lookups.{place_more, got}
use Rattle.gv_scriptfaults.proofs.known.places_of.Goals as goal

pub loop-p-preserved : goal.loop-p-preserved
loop-p-preserved c =
    let procs = c.args.procs.now in
    let k = c.loop-p.p-index in
    let x = c.p-item.result in
    let lt : k < length procs = omega arith in
    let there : slice_get procs c.loop-p.at ≡ Some x = ap (slice_get procs) c.loop-p.invariant.count ∙ got procs k x lt c.p-item.is in
    record {
      count = let e = c.loop-p.invariant.count in omega (arith, e);
      places = subst (λ (ps : List Proc). ArePlaces procs ps c.keep.new.self) (sym (taken procs k x lt c.p-item.is))
          (place_more procs (take k procs) x c.loop-p.at _ c.loop-p.table c.keep.new.self c.in_ok-copy.ensures there c.in_ok-keep.ensures c.loop-p.invariant.places);
    }
