-- A slice of a thread whose slices are bounded.
use Rattle.std.proofs.Common.{◌≡◌, ◌+◌, ◌^◌, ◌<◌, ◌≤◌, true, Option, Some, None, IfSome}
use Rattle.gv_base.specs.declared.slice_val.SliceVal.{SliceVal}
use Rattle.gv_lang.specs.Plain.{expr_of}
use Rattle.gv_lang.specs.Table.{as_slice}
use Rattle.gv_lang.specs.Threads.{Thread}
use Rattle.gv_lang.specs.Tree.{Expr}
use Rattle.gv_lang.specs.Values.{value}
use Rattle.gv_thread.specs.Frames.{thread_of}
use Rattle.gv_steps.specs.Acting.{or_kind}
use Rattle.gv_steps.specs.Bounds.{is_bounded_thread}
use Rattle.gv_steps.proofs.BoundedRows.{slice_operand}
use Rattle.gv_steps.proofs.operands.bounded_slice.Goals as goal

fits : (th : Thread) (e : Expr) (found : Option SliceVal) → is_bounded_thread th ≡ true → as_slice (value th.top.locals e) ≡ or_kind found
    → IfSome found (λ s. s.length ≤ s.capacity)
fits th e (Some s) h is = (slice_operand th e s h is).0
fits th e None h is = tt

ends : (th : Thread) (e : Expr) (found : Option SliceVal) → is_bounded_thread th ≡ true → as_slice (value th.top.locals e) ≡ or_kind found
    → IfSome found (λ s. s.offset + s.capacity < 2 ^ 63)
ends th e (Some s) h is = (slice_operand th e s h is).1
ends th e None h is = tt

pub returns-clause-fits : goal.returns-clause-fits
returns-clause-fits c = fits (thread_of c.args.thread.now) (expr_of c.args.e.now) c.slice.result c.requires c.slice.ensures

pub returns-clause-ends : goal.returns-clause-ends
returns-clause-ends c = ends (thread_of c.args.thread.now) (expr_of c.args.e.now) c.slice.result c.requires c.slice.ensures
