-- The last frame's next command is passed.
use Rattle.std.proofs.Common.{rules, arith, ap}
use Rattle.gv_thread.specs.declared.frame.Frame.{Frame}
use Rattle.gv_thread.specs.Frames.{frame_of}
use Rattle.gv_thread.proofs.Stacks.{last_past}
use Rattle.gv_thread.proofs.frame.advance_last.Goals as goal

pub returns : goal.returns
returns c =
    let f = c.index_mut.result.now in
    let g : Frame = record { proc = f.proc; locals = f.locals; todo = c.advance.new.self; results = f.results } in
    last_past c.args.frames.now.items c.len-count.result f g (search rules) (omega arith) c.index_mut.ensures.value
    (ap (λ t. record (frame_of f) { todo = t }) c.advance.ensures)
