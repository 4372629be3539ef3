-- Frames and threads as those of the definitions.
use Rattle.std.specs.Prelude.{List, [], ◌∷◌, fold}
use Rattle.gv_lang.specs.Threads as plain
use Rattle.gv_thread.specs.declared.frame.Frame.{Frame}
use Rattle.gv_thread.specs.declared.frame.Thread.{Thread}
use Rattle.gv_thread.specs.Parts.{todo_of}

abbrev pub frame_of : Frame → plain.Frame
frame_of f = record { proc = f.proc; locals = f.locals.items; todo = todo_of f.todo; results = f.results.now }

abbrev pub above : List plain.Frame → Frame → List plain.Frame
above below f = frame_of f ∷ below

-- the last frame comes first
abbrev pub frames_of : List Frame → List plain.Frame
frames_of frames = fold above [] frames

abbrev pub thread_of : Thread → plain.Thread
thread_of t = record { top = frame_of t.top; below = frames_of t.below.items; begun = t.begun }
