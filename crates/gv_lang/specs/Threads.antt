-- Threads and their frames.
use Rattle.std.specs.Prelude.{ℕ, Bool, false, List, [], ◌++◌, map, drop}
use Rattle.gv_base.specs.declared.val.Val.{Val}
use Rattle.gv_base.specs.declared.val.Val.TheVariants as val
use Rattle.gv_world.specs.Slices.{nil_slice}
use Rattle.gv_lang.specs.declared.program.LocalKind.{LocalKind}
use Rattle.gv_lang.specs.declared.program.LocalKind.TheVariants as kind
use Rattle.gv_lang.specs.Tree.{Proc}
use Rattle.gv_lang.specs.Todo.{Todo, put}

pub record Frame : Type 0 where
  -- the place of the procedure that it runs
  pub proc : ℕ
  pub locals : List Val
  pub todo : Todo
  -- the locals of the frame below that its results are for
  pub results : List ℕ

pub record Thread : Type 0 where
  pub top : Frame
  pub below : List Frame
  -- the next command of the top frame has made the first of its two steps
  pub begun : Bool

-- the zero of a kind
abbrev pub zero_of : LocalKind → Val
zero_of kind.Word = val.Word 0
zero_of kind.Bool = val.Bool false
zero_of kind.Ref = val.Ref 0
zero_of kind.Slice = val.Slice nil_slice

-- a parameter is at first its argument, every other local the zero of its kind
abbrev pub new_frame : ℕ → Proc → List Val → List ℕ → Frame
new_frame f p args results = record {
  proc = f;
  locals = args ++ map (λ x. zero_of x.kind) (drop p.params p.locals);
  todo = put p.body [];
  results = results;
}

-- a thread that is about to run a procedure
abbrev pub thread_of : Frame → Thread
thread_of frame = record { top = frame; below = []; begun = false }
