-- The frames of a thread: the one that runs stands at a path, and those below it wait in turn.
use Rattle.std.specs.Prelude.{◌≡◌, ℕ, Bool, true, false, List, [], ◌∷◌, Some, slice_get}
use Rattle.gv_base.specs.declared.answers.Place.{Place}
use Rattle.gv_base.specs.declared.answer.Answer.TheVariants.{Next}
use Rattle.gv_base.specs.declared.slice_val.SliceVal.{SliceVal}
use Rattle.gv_base.specs.declared.val.Val.{Val}
use Rattle.gv_base.specs.declared.val.Val.TheVariants as stored
use Rattle.gv_terms.specs.declared.value.Env.{Env}
use Rattle.gv_terms.specs.declared.value.Value.TheVariants as val
use Rattle.gv_terms.specs.Trees.{value_under}
use Rattle.gv_world.specs.Slices.{has_spare}
use Rattle.gv_world.specs.Store.{Store as World}
use Rattle.gv_lang.specs.declared.program.ItemKind.{ItemKind}
use Rattle.gv_lang.specs.Tree.{Expr, Append, Do}
use Rattle.gv_lang.specs.Todo.{Todo, Run}
use Rattle.gv_lang.specs.Table.{as_item}
use Rattle.gv_lang.specs.Threads.{Frame, Thread}
use Rattle.gv_lang.specs.Values.{value}
use Rattle.gv_spec.specs.Runs as runs
use Rattle.gv_resources.specs.Ghost.{Mode, Owned, Shared}
use Rattle.gv_resources.specs.Pieces.{Resource, Piece}
use Rattle.gv_assertions.specs.Atoms.{Instance}
use Rattle.gv_assertions.specs.Standing.{AreParts}
use Rattle.gv_instances.specs.Instances.{Given, given_under}
use Rattle.gv_instances.specs.Agreeing.{AgreeOnVars}
use Rattle.gv_seats.specs.Paths.{Path, Procedure, Closed, Recovers, Operates, Serves}
use Rattle.gv_seats.specs.Scoping.{variable}
use Rattle.gv_seats.specs.Seats.{Described, Target, Writes, OwnsTarget}
use Rattle.gv_seats.specs.Soundness.{IsSoundAnswer, IsSoundWrite}
use Rattle.gv_invariant.specs.Outlines.{Outline, Leads, AllFollow, LeavesMeanwhile, MayLeaveClosed, IsBeside, me}

-- the procedure of an operation
pub record IsOperation (o : Outline) (p : Procedure) : Type 0 where
  pub op : ℕ
  pub path : Path
  pub there : slice_get o.operates op ≡ Some path
  pub is : path.procedure ≡ p

-- what a thread's first frame is there for: recovery, the answer of a call, or nothing that anyone waits for
abbrev pub Begins : Outline → Mode → runs.Role → Procedure → Env → Type 0
Begins o mode runs.Recovers p values = (p.role ≡ Recovers) × (mode ≡ Owned → p.crash ≡ Some (Instance o.proof.crash []))
Begins o mode (runs.Answers call) p values = (p.role ≡ Operates) × (mode ≡ Shared) × (value_under values (variable me) ≡ val.Call call) × IsOperation o p
Begins o mode runs.Spawned p values = (p.role ≡ Serves) × (mode ≡ Shared)

-- a frame waits for one of a procedure whose block began with these values, and whose results are for these locals
pub record Waits (o : Outline) (mode : Mode) (f : Frame) (start : Env) (p : Procedure) (values : Env) (targets : List ℕ) (piece : Piece) : Type 0 where
  pub waiting : Path
  pub behind : Path
  pub env : Env
  pub given : List Given
  pub described : Described o.proof.preds start env waiting f piece
  pub linked : AgreeOnVars values (given_under given env) p.start
  pub answers : IsSoundAnswer o.proof waiting given p targets behind
  pub bracket : waiting.bracket ≡ Closed
  pub in_mode : waiting.mode ≡ mode
  pub follows : IsBeside waiting behind
  pub meanwhile : mode ≡ Owned → LeavesMeanwhile o waiting given p
  pub leads : Leads o true behind

-- the frames below one of a procedure, each with a part of what they own
pub data Below (o : Outline) (mode : Mode) (role : runs.Role) : List Frame → Procedure → Env → List ℕ → Piece → Type 0 where
  first : {p : Procedure} {values : Env} {targets : List ℕ} {piece : Piece} → Begins o mode role p values → Below o mode role [] p values targets piece
  waits : {f : Frame} {below : List Frame} {p : Procedure} {values : Env} {targets : List ℕ} {piece : Piece} (start : Env) (mine lower : Piece) → AreParts mine lower piece → p.role ≡ Serves
      → (w : Waits o mode f start p values targets mine) → Below o mode role below w.waiting.procedure start f.results lower → Below o mode role (f ∷ below) p values targets piece

-- the frame that runs, at a path with a closed bracket, and those below it
pub record Stack (o : Outline) (mode : Mode) (role : runs.Role) (f : Frame) (below : List Frame) (h : Path) (piece : Piece) : Type 0 where
  pub start : Env
  pub env : Env
  pub mine : Piece
  pub lower : Piece
  pub parts : AreParts mine lower piece
  pub bracket : h.bracket ≡ Closed
  pub in_mode : h.mode ≡ mode
  pub described : Described o.proof.preds start env h f mine
  pub rest : Below o mode role below h.procedure start f.results lower

-- where its next command is an append, there is a spare cell for the item
abbrev pub HasRoom : World → Frame → Type 0
HasRoom w f = (x : ℕ) (item : ItemKind) (s v : Expr) (at : Place) (next : Todo) (slice : SliceVal) (kept : Val) → f.todo ≡ Run (Do (Append x item s v) at) ∷ next
    → value f.locals s ≡ Some (stored.Slice slice) → as_item item (value f.locals v) ≡ Next kept → has_spare w slice kept ≡ true

-- A thread at rest is at a path that leads on; in the middle of a write its frame owns what it writes, an append has a spare cell, and the write is sound.
pub data IsReady (o : Outline) (w : World) (mode : Mode) (role : runs.Role) (piece : Piece) : Thread → Type 0 where
  at_rest : {f : Frame} {below : List Frame} (b : Bool) (h : Path) → Stack o mode role f below h piece → Leads o b h → IsReady o w mode role piece (record { top = f; below = below; begun = false })
  in_write : {f : Frame} {below : List Frame} (h : Path) (ks : List Path) → (s : Stack o mode role f below h piece) → MayLeaveClosed o h → IsSoundWrite o.proof h ks → AllFollow o h ks
      → ((t : Target) → Writes f t → OwnsTarget s.mine t) → HasRoom w f → IsReady o w mode role piece (record { top = f; below = below; begun = true })
