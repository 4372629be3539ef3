-- When an outline is justified: each of its blocks leads on, and begins with what is there.
use Rattle.std.specs.Prelude.{◌≡◌, ◌≢◌, ℕ, ◌+◌, ◌<◌, Bool, true, false, List, [], ◌∷◌, ◌++◌, Option, Some, None, Ok, slice_get}
use Rattle.gv_base.specs.declared.slice_val.SliceVal.{SliceVal}
use Rattle.gv_base.specs.declared.val.Val.{Val}
use Rattle.gv_base.specs.declared.val.Val.TheVariants as stored
use Rattle.gv_terms.specs.declared.tree.TermTree.{TermTree}
use Rattle.gv_terms.specs.declared.value.Env.{Env}
use Rattle.gv_terms.specs.declared.value.Value.{Value}
use Rattle.gv_terms.specs.declared.value.Value.TheVariants as val
use Rattle.gv_terms.specs.Ranges.{IsInRange}
use Rattle.gv_terms.specs.Trees.{value_under}
use Rattle.gv_world.specs.Store.{Store as World, zero_store}
use Rattle.gv_lang.specs.Calls.{recovery, reply}
use Rattle.gv_lang.specs.Threads.{Frame, new_frame}
use Rattle.gv_lang.specs.Tree.{Proc}
use Rattle.gv_resources.specs.Kinds as kind
use Rattle.gv_resources.specs.Kinds.{Kind}
use Rattle.gv_resources.specs.Ghost.{Ghost, Owned, Shared}
use Rattle.gv_resources.specs.Pieces.{Resource, Have, Piece, Fits}
use Rattle.gv_resources.specs.Told as resources
use Rattle.gv_resources.specs.Told.{told}
use Rattle.gv_assertions.specs.Atoms.{Instance}
use Rattle.gv_assertions.specs.Kept.{IsDurable, IsPersistent}
use Rattle.gv_assertions.specs.Standing.{AreParts, OwnsSlice}
use Rattle.gv_seats.specs.Paths.{Path, Procedure, Closed, Recovers, Operates, Serves}
use Rattle.gv_seats.specs.Scoping.{variable}
use Rattle.gv_seats.specs.Seats.{Proof, shape_of, IsConsistent, IsInstance, AreOwned, Described, plain}
use Rattle.gv_seats.specs.Soundness.{ArePlain, Owed}
use Rattle.gv_runs.specs.Machine.{procedure, replied}
use Rattle.gv_invariant.specs.Outlines.{Outline, Leads, me}

-- ---- recovery

-- the leases, which a crash makes anew
abbrev pub is_lease : Kind → Bool
is_lease kind.Lease = true
is_lease kind.FieldLease = true
is_lease kind.BookLease = true
is_lease _ = false

-- the piece has every lease that is told
abbrev pub HasLeases : Outline → World → Ghost → Piece → Type 0
HasLeases o w g p = (k : Kind) (key v : List Value) → is_lease k ≡ true → told (shape_of o.proof) w g k key ≡ Some v → 0 < p (Have k key v)

-- after a crash recovery's frame stands where its block begins: with the crash invariant, and all leases
abbrev pub BeginsAnew : Outline → Type 0
BeginsAnew o = (w : World) (g : Ghost) (q r p : Piece) → IsConsistent o.proof w g → AreParts q r p → IsInstance o.proof.preds o.proof.crash [] q → HasLeases o w g r
    → (values : Env) × Described o.proof.preds values values o.recovers (recovery o.program).top p

-- ---- before the first event

-- every disk of zeros, and no object
abbrev pub first_world : Outline → World
first_world o = zero_store o.setting.disks o.setting.blocks

-- The crash invariant stands there, beside a record of an empty history: that is what a proof's first block gives.
pub record BeginsFirst (o : Outline) : Type 0 where
  pub ghost : Ghost
  pub history : ghost.history ≡ []
  pub calls : ghost.calls ≡ 0
  pub consistent : IsConsistent o.proof (first_world o) ghost
  pub pool : Piece
  pub fits : Fits pool (told (shape_of o.proof) (first_world o) ghost)
  pub stands : IsInstance o.proof.preds o.proof.crash [] pool

-- ---- calls

-- the arguments of a call as its locals hold them, and its piece has their buffers
pub data HasArguments : List Value → List Val → Piece → Type 0 where
  no_argument : {p : Piece} → HasArguments [] [] p
  plain_argument : {x : Value} {v : Val} {args : List Value} {vs : List Val} {p : Piece} → plain v ≡ Some x → IsInRange x → HasArguments args vs p → HasArguments (x ∷ args) (v ∷ vs) p
  a_buffer : {bytes : List ℕ} {s : SliceVal} {args : List Value} {vs : List Val} {p : Piece} (q r : Piece) → AreParts q r p → OwnsSlice false s (val.Bytes bytes) q
      → IsInRange (val.Bytes bytes) → HasArguments args vs r → HasArguments (val.Bytes bytes ∷ args) (stored.Slice s ∷ vs) p

-- what a call has at first: what calls are made on, its token, and the buffers of its arguments
pub record HasCall (o : Outline) (call op : ℕ) (object : ℕ) (args : List Value) (vs : List Val) (p : Piece) : Type 0 where
  pub handle : Piece
  pub token : Piece
  pub buffers : Piece
  pub parts : (e : Resource) → handle e + (token e + buffers e) ≡ p e
  pub stands : IsInstance o.proof.preds o.proof.root (val.Ref object ∷ []) handle
  pub may_act : 0 < token (Have kind.Token (val.Call call ∷ []) (val.Word op ∷ args))
  pub arguments : HasArguments args vs buffers

-- the frame of a call stands where its operation's block begins
pub record BeginsCall (o : Outline) (op call : ℕ) (f : Frame) (p : Piece) : Type 0 where
  pub path : Path
  pub is : slice_get o.operates op ≡ Some path
  pub values : Env
  pub is_call : value_under values (variable me) ≡ val.Call call
  pub described : Described o.proof.preds values values path f p

-- where calls are allowed and have a procedure, they do
abbrev pub BeginsCalls : Outline → Type 0
BeginsCalls o = (op call object f : ℕ) (proc : Proc) (args : List Value) (vs : List Val) (p : Piece) → o.proof.atomic.allows op args ≡ true → procedure o.program o.setting op ≡ Some f
    → slice_get o.program.procs f ≡ Some proc → HasCall o call op object args vs p → BeginsCall o op call (new_frame f proc (stored.Ref object ∷ vs) []) p

-- what an operation owes when it returns tells the reply that its act kept, and that is what the call answers
pub record Replies (w : World) (call : ℕ) (vs : List Val) (part : Piece) : Type 0 where
  pub answer : Value
  pub value : List Value
  pub told : resources.replied (Some answer) ≡ Some value
  pub acted : 0 < part (Have kind.Done (val.Call call ∷ []) value)
  pub answers : replied (reply w vs) ≡ Ok answer

abbrev pub AnswersCalls : Outline → Procedure → Type 0
AnswersCalls o p = (w : World) (g : Ghost) (call : ℕ) (start : Env) (results : List Value) (vs : List Val) (part rest : Piece) → value_under start (variable me) ≡ val.Call call
    → ArePlain vs results → Owed o.proof p start results part → Fits (λ e. part e + rest e) (told (shape_of o.proof) w g) → AreOwned w rest → Replies w call vs part

-- ---- all of it

pub record IsJustified (o : Outline) : Type 0 where
  pub recovers : Leads o false o.recovers
  pub operates : (op : ℕ) (h : Path) → slice_get o.operates op ≡ Some h → Leads o false h
  pub blocks : (n : ℕ) (h : Path) → slice_get o.blocks n ≡ Some h → Leads o false h
  -- blocks begin with a closed bracket, recovery's in own mode and operations' in shared mode
  pub recovery : (o.recovers.procedure.role ≡ Recovers) × (o.recovers.mode ≡ Owned) × (o.recovers.bracket ≡ Closed) × (o.recovers.procedure.crash ≡ Some (Instance o.proof.crash []))
  pub operation : (op : ℕ) (h : Path) → slice_get o.operates op ≡ Some h → (h.procedure.role ≡ Operates) × (h.mode ≡ Shared) × (h.bracket ≡ Closed)
  -- the crash invariant outlives a crash, and what calls are made on may be copied
  pub durable : IsDurable o.proof.preds (Instance o.proof.crash [])
  pub persistent : (args : List TermTree) → IsPersistent o.proof.preds (Instance o.proof.root args)
  pub begins : BeginsAnew o
  pub calls : BeginsCalls o
  pub answers : (op : ℕ) (h : Path) → slice_get o.operates op ≡ Some h → AnswersCalls o h.procedure
