-- One frame of one thread beside all that others own: when a state is as a path of a proof says.
use Rattle.std.specs.Prelude.{◌≡◌, ◌≢◌, ◌⊎◌, ℕ, suc, ◌+◌, ◌<◌, ◌≤◌, Bool, true, false, List, [], ◌∷◌, Option, Some, None, Ok, All, length, slice_get}
use Rattle.gv_base.specs.declared.val.Val.{Val}
use Rattle.gv_base.specs.declared.val.Val.TheVariants as stored
use Rattle.gv_base.specs.declared.slice_val.SliceVal.{SliceVal}
use Rattle.gv_terms.specs.declared.tree.TermTree.{TermTree}
use Rattle.gv_terms.specs.declared.value.Value.{Value}
use Rattle.gv_terms.specs.declared.value.Value.TheVariants as val
use Rattle.gv_terms.specs.declared.value.Env.{Env}
use Rattle.gv_terms.specs.Trees.{value_under}
use Rattle.gv_world.specs.declared.cell.Cell.{Cell}
use Rattle.gv_world.specs.Store as world
use Rattle.gv_world.specs.Store.{Object, Disk, Store as World, block_bytes}
use Rattle.gv_world.specs.Slices.{spare_place, has_spare}
use Rattle.gv_spec.specs.Specification.{Specification}
use Rattle.gv_spec.specs.Move.{entries_of}
use Rattle.gv_spec.specs.Walks.{NeverCalled, Called, Acted, first_walk, walk_from}
use Rattle.gv_base.specs.declared.answers.Place.{Place}
use Rattle.gv_base.specs.declared.answer.Answer.TheVariants.{Next}
use Rattle.gv_lang.specs.declared.program.ItemKind.{ItemKind}
use Rattle.gv_lang.specs.Tree.{Expr, Store, Put, Put64, Append, MapPut, MapDelete, Do}
use Rattle.gv_lang.specs.Todo.{Todo, Run}
use Rattle.gv_lang.specs.Values.{value}
use Rattle.gv_lang.specs.Table.{as_item}
use Rattle.gv_lang.specs.Threads.{Frame}
use Rattle.gv_resources.specs.Kinds as kind
use Rattle.gv_resources.specs.Kinds.{Kind}
use Rattle.gv_resources.specs.Pieces.{Have, Piece, Fits, sum_below}
use Rattle.gv_resources.specs.Ghost.{Ghost, Mode, Shared}
use Rattle.gv_resources.specs.Told.{Shape, told, object_at, cells_in, locked_in, is_in_table}
use Rattle.gv_assertions.specs.Atoms.{Instance, Predicate}
use Rattle.gv_terms.specs.Ranges.{IsValuation}
use Rattle.gv_assertions.specs.Standing.{StandsFor, StandForAll, AreTrueUnder, valued}
use Rattle.gv_instances.specs.Agreeing.{AgreeOnVars}
use Rattle.gv_seats.specs.Paths.{Path, Bracket, Closed}

-- what a local holds, as a value of terms; a byte stands in cells alone
abbrev pub plain : Val → Option Value
plain (stored.Word n) = Some (val.Word n)
plain (stored.Bool b) = Some (val.Bool b)
plain (stored.Ref r) = Some (val.Ref r)
plain (stored.Slice s) = Some (val.SliceS s)
plain (stored.Byte b) = None
plain stored.Unit = None

-- locals have the values of their terms
abbrev pub HaveValues : Env → List (Option TermTree) → List Val → Type 0
HaveValues env terms locals = (x : ℕ) (t : TermTree) → slice_get terms x ≡ Some (Some t)
    → (v : Val) × (slice_get locals x ≡ Some v) × (plain v ≡ Some (value_under env t))

-- what all paths of a proof share
pub record Proof : Type 0 where
  -- how many disks there are, and how many blocks each has
  pub disks : ℕ
  pub blocks : ℕ
  -- of each field, whether it is leased; of each book, how many cells it has
  pub leased : List Bool
  pub books : List ℕ
  pub preds : List Predicate
  -- the numbers of the crash invariant's predicate, which has no parameters, and of the root's, which has one
  pub crash : ℕ
  pub root : ℕ
  pub atomic : Specification (List Value) Value

-- a call may act where the specification lets it be called
abbrev pub shape_of : Proof → Shape
shape_of o = record { disks = o.disks; leased = o.leased; books = o.books; allows = o.atomic.allows }

-- The values of the frame's locals, facts and assertions are those of the path under a valuation, and the piece stands for the assertions. The variables
-- that its block started with have the values that they had then.
pub record Described (preds : List Predicate) (start env : Env) (h : Path) (f : Frame) (p : Piece) : Type 0 where
  pub todo : f.todo ≡ h.todo
  pub as_many : length f.locals ≡ length h.locals
  pub locals : HaveValues env h.locals f.locals
  pub valuation : IsValuation env
  pub started : AgreeOnVars env start h.procedure.start
  pub facts : AreTrueUnder env h.facts
  pub stands : StandForAll preds env h.atoms p

-- a piece stands for a predicate at these values, however they are spelled
abbrev pub IsInstance : List Predicate → ℕ → List Value → Piece → Type 0
IsInstance preds number values p = (env : Env) (args : List TermTree) → valued env args ≡ values → StandsFor preds env (Instance number args) p

-- ---- the record beside the state

-- The explanation so far is one of the history that the walk takes, and what is kept beside it agrees with where the walk stands.
pub record Walked (atomic : Specification (List Value) Value) (g : Ghost) : Type 0 where
  pub entries : entries_of g.moves ≡ g.history
  pub passes : walk_from atomic (first_walk atomic) g.moves ≡ Ok g.walk
  pub later : (call : ℕ) → g.calls < call → g.walk.table call ≡ NeverCalled
  pub unacted : (call op : ℕ) (args : List Value) → (g.walk.table call ≡ NeverCalled) ⊎ (g.walk.table call ≡ Called op args) → g.kept call ≡ None
  pub acted : (call : ℕ) (reply : Value) → g.kept call ≡ Some reply → is_in_table (g.walk.table call) ≡ true → g.walk.table call ≡ Acted reply
  -- the calls before the last crash, and those before the last sharing, are calls that there were
  pub since : g.since ≤ g.calls
  pub gone : g.gone ≤ g.calls

-- of an object that doesn't exist yet nothing is kept
pub record IsUntouched (g : Ghost) (object : ℕ) : Type 0 where
  pub guards : g.guards object ≡ None
  pub sliced : g.sliced object ≡ false
  pub frozen : (place : ℕ) → g.frozen object place ≡ false

-- Each disk has so many blocks, failed or not. The blocks that are kept are those of each disk that has not failed, and as many and as long as every disk's.
pub record AreShadows (o : Proof) (w : World) (g : Ghost) : Type 0 where
  pub as_many : length w.disks ≡ o.disks
  pub sized : (d : ℕ) (disk : Disk) → slice_get w.disks d ≡ Some disk → length disk.blocks ≡ o.blocks
  pub same : (d : ℕ) (disk : Disk) → slice_get w.disks d ≡ Some disk → disk.failed ≡ false → g.shadow d ≡ disk.blocks
  pub long : (d : ℕ) → d < o.disks → length (g.shadow d) ≡ o.blocks
  pub whole : (d : ℕ) → d < o.disks → All (λ block. length block ≡ block_bytes) (g.shadow d)

-- at most one disk has failed, and only where there are two
pub record FailAlone (disks : List Disk) : Type 0 where
  pub one : (d e : ℕ) (disk other : Disk) → slice_get disks d ≡ Some disk → slice_get disks e ≡ Some other → disk.failed ≡ true → other.failed ≡ true → d ≡ e
  pub of_two : (d : ℕ) (disk : Disk) → slice_get disks d ≡ Some disk → disk.failed ≡ true → length disks ≡ 2

-- what holds of the world and of the record beside it, whoever owns what
pub record IsConsistent (o : Proof) (w : World) (g : Ghost) : Type 0 where
  pub fresh : (object : ℕ) → length w.objects < object → IsUntouched g object
  pub blocks : AreShadows o w g
  pub failures : FailAlone w.disks
  -- there are as many fields as the proof says
  pub fields : length g.walk.fields ≡ length o.leased
  -- no halves have a name that is as long as names may be chosen from now on
  pub names : (name : List ℕ) → g.named ≤ length name → g.halves name ≡ None
  -- until recovery shares what it owns no mutex guards anything
  pub unguarded : g.mode ≢ Shared → (object : ℕ) → g.guards object ≡ None
  pub walked : Walked o.atomic g

-- ---- all together

-- what the locks' pieces own together
abbrev pub of_locks : World → (ℕ → Piece) → Piece
of_locks w locks e = sum_below (suc (length w.objects)) (λ n. locks n e)

-- a piece beside the crash invariant's, those of the free locks, and the rest: their sum fits, and each stands for what it is to
pub record Base (o : Proof) (w : World) (g : Ghost) (m : Mode) (b : Bracket) (p pool : Piece) (locks : ℕ → Piece) (rest : Piece) : Type 0 where
  pub fits : Fits (λ e. p e + (pool e + (of_locks w locks e + rest e))) (told (shape_of o) w g)
  pub mode : g.mode ≡ m
  -- in shared mode, where the bracket is closed, the crash invariant holds
  pub crash : m ≡ Shared → b ≡ Closed → IsInstance o.preds o.crash [] pool
  -- what a free mutex guards holds
  pub free : (object : ℕ) (guard : ℕ × List Value) → g.guards object ≡ Some guard → locked_in (object_at w object) ≡ Some false
      → IsInstance o.preds guard.0 guard.1 (locks object)
  pub consistent : IsConsistent o w g

-- ---- writes that have begun

-- what a write marks: a cell of an object, or a map
pub data Target : Type 0 where
  CellAt : (object place : ℕ) → Target
  MapAt : (object : ℕ) → Target

abbrev pub is_marked : Option Cell → Bool
is_marked None = false
is_marked (Some c) = c.marked

abbrev pub map_mark : Option Object → Bool
map_mark (Some (world.Map entries marked)) = marked
map_mark (Some (world.Cells cells)) = false
map_mark (Some (world.Mutex locked)) = false
map_mark None = false

abbrev pub mark_at : World → Target → Bool
mark_at w (CellAt object place) = is_marked (slice_get (cells_in (object_at w object)) place)
mark_at w (MapAt object) = map_mark (object_at w object)

abbrev pub IsMarked : World → Target → Type 0
IsMarked w t = mark_at w t ≡ true

abbrev pub OwnsUnder : Piece → Kind → List Value → Type 0
OwnsUnder p k key = (v : List Value) × (0 < p (Have k key v))

abbrev pub OwnsTarget : Piece → Target → Type 0
OwnsTarget p (CellAt object place) =
    OwnsUnder p kind.Cell (val.Ref object ∷ val.Word place ∷ []) ⊎ OwnsUnder p kind.Item (val.Ref object ∷ val.Word place ∷ [])
OwnsTarget p (MapAt object) = OwnsUnder p kind.Map (val.Ref object ∷ [])

-- each write that has begun is of what a piece owns
abbrev pub AreOwned : World → Piece → Type 0
AreOwned w p = (t : Target) → IsMarked w t → OwnsTarget p t

-- what a frame's next command writes in two steps
pub data Writes (f : Frame) : Target → Type 0 where
  stores : (p : Expr) (of field : ℕ) (e : Expr) (at : Place) (next : Todo) (object : ℕ) → f.todo ≡ Run (Do (Store p of field e) at) ∷ next
      → value f.locals p ≡ Some (stored.Ref object) → Writes f (CellAt object field)
  puts : (s i v : Expr) (at : Place) (next : Todo) (slice : SliceVal) (n : ℕ) → f.todo ≡ Run (Do (Put s i v) at) ∷ next
      → value f.locals s ≡ Some (stored.Slice slice) → value f.locals i ≡ Some (stored.Word n) → Writes f (CellAt slice.object (slice.offset + n))
  puts_word : (s v : Expr) (at : Place) (next : Todo) (slice : SliceVal) (n : ℕ) → f.todo ≡ Run (Do (Put64 s v) at) ∷ next
      → value f.locals s ≡ Some (stored.Slice slice) → n < 8 → Writes f (CellAt slice.object (slice.offset + n))
  appends : (x : ℕ) (item : ItemKind) (s v : Expr) (at : Place) (next : Todo) (slice : SliceVal) → f.todo ≡ Run (Do (Append x item s v) at) ∷ next
      → value f.locals s ≡ Some (stored.Slice slice) → Writes f (CellAt slice.object (spare_place slice))
  puts_entry : (m k v : Expr) (at : Place) (next : Todo) (object : ℕ) → f.todo ≡ Run (Do (MapPut m k v) at) ∷ next
      → value f.locals m ≡ Some (stored.Ref object) → Writes f (MapAt object)
  deletes_entry : (m k : Expr) (at : Place) (next : Todo) (object : ℕ) → f.todo ≡ Run (Do (MapDelete m k) at) ∷ next
      → value f.locals m ≡ Some (stored.Ref object) → object ≢ 0 → Writes f (MapAt object)

-- ---- seats

-- A frame stands at a path beside a rest, whatever that is, and no write of its own has begun. Its block started with these values.
pub record Seat (o : Proof) (w : World) (g : Ghost) (start : Env) (f : Frame) (h : Path) (rest : Piece) : Type 0 where
  pub env : Env
  pub piece : Piece
  pub pool : Piece
  pub locks : ℕ → Piece
  pub described : Described o.preds start env h f piece
  pub base : Base o w g h.mode h.bracket piece pool locks rest
  pub still : AreOwned w rest

-- The same in the middle of a write: the first step of the frame's next command is done. Its piece owns what the command writes; each write that has
-- begun is of that, or of what the rest owns. An append begins only where there is a spare cell for its item.
pub record BegunSeat (o : Proof) (w : World) (g : Ghost) (start : Env) (f : Frame) (h : Path) (rest : Piece) : Type 0 where
  pub env : Env
  pub piece : Piece
  pub pool : Piece
  pub locks : ℕ → Piece
  pub described : Described o.preds start env h f piece
  pub base : Base o w g h.mode h.bracket piece pool locks rest
  pub mine : (t : Target) → Writes f t → OwnsTarget piece t
  pub still : (t : Target) → IsMarked w t → Writes f t ⊎ OwnsTarget rest t
  pub spare : (x : ℕ) (item : ItemKind) (s v : Expr) (at : Place) (next : Todo) (slice : SliceVal) (kept : Val) → f.todo ≡ Run (Do (Append x item s v) at) ∷ next
      → value f.locals s ≡ Some (stored.Slice slice) → as_item item (value f.locals v) ≡ Next kept → has_spare w slice kept ≡ true

-- Two frames stand at two paths, beside each other and a rest.
pub record Pair (o : Proof) (w : World) (g : Ghost) (start : Env) (f : Frame) (h : Path) (beginning : Env) (other : Frame) (k : Path) (rest : Piece) : Type 0 where
  pub env : Env
  pub other_env : Env
  pub piece : Piece
  pub other_piece : Piece
  pub pool : Piece
  pub locks : ℕ → Piece
  pub described : Described o.preds start env h f piece
  pub beside : Described o.preds beginning other_env k other other_piece
  pub base : Base o w g h.mode h.bracket (λ e. piece e + other_piece e) pool locks rest
  pub still : AreOwned w rest
