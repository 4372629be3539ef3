-- What a state tells of each kind of resource: a world, and the record that is kept beside it.
use Rattle.std.specs.Prelude.{ℕ, zero, suc, Bool, true, false, not, ◌&&◌, List, [], ◌∷◌, Option, Some, None, slice_get, nat_lt, if◌then◌else◌}
use Rattle.gv_base.specs.declared.val.Val.{Val}
use Rattle.gv_base.specs.declared.val.Val.TheVariants as stored
use Rattle.gv_terms.specs.declared.value.Value.{Value}
use Rattle.gv_terms.specs.declared.value.Value.TheVariants as val
use Rattle.gv_terms.specs.Values.{bool_eq}
use Rattle.gv_world.specs.declared.cell.Cell.{Cell}
use Rattle.gv_world.specs.Store as world
use Rattle.gv_world.specs.Store.{Object, Disk, Store as World}
use Rattle.gv_spec.specs.Walks.{Standing, Called, Acted}
use Rattle.gv_resources.specs.Kinds as kind
use Rattle.gv_resources.specs.Kinds.{Kind}
use Rattle.gv_resources.specs.Ghost.{Ghost}
use Rattle.gv_resources.specs.Pieces.{Telling}

-- what a package, its specification and its proof fix
pub record Shape : Type 0 where
  -- how many disks there are
  pub disks : ℕ
  -- of each field, whether it is leased
  pub leased : List Bool
  -- of each book, how many cells it has
  pub books : List ℕ
  -- whether an operation may be called with these arguments
  pub allows : ℕ → List Value → Bool

-- the answer where a test holds, else none
abbrev pub only_if : {A : Type 0} → Bool → Option A → Option A
only_if test answer = if test then answer else None

-- ---- the heap

-- what stands in a cell, as a value of terms: a byte as the byte string of it alone
abbrev pub value_of : Val → Value
value_of (stored.Word n) = val.Word n
value_of (stored.Byte b) = val.Bytes (b ∷ [])
value_of (stored.Bool b) = val.Bool b
value_of (stored.Ref r) = val.Ref r
value_of (stored.Slice s) = val.SliceS s
value_of stored.Unit = val.Unit

-- there is no object under 0
abbrev pub object_at : World → ℕ → Option Object
object_at w zero = None
object_at w (suc n) = slice_get w.objects n

abbrev pub cells_in : Option Object → List Cell
cells_in (Some (world.Cells cells)) = cells
cells_in (Some (world.Map entries marked)) = []
cells_in (Some (world.Mutex locked)) = []
cells_in None = []

abbrev pub in_cell : Option Cell → Option (List Value)
in_cell None = None
in_cell (Some c) = Some (value_of c.value ∷ [])

-- a cell, where it is read-only or not, and a slice's or not, as asked; a write that has begun is no matter
abbrev pub cell_at : World → Ghost → (frozen sliced : Bool) → (object place : ℕ) → Option (List Value)
cell_at w g frozen sliced object place =
    only_if (bool_eq (g.frozen object place) frozen && bool_eq (g.sliced object) sliced) (in_cell (slice_get (cells_in (object_at w object)) place))

abbrev pub map_in : Option Object → Option (List Value)
map_in (Some (world.Map entries marked)) = Some (val.MapWW entries ∷ [])
map_in (Some (world.Cells cells)) = None
map_in (Some (world.Mutex locked)) = None
map_in None = None

-- ---- mutexes

-- whether there is a mutex and it is locked
abbrev pub locked_in : Option Object → Option Bool
locked_in (Some (world.Mutex locked)) = Some locked
locked_in (Some (world.Cells cells)) = None
locked_in (Some (world.Map entries marked)) = None
locked_in None = None

-- free, and guards nothing
abbrev pub free_mutex : Option Bool → Option (ℕ × List Value) → Option (List Value)
free_mutex (Some false) None = Some []
free_mutex _ _ = None

-- locked, and guards something
abbrev pub held_mutex : Option Bool → Option (ℕ × List Value) → Option (List Value)
held_mutex (Some true) (Some guard) = Some []
held_mutex _ _ = None

-- what it guards, locked or not: the predicate's number, and its arguments
abbrev pub guarded_by : Option Bool → Option (ℕ × List Value) → Option (List Value)
guarded_by (Some locked) (Some guard) = Some (val.Word guard.0 ∷ guard.1)
guarded_by _ _ = None

-- ---- disks

abbrev pub in_block : Option (List ℕ) → Option (List Value)
in_block None = None
in_block (Some bytes) = Some (val.Bytes bytes ∷ [])

-- a block as it would be had its disk not failed
abbrev pub block_at : Shape → Ghost → (disk address : ℕ) → Option (List Value)
block_at z g disk address = only_if (nat_lt disk z.disks) (in_block (slice_get (g.shadow disk) address))

abbrev pub failed_in : Option Disk → Option (List Value)
failed_in None = None
failed_in (Some disk) = only_if disk.failed (Some [])

-- ---- the specification and the proof

abbrev pub one : Option Value → Option (List Value)
one None = None
one (Some v) = Some (v ∷ [])

abbrev pub is_leased : Option Bool → Bool
is_leased None = false
is_leased (Some leased) = leased

abbrev pub count_in : Option ℕ → ℕ
count_in None = 0
count_in (Some count) = count

abbrev pub book_at : Shape → Ghost → (book place : ℕ) → Option (List Value)
book_at z g book place = only_if (nat_lt place (count_in (slice_get z.books book))) (Some (g.book book place ∷ []))

-- a call that may act: it is in the table, allowed, has not acted, and no sharing has dropped its token
abbrev pub may_act : Shape → Standing Value → Option (List Value)
may_act z (Called op args) = only_if (z.allows op args) (Some (val.Word op ∷ args))
may_act z _ = None

abbrev pub token_at : Shape → Ghost → ℕ → Option (List Value)
token_at z g call = only_if (nat_lt g.gone call) (may_act z (g.walk.table call))

-- a reply, where there is one: an operation without a reply keeps a unit, which no term has as its value
abbrev pub replied : Option Value → Option (List Value)
replied None = None
replied (Some val.Unit) = Some []
replied (Some v) = Some (v ∷ [])

-- the reply of a call that has acted, in the table or not
abbrev pub acted_with : Standing Value → Option Value → Option (List Value)
acted_with (Called op args) kept = None
acted_with _ kept = replied kept

abbrev pub is_in_table : Standing Value → Bool
is_in_table (Called op args) = true
is_in_table (Acted reply) = true
is_in_table _ = false

-- ---- keys; under one of another form there is nothing

abbrev pub object_of : List Value → Option ℕ
object_of (val.Ref object ∷ []) = Some object
object_of _ = None

-- an object and a place in it
abbrev pub cell_of : List Value → Option (ℕ × ℕ)
cell_of (val.Ref object ∷ val.Word place ∷ []) = Some (object, place)
cell_of _ = None

abbrev pub number_of : List Value → Option ℕ
number_of (val.Word n ∷ []) = Some n
number_of _ = None

-- a disk and an address, or a book and a place
abbrev pub numbers_of : List Value → Option (ℕ × ℕ)
numbers_of (val.Word m ∷ val.Word n ∷ []) = Some (m, n)
numbers_of _ = None

abbrev pub call_of : List Value → Option ℕ
call_of (val.Call call ∷ []) = Some call
call_of _ = None

abbrev pub name_of : List Value → Option (List ℕ)
name_of (val.Name name ∷ []) = Some name
name_of _ = None

abbrev pub is_no_key : List Value → Bool
is_no_key [] = true
is_no_key (v ∷ vs) = false

-- what is told under a key of the right form
abbrev pub under : {K : Type 0} → Option K → (K → Option (List Value)) → Option (List Value)
under None tells = None
under (Some k) tells = tells k

-- ---- all of it

abbrev pub told : Shape → World → Ghost → Telling
told z w g kind.Cell key = under (cell_of key) (λ c. cell_at w g false false c.0 c.1)
told z w g kind.FrozenCell key = under (cell_of key) (λ c. cell_at w g true false c.0 c.1)
told z w g kind.Item key = under (cell_of key) (λ c. cell_at w g false true c.0 c.1)
told z w g kind.FrozenItem key = under (cell_of key) (λ c. cell_at w g true true c.0 c.1)
told z w g kind.Map key = under (object_of key) (λ o. map_in (object_at w o))
told z w g kind.Mutex key = under (object_of key) (λ o. free_mutex (locked_in (object_at w o)) (g.guards o))
told z w g kind.Held key = under (object_of key) (λ o. held_mutex (locked_in (object_at w o)) (g.guards o))
told z w g kind.Lock key = under (object_of key) (λ o. guarded_by (locked_in (object_at w o)) (g.guards o))
told z w g kind.Master key = under (numbers_of key) (λ b. block_at z g b.0 b.1)
told z w g kind.Lease key = under (numbers_of key) (λ b. block_at z g b.0 b.1)
told z w g kind.Down key = under (number_of key) (λ disk. failed_in (slice_get w.disks disk))
told z w g kind.Field key = under (number_of key) (λ place. one (slice_get g.walk.fields place))
told z w g kind.FieldLease key = under (number_of key) (λ place. only_if (is_leased (slice_get z.leased place)) (one (slice_get g.walk.fields place)))
told z w g kind.BookMaster key = under (numbers_of key) (λ b. book_at z g b.0 b.1)
told z w g kind.BookLease key = under (numbers_of key) (λ b. book_at z g b.0 b.1)
told z w g kind.Token key = under (call_of key) (λ call. token_at z g call)
told z w g kind.Done key = under (call_of key) (λ call. acted_with (g.walk.table call) (g.kept call))
told z w g kind.Half key = under (name_of key) (λ name. one (g.halves name))
told z w g kind.OpenCall key = under (call_of key) (λ call. only_if (nat_lt g.since call && is_in_table (g.walk.table call)) (Some []))
told z w g kind.Recovering key = only_if (is_no_key key && not g.booted) (Some [])
