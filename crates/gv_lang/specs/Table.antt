-- What the next command of a thread does, apart from what is to do next: one clause a command. An operand of
-- another kind than its command takes is undefined by Kind, and operands are tested first. A command that takes
-- bytes is undefined by Kind where its cells hold something else.
use Rattle.std.specs.Prelude.{ℕ, ◌+◌, ◌/◌, ◌%◌, Bool, true, false, not, List, [], ◌∷◌, Option, Some, None, map, replicate, slice_get, slice_set, is_some, nat_eq, nat_lt, nat_le, if◌then◌else◌}
use Rattle.std.specs.Option.{unwrap_or}
use Rattle.gv_base.specs.declared.reason.Reason.TheVariants.{Kind, DivideByZero, OutOfRange}
use Rattle.gv_base.specs.declared.answer.Answer.{Answer}
use Rattle.gv_base.specs.declared.answer.Answer.TheVariants.{Next, Undefined}
use Rattle.gv_base.specs.declared.val.Val.{Val}
use Rattle.gv_base.specs.declared.val.Val.TheVariants as val
use Rattle.gv_base.specs.declared.slice_val.SliceVal.{SliceVal}
use Rattle.gv_words.specs.Words.{le64, un64}
use Rattle.gv_world.specs.Answers.{and_then, undefined_if}
use Rattle.gv_world.specs.Store.{Object, Cells, Map, Mutex, Store as World, fresh, with_new, block_bytes}
use Rattle.gv_world.specs.Cells.{read_cell, begin_write, end_write, read_bytes, begin_bytes}
use Rattle.gv_world.specs.FiniteMaps.{map_read, map_begin, map_end}
use Rattle.gv_world.specs.Mutexes.{lock, unlock}
use Rattle.gv_world.specs.Disks.{disk_read, disk_write, disk_size}
use Rattle.gv_world.specs.Slices.{nil_slice, whole_of, too_long, new_cell, sub, has_spare, spare_place, longer, append_grow}
use Rattle.gv_lang.specs.declared.program.ItemKind.{ItemKind}
use Rattle.gv_lang.specs.declared.program.ItemKind.TheVariants as item
use Rattle.gv_lang.specs.Tree.{Expr, Action, Let, Div, Rem, New, Load, Store, MakeSlice, At, Put, Len, NewMap, MapGet, MapPut, MapDelete, NewMutex, Lock, Unlock, DiskRead, DiskRead2, DiskWrite, DiskSize, Get64, Put64, Sub, Append, Call, Spawn, Cmd, Do, If, Return, Proc, Program}
use Rattle.gv_lang.specs.Values.{value, values}
use Rattle.gv_lang.specs.Threads.{Frame, new_frame}

pub data Effect : Type 0 where
  -- the command is done, and leaves this world and these locals
  Goes : World → List Val → Effect
  -- the first of its two steps is done
  Begins : World → Effect
  -- a call's new frame
  Pushes : Frame → Effect
  -- the frame of a new thread
  Starts : Frame → Effect
  -- the frame returns these
  Pops : List Val → Effect

-- ---- operands

abbrev pub as_value : Option Val → Answer Val
as_value (Some v) = Next v
as_value None = Undefined Kind

abbrev pub as_values : Option (List Val) → Answer (List Val)
as_values (Some vs) = Next vs
as_values None = Undefined Kind

abbrev pub as_word : Option Val → Answer ℕ
as_word (Some (val.Word n)) = Next n
as_word _ = Undefined Kind

abbrev pub as_truth : Option Val → Answer Bool
as_truth (Some (val.Bool b)) = Next b
as_truth _ = Undefined Kind

abbrev pub as_ref : Option Val → Answer ℕ
as_ref (Some (val.Ref r)) = Next r
as_ref _ = Undefined Kind

abbrev pub as_slice : Option Val → Answer SliceVal
as_slice (Some (val.Slice s)) = Next s
as_slice _ = Undefined Kind

-- as it stands in a cell of a slice of such items
abbrev pub as_item : ItemKind → Option Val → Answer Val
as_item item.Byte (Some (val.Word n)) = Next (val.Byte (n % 256))
as_item item.Word (Some (val.Word n)) = Next (val.Word n)
as_item item.Ref (Some (val.Ref r)) = Next (val.Ref r)
as_item _ _ = Undefined Kind

abbrev pub zero_item : ItemKind → Val
zero_item item.Byte = val.Byte 0
zero_item item.Word = val.Word 0
zero_item item.Ref = val.Ref 0

-- ---- what is left

-- a local is set
abbrev pub sets : World → List Val → ℕ → Val → Answer Effect
sets w locals x v = Next (Goes w (slice_set locals x v))

-- two locals are set, the first one first
abbrev pub sets_both : World → List Val → (x y : ℕ) → (v u : Val) → Answer Effect
sets_both w locals x y v u = Next (Goes w (slice_set (slice_set locals x v) y u))

-- a local is set to a fresh object
abbrev pub makes : World → List Val → ℕ → Object → Answer Effect
makes w locals x object = sets (with_new w object) locals x (val.Ref (fresh w))

-- the locals stay
abbrev pub leaves : List Val → Answer World → Answer Effect
leaves locals answer = and_then answer (λ w. Next (Goes w locals))

-- the first step of a write, or where that has been made the second
abbrev pub in_two_steps : Bool → List Val → (begin end : Answer World) → Answer Effect
in_two_steps false locals begin end = and_then begin (λ w. Next (Begins w))
in_two_steps true locals begin end = leaves locals end

-- ---- the longer rows

abbrev pub is_within : SliceVal → ℕ → Bool
is_within s i = nat_lt i s.length

-- goes on where the slice has an item under the number
abbrev pub with_item : SliceVal → ℕ → Answer Effect → Answer Effect
with_item s i answer = undefined_if (not (is_within s i)) OutOfRange answer

-- goes on where the slice has 8 items
abbrev pub with_eight : SliceVal → Answer Effect → Answer Effect
with_eight s answer = undefined_if (nat_lt s.length 8) OutOfRange answer

abbrev pub makes_slice : World → List Val → ℕ → ItemKind → ℕ → Answer Effect
makes_slice w locals x item n =
    undefined_if (nat_le too_long n) OutOfRange
    (sets (with_new w (Cells (replicate n (new_cell (zero_item item))))) locals x (val.Slice (whole_of (fresh w) n)))

-- the item under a key, and whether there is one; a nil map has none
abbrev pub gets : World → List Val → (x ok : ℕ) → (m k : ℕ) → Answer Effect
gets w locals x ok m k =
    if nat_eq m 0
    then sets_both w locals x ok (val.Word 0) (val.Bool false)
    else and_then (map_read w m k) (λ found. sets_both w locals x ok (val.Word (unwrap_or found 0)) (val.Bool (is_some found)))

-- on a nil map both steps do nothing
abbrev pub deletes : Bool → World → List Val → (m k : ℕ) → Answer Effect
deletes begun w locals m k =
    if nat_eq m 0
    then in_two_steps begun locals (Next w) (Next w)
    else in_two_steps begun locals (map_begin w m) (map_end w m k None)

-- the slice of a block that was read; nil where the disk has failed
abbrev pub block_slice : Option ℕ → SliceVal
block_slice (Some object) = whole_of object block_bytes
block_slice None = nil_slice

abbrev pub words_of : List ℕ → List Val
words_of bytes = map val.Word bytes

-- into a spare cell in two steps; without one in one step, for a fresh object with `extra` spare cells
abbrev pub appends : ℕ → Bool → World → List Val → ℕ → SliceVal → Val → Answer Effect
appends extra true w locals x s v =
    and_then (end_write w s.object (spare_place s) (v ∷ [])) (λ after. sets after locals x (val.Slice (longer s)))
appends extra false w locals x s v =
    if has_spare w s v
    then and_then (begin_write w s.object (spare_place s) 1) (λ after. Next (Begins after))
    else and_then (append_grow w s v extra) (λ grown. sets grown.0 locals x (val.Slice grown.1))

-- a procedure that isn't there is no operand
abbrev pub enters : (Frame → Effect) → ℕ → Option Proc → List Val → List ℕ → Answer Effect
enters as_effect f (Some p) args results = Next (as_effect (new_frame f p args results))
enters as_effect f None args results = Undefined Kind

-- ---- the table

module _ (g : Program) (extra : ℕ) (begun : Bool) (locals : List Val) (w : World) where
  abbrev pub word : Expr → (ℕ → Answer Effect) → Answer Effect
  word e f = and_then (as_word (value locals e)) f

  abbrev pub ref : Expr → (ℕ → Answer Effect) → Answer Effect
  ref e f = and_then (as_ref (value locals e)) f

  abbrev pub slice : Expr → (SliceVal → Answer Effect) → Answer Effect
  slice e f = and_then (as_slice (value locals e)) f

  abbrev pub any : Expr → (Val → Answer Effect) → Answer Effect
  any e f = and_then (as_value (value locals e)) f

  abbrev pub all : List Expr → (List Val → Answer Effect) → Answer Effect
  all es f = and_then (as_values (values locals es)) f

  abbrev pub acted : Action → Answer Effect
  acted (Let x e) = any e (λ v. sets w locals x v)
  acted (Div x a b) = word a (λ m. word b (λ n. undefined_if (nat_eq n 0) DivideByZero (sets w locals x (val.Word (m / n)))))
  acted (Rem x a b) = word a (λ m. word b (λ n. undefined_if (nat_eq n 0) DivideByZero (sets w locals x (val.Word (m % n)))))
  acted (New x of vs) = all vs (λ items. makes w locals x (Cells (map new_cell items)))
  acted (Load x p of field) = ref p (λ o. and_then (read_cell w o field) (λ v. sets w locals x v))
  acted (Store p of field e) = ref p (λ o. any e (λ v. in_two_steps begun locals (begin_write w o field 1) (end_write w o field (v ∷ []))))
  acted (MakeSlice x item n) = word n (λ count. makes_slice w locals x item count)
  acted (At x s i) = slice s (λ t. word i (λ n. with_item t n (and_then (read_cell w t.object (t.offset + n)) (λ v. sets w locals x v))))
  acted (Put s i v) = slice s (λ t. word i (λ n. any v (λ u. with_item t n
      (in_two_steps begun locals (begin_write w t.object (t.offset + n) 1) (end_write w t.object (t.offset + n) (u ∷ []))))))
  acted (Len x s) = slice s (λ t. sets w locals x (val.Word t.length))
  acted (NewMap x) = makes w locals x (Map [] false)
  acted (MapGet x ok m k) = ref m (λ o. word k (λ n. gets w locals x ok o n))
  acted (MapPut m k v) = ref m (λ o. word k (λ n. word v (λ u. in_two_steps begun locals (map_begin w o) (map_end w o n (Some u)))))
  acted (MapDelete m k) = ref m (λ o. word k (λ n. deletes begun w locals o n))
  acted (NewMutex x) = makes w locals x (Mutex false)
  acted (Lock m) = ref m (λ o. leaves locals (lock w o))
  acted (Unlock m) = ref m (λ o. leaves locals (unlock w o))
  acted (DiskRead x a) = word a (λ n. and_then (disk_read w 0 n) (λ read. sets read.0 locals x (val.Slice (block_slice read.1))))
  acted (DiskRead2 x ok d a) = word d (λ k. word a (λ n. and_then (disk_read w k n) (λ read.
      sets_both read.0 locals x ok (val.Slice (block_slice read.1)) (val.Bool (is_some read.1)))))
  acted (DiskWrite d a s) = word d (λ k. word a (λ n. slice s (λ t. leaves locals (disk_write w k n t))))
  acted (DiskSize x) = sets w locals x (val.Word (disk_size w))
  acted (Get64 x s) = slice s (λ t. with_eight t (and_then (read_bytes w t.object t.offset 8) (λ bytes. sets w locals x (val.Word (un64 bytes)))))
  acted (Put64 s v) = slice s (λ t. word v (λ n. with_eight t
      (in_two_steps begun locals (begin_bytes w t.object t.offset 8) (end_write w t.object t.offset (words_of (le64 n))))))
  acted (Sub x s a b) = slice s (λ t. word a (λ m. word b (λ n. and_then (sub t m n) (λ part. sets w locals x (val.Slice part)))))
  acted (Append x item s v) = slice s (λ t. and_then (as_item item (value locals v)) (λ u. appends extra begun w locals x t u))
  acted (Call xs f es) = all es (λ args. enters Pushes f (slice_get g.procs f) args xs)
  acted (Spawn f es) = all es (λ args. enters Starts f (slice_get g.procs f) args [])

  -- an If tests that its condition is a truth value, and chooses by what is to do next; Loop, Break and
  -- Continue change only what is to do
  abbrev pub effect : Option Cmd → Answer Effect
  effect None = Undefined Kind
  effect (Some (Do a place)) = acted a
  effect (Some (If e t f place)) = and_then (as_truth (value locals e)) (λ v. Next (Goes w locals))
  effect (Some (Return es place)) = all es (λ vs. Next (Pops vs))
  effect (Some _) = Next (Goes w locals)
