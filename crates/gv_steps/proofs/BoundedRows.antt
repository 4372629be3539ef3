-- What commands do where slices are bounded.
use Rattle.std.proofs.Common.{◌≡◌, ℕ, ◌+◌, ◌/◌, ◌%◌, ◌^◌, ◌<◌, ◌≤◌, Bool, true, false, List, [], ◌∷◌, Option, Some, None, map, drop, replicate, refl, subst, arith}
use Rattle.std.specs.Prelude.{not, ◌&&◌, slice_get, slice_set, nat_eq, nat_lt, nat_le, is_some, if◌then◌else◌}
use Rattle.std.specs.Option.{unwrap_or}
use Rattle.std.proofs.lemmas.Bool.{and_parts, and_from, leb-false}
use Rattle.gv_base.specs.declared.reason.Reason.TheVariants.{DivideByZero, OutOfRange}
use Rattle.gv_base.specs.declared.answer.Answer.{Answer}
use Rattle.gv_base.specs.declared.answer.Answer.TheVariants.{Next, Blocked, Undefined}
use Rattle.gv_base.specs.declared.val.Val.{Val}
use Rattle.gv_base.specs.declared.val.Val.TheVariants as val
use Rattle.gv_base.specs.declared.slice_val.SliceVal.{SliceVal}
use Rattle.gv_base.specs.declared.answers.Place.{Place}
use Rattle.gv_words.specs.Words.{le64, un64}
use Rattle.gv_world.specs.Answers.{and_then, undefined_if}
use Rattle.gv_world.specs.Store.{Object, Cells, Map, Mutex, Store as World, fresh, with_new}
use Rattle.gv_world.specs.Cells.{read_cell, begin_write, end_write, read_bytes, begin_bytes}
use Rattle.gv_world.specs.FiniteMaps.{map_read, map_begin, map_end}
use Rattle.gv_world.specs.Mutexes.{lock, unlock}
use Rattle.gv_world.specs.Disks.{disk_read, disk_write, disk_size}
use Rattle.gv_world.specs.Slices.{whole_of, too_long, new_cell, sub, has_spare, spare_place, longer, append_grow}
use Rattle.gv_lang.specs.declared.pure.Unary.{Unary}
use Rattle.gv_lang.specs.declared.pure.Unary.TheVariants as unary
use Rattle.gv_lang.specs.declared.pure.Binary.{Binary}
use Rattle.gv_lang.specs.declared.pure.Binary.TheVariants as binary
use Rattle.gv_lang.specs.declared.program.ItemKind.{ItemKind}
use Rattle.gv_lang.specs.declared.program.ItemKind.TheVariants as item
use Rattle.gv_lang.specs.declared.program.LocalKind.{LocalKind}
use Rattle.gv_lang.specs.declared.program.LocalKind.TheVariants as kind
use Rattle.gv_lang.specs.Tree.{Expr, Number, Truth, Nil, NilSlice, LocalAt, One, Two, Action, Let, Div, Rem, New, Load, Store, MakeSlice, At, Put, Len, NewMap, MapGet, MapPut, MapDelete, NewMutex, Lock, Unlock, DiskRead, DiskRead2, DiskWrite, DiskSize, Get64, Put64, Sub, Append, Call, Spawn, Cmd, Do, If, Loop, Break, Continue, Return, Proc, Program}
use Rattle.gv_lang.specs.Values.{on_words, on_truths, compared, same_slice, one, two, value, also, values}
use Rattle.gv_lang.specs.Threads.{Frame, Thread, zero_of, new_frame}
use Rattle.gv_lang.specs.Table.{Effect, Goes, Begins, Pushes, Starts, Pops, as_value, as_values, as_word, as_truth, as_ref, as_slice, as_item, zero_item, sets, sets_both, makes, leaves, in_two_steps, block_slice, words_of, appends, enters, acted, effect}
use Rattle.gv_steps.specs.Bounds.{is_bounded_slice, is_bounded_value, are_bounded_values, is_bounded_cell, is_bounded_object, is_bounded_store, is_bounded_frame, is_roomy, has_spare_cell, is_begun_well, is_bounded_thread}
use Rattle.gv_steps.proofs.Passing.{set_passes, both_pass, replicate_passes, map_passes, mapped_passes, if_there, got_passes, if_next, then_next, then_any, unless_next}
use Rattle.gv_steps.proofs.BoundedCells.{read_cell_bounded, new_bounded, begin_bounded, end_bounded, begin_bytes_bounded, map_begin_bounded, map_end_bounded, lock_bounded, unlock_bounded, is_first_bounded, disk_read_bounded, disk_write_bounded, slice_within, slice_from, sub_bounded, longer_bounded, is_bounded_growth, append_grow_bounded}

-- ---- values

words_bounded : (o : Binary) (a b : ℕ) → if_there is_bounded_value (on_words o a b) ≡ true
words_bounded binary.Or a b = refl
words_bounded o a b = refl

truths_bounded : (o : Binary) (a b : Bool) → if_there is_bounded_value (on_truths o a b) ≡ true
truths_bounded binary.Or a b = refl
truths_bounded o a b = refl

compared_bounded : (o : Binary) (same : Bool) → if_there is_bounded_value (compared o same) ≡ true
compared_bounded binary.Or same = refl
compared_bounded o same = refl

one_bounded : (o : Unary) (v : Option Val) → if_there is_bounded_value (one o v) ≡ true
one_bounded unary.Not (Some (val.Bool b)) = refl
one_bounded unary.Complement (Some (val.Word n)) = refl
one_bounded o v = refl

two_bounded : (o : Binary) (a b : Option Val) → if_there is_bounded_value (two o a b) ≡ true
two_bounded o (Some (val.Word a)) (Some (val.Word b)) = words_bounded o a b
two_bounded o (Some (val.Bool a)) (Some (val.Bool b)) = truths_bounded o a b
two_bounded o (Some (val.Ref a)) (Some (val.Ref b)) = compared_bounded o (nat_eq a b)
two_bounded o (Some (val.Slice a)) (Some (val.Slice b)) = compared_bounded o (same_slice a b)
two_bounded o a b = refl

pub value_bounded : (locals : List Val) (e : Expr) → are_bounded_values locals ≡ true → if_there is_bounded_value (value locals e) ≡ true
value_bounded locals (Number n) h = refl
value_bounded locals (Truth b) h = refl
value_bounded locals Nil h = refl
value_bounded locals NilSlice h = refl
value_bounded locals (LocalAt x) h = got_passes is_bounded_value locals x h
value_bounded locals (One o e) h = one_bounded o (value locals e)
value_bounded locals (Two o a b) h = two_bounded o (value locals a) (value locals b)

also_bounded : (v : Option Val) (vs : Option (List Val)) → if_there is_bounded_value v ≡ true → if_there are_bounded_values vs ≡ true
    → if_there are_bounded_values (also v vs) ≡ true
also_bounded (Some v) (Some vs) h k = and_from (is_bounded_value v) (are_bounded_values vs) h k
also_bounded v vs h k = refl

pub values_bounded : (locals : List Val) (es : List Expr) → are_bounded_values locals ≡ true → if_there are_bounded_values (values locals es) ≡ true
values_bounded locals [] h = refl
values_bounded locals (e ∷ es) h = also_bounded (value locals e) (values locals es) (value_bounded locals e h) (values_bounded locals es h)

-- ---- operands

as_value_bounded : (v : Option Val) → if_there is_bounded_value v ≡ true → if_next is_bounded_value (as_value v) ≡ true
as_value_bounded (Some v) h = h
as_value_bounded None h = refl

as_values_bounded : (vs : Option (List Val)) → if_there are_bounded_values vs ≡ true → if_next are_bounded_values (as_values vs) ≡ true
as_values_bounded (Some vs) h = h
as_values_bounded None h = refl

as_slice_bounded : (v : Option Val) → if_there is_bounded_value v ≡ true → if_next is_bounded_slice (as_slice v) ≡ true
as_slice_bounded (Some (val.Slice s)) h = h
as_slice_bounded v h = refl

-- a slice that is an operand of a thread's next command
pub slice_operand : (th : Thread) (e : Expr) (s : SliceVal) → is_bounded_thread th ≡ true → as_slice (value th.top.locals e) ≡ Next s
    → (s.length ≤ s.capacity) × (s.offset + s.capacity < 2 ^ 63)
slice_operand th e s h is =
    let all = and_parts _ _ (and_parts _ _ h).0 in
    slice_within s (subst (λ x. if_next is_bounded_slice x ≡ true) is (as_slice_bounded (value th.top.locals e) (value_bounded th.top.locals e all.0)))

as_item_bounded : (of : ItemKind) (v : Option Val) → if_next is_bounded_value (as_item of v) ≡ true
as_item_bounded item.Byte (Some (val.Word n)) = refl
as_item_bounded item.Word (Some (val.Word n)) = refl
as_item_bounded item.Ref (Some (val.Ref r)) = refl
as_item_bounded of v = refl

zero_item_bounded : (of : ItemKind) → is_bounded_value (zero_item of) ≡ true
zero_item_bounded item.Byte = refl
zero_item_bounded item.Word = refl
zero_item_bounded item.Ref = refl

zero_of_bounded : (of : LocalKind) → is_bounded_value (zero_of of) ≡ true
zero_of_bounded kind.Word = refl
zero_of_bounded kind.Bool = refl
zero_of_bounded kind.Ref = refl
zero_of_bounded kind.Slice = refl

whole_bounded : (object n : ℕ) → nat_le too_long n ≡ false → is_bounded_slice (whole_of object n) ≡ true
whole_bounded object n e = let less = leb-false too_long n e in slice_from (whole_of object n) (omega arith) (omega (arith, less))

block_bounded : (found : Option ℕ) → is_bounded_slice (block_slice found) ≡ true
block_bounded (Some object) = refl
block_bounded None = refl

pub new_frame_bounded : (f : ℕ) (p : Proc) (args : List Val) (results : List ℕ) → are_bounded_values args ≡ true
    → is_bounded_frame (new_frame f p args results) ≡ true
new_frame_bounded f p args results h =
    both_pass is_bounded_value args (map (λ x. zero_of x.kind) (drop p.params p.locals)) h
    (map_passes is_bounded_value (λ x. zero_of x.kind) (drop p.params p.locals) (λ x. zero_of_bounded x.kind))

-- ---- effects

-- the room is whether an append that begins has a spare cell
abbrev pub is_bounded_effect : Bool → Effect → Bool
is_bounded_effect room (Goes w locals) = is_bounded_store w && are_bounded_values locals
is_bounded_effect room (Begins w) = is_bounded_store w && room
is_bounded_effect room (Pushes f) = is_bounded_frame f
is_bounded_effect room (Starts f) = is_bounded_frame f
is_bounded_effect room (Pops vs) = are_bounded_values vs

abbrev Bounded : Bool → Answer Effect → Type 0
Bounded room answer = if_next (is_bounded_effect room) answer ≡ true

sets_bounded : (room : Bool) (w : World) (locals : List Val) (x : ℕ) (v : Val) → is_bounded_store w ≡ true → are_bounded_values locals ≡ true
    → is_bounded_value v ≡ true
    → Bounded room (sets w locals x v)
sets_bounded room w locals x v hw hl hv =
    and_from (is_bounded_store w) (are_bounded_values (slice_set locals x v)) hw (set_passes is_bounded_value locals x v hl hv)

sets_both_bounded : (room : Bool) (w : World) (locals : List Val) (x y : ℕ) (v u : Val) → is_bounded_store w ≡ true → are_bounded_values locals ≡ true
    → is_bounded_value v ≡ true → is_bounded_value u ≡ true → Bounded room (sets_both w locals x y v u)
sets_both_bounded room w locals x y v u hw hl hv hu =
    sets_bounded room w (slice_set locals x v) y u hw (set_passes is_bounded_value locals x v hl hv) hu

makes_bounded : (room : Bool) (w : World) (locals : List Val) (x : ℕ) (object : Object) → is_bounded_store (with_new w object) ≡ true
    → are_bounded_values locals ≡ true
    → Bounded room (makes w locals x object)
makes_bounded room w locals x object hw hl = sets_bounded room (with_new w object) locals x (val.Ref (fresh w)) hw hl refl

leaves_bounded : (room : Bool) (locals : List Val) (answer : Answer World) → are_bounded_values locals ≡ true → if_next is_bounded_store answer ≡ true
    → Bounded room (leaves locals answer)
leaves_bounded room locals (Next w) hl h = and_from (is_bounded_store w) (are_bounded_values locals) h hl
leaves_bounded room locals Blocked hl h = refl
leaves_bounded room locals (Undefined reason) hl h = refl

begins_bounded : (room : Bool) (answer : Answer World) → room ≡ true → if_next is_bounded_store answer ≡ true
    → Bounded room (and_then answer (λ w. Next (Begins w)))
begins_bounded room (Next w) r h = and_from (is_bounded_store w) room h r
begins_bounded room Blocked r h = refl
begins_bounded room (Undefined reason) r h = refl

two_steps_bounded : (begun : Bool) (locals : List Val) (begin end : Answer World) → are_bounded_values locals ≡ true → if_next is_bounded_store begin ≡ true
    → if_next is_bounded_store end ≡ true → Bounded true (in_two_steps begun locals begin end)
two_steps_bounded false locals begin end hl hb he = begins_bounded true begin refl hb
two_steps_bounded true locals begin end hl hb he = leaves_bounded true locals end hl he

-- ---- the longer rows

gets_bounded : (w : World) (locals : List Val) (x ok m k : ℕ) (nil : Bool) → is_bounded_store w ≡ true → are_bounded_values locals ≡ true
    → Bounded true (if nil then sets_both w locals x ok (val.Word 0) (val.Bool false)
    else and_then (map_read w m k) (λ found. sets_both w locals x ok (val.Word (unwrap_or found 0)) (val.Bool (is_some found))))
gets_bounded w locals x ok m k true hw hl = sets_both_bounded true w locals x ok (val.Word 0) (val.Bool false) hw hl refl refl
gets_bounded w locals x ok m k false hw hl =
    then_any (is_bounded_effect true) (map_read w m k) (λ found. sets_both w locals x ok (val.Word (unwrap_or found 0)) (val.Bool (is_some found)))
    (λ found. sets_both_bounded true w locals x ok (val.Word (unwrap_or found 0)) (val.Bool (is_some found)) hw hl refl refl)

deletes_bounded : (begun : Bool) (w : World) (locals : List Val) (m k : ℕ) (nil : Bool) → is_bounded_store w ≡ true → are_bounded_values locals ≡ true
    → Bounded true (if nil then in_two_steps begun locals (Next w) (Next w) else in_two_steps begun locals (map_begin w m) (map_end w m k None))
deletes_bounded begun w locals m k true hw hl = two_steps_bounded begun locals (Next w) (Next w) hl hw hw
deletes_bounded begun w locals m k false hw hl =
    two_steps_bounded begun locals (map_begin w m) (map_end w m k None) hl (map_begin_bounded w m hw) (map_end_bounded w m k None hw)

words_of_bounded : (bytes : List ℕ) → are_bounded_values (words_of bytes) ≡ true
words_of_bounded bytes = map_passes is_bounded_value val.Word bytes (λ b. refl)

-- the first step of an append, by whether there is a spare cell
appends_first : (extra : ℕ) (w : World) (locals : List Val) (x : ℕ) (s : SliceVal) (v : Val) (spare : Bool) → is_bounded_store w ≡ true
    → are_bounded_values locals ≡ true
    → is_bounded_value v ≡ true → has_spare w s v ≡ spare
    → Bounded (nat_lt s.length s.capacity) (if spare
    then and_then (begin_write w s.object (spare_place s) 1) (λ after. Next (Begins after))
    else and_then (append_grow w s v extra) (λ grown. sets grown.0 locals x (val.Slice grown.1)))
appends_first extra w locals x s v true hw hl hv e =
    begins_bounded (nat_lt s.length s.capacity) (begin_write w s.object (spare_place s) 1) (and_parts _ _ e).0 (begin_bounded w s.object (spare_place s) 1 hw)
appends_first extra w locals x s v false hw hl hv e =
    then_next is_bounded_growth (is_bounded_effect (nat_lt s.length s.capacity)) (append_grow w s v extra)
    (λ grown. sets grown.0 locals x (val.Slice grown.1))
    (append_grow_bounded w s v extra hw hv)
    (λ grown k. let parts = and_parts (is_bounded_store grown.0) (is_bounded_slice grown.1) k in
    sets_bounded (nat_lt s.length s.capacity) grown.0 locals x (val.Slice grown.1) parts.0 hl parts.1)

appends_bounded : (extra : ℕ) (begun : Bool) (w : World) (locals : List Val) (x : ℕ) (s : SliceVal) (v : Val) → is_bounded_store w ≡ true
    → are_bounded_values locals ≡ true
    → is_bounded_slice s ≡ true → is_bounded_value v ≡ true → (begun ≡ true → nat_lt s.length s.capacity ≡ true)
    → Bounded (nat_lt s.length s.capacity) (appends extra begun w locals x s v)
appends_bounded extra false w locals x s v hw hl hs hv room = appends_first extra w locals x s v (has_spare w s v) hw hl hv refl
appends_bounded extra true w locals x s v hw hl hs hv room =
    then_next is_bounded_store (is_bounded_effect (nat_lt s.length s.capacity)) (end_write w s.object (spare_place s) (v ∷ []))
    (λ after. sets after locals x (val.Slice (longer s)))
    (end_bounded w s.object (spare_place s) (v ∷ []) hw (and_from (is_bounded_value v) true hv refl))
    (λ after k. sets_bounded (nat_lt s.length s.capacity) after locals x (val.Slice (longer s)) k hl (longer_bounded s hs (room refl)))

-- by the value that it appends to
append_bounded : (extra : ℕ) (begun : Bool) (w : World) (locals : List Val) (x : ℕ) (of : ItemKind) (found v : Option Val) → is_bounded_store w ≡ true
    → are_bounded_values locals ≡ true → if_there is_bounded_value found ≡ true → (begun ≡ true → is_roomy found ≡ true)
    → Bounded (is_roomy found) (and_then (as_slice found) (λ s. and_then (as_item of v) (λ u. appends extra begun w locals x s u)))
append_bounded extra begun w locals x of (Some (val.Slice s)) v hw hl hs room =
    then_next is_bounded_value (is_bounded_effect (nat_lt s.length s.capacity)) (as_item of v) (λ u. appends extra begun w locals x s u)
    (as_item_bounded of v)
    (λ u k. appends_bounded extra begun w locals x s u hw hl hs k room)
append_bounded extra begun w locals x of found v hw hl hs room = refl

enters_bounded : (as_effect : Frame → Effect) (f : ℕ) (found : Option Proc) (args : List Val) (results : List ℕ) → are_bounded_values args ≡ true
    → ((frame : Frame) → is_bounded_frame frame ≡ true → is_bounded_effect true (as_effect frame) ≡ true)
    → Bounded true (enters as_effect f found args results)
enters_bounded as_effect f (Some p) args results h each = each (new_frame f p args results) (new_frame_bounded f p args results h)
enters_bounded as_effect f None args results h each = refl

-- ---- the table

module _ (g : Program) (extra : ℕ) (begun : Bool) (locals : List Val) (w : World) (hl : are_bounded_values locals ≡ true)
    (hw : is_bounded_store w ≡ true) where
  on_word : (e : Expr) (f : ℕ → Answer Effect) → ((n : ℕ) → Bounded true (f n)) → Bounded true (and_then (as_word (value locals e)) f)
  on_word e f each = then_any (is_bounded_effect true) (as_word (value locals e)) f each

  on_ref : (e : Expr) (f : ℕ → Answer Effect) → ((r : ℕ) → Bounded true (f r)) → Bounded true (and_then (as_ref (value locals e)) f)
  on_ref e f each = then_any (is_bounded_effect true) (as_ref (value locals e)) f each

  on_slice : (e : Expr) (f : SliceVal → Answer Effect) → ((s : SliceVal) → is_bounded_slice s ≡ true → Bounded true (f s))
      → Bounded true (and_then (as_slice (value locals e)) f)
  on_slice e f each =
      then_next is_bounded_slice (is_bounded_effect true) (as_slice (value locals e)) f (as_slice_bounded (value locals e) (value_bounded locals e hl)) each

  on_any : (e : Expr) (f : Val → Answer Effect) → ((v : Val) → is_bounded_value v ≡ true → Bounded true (f v))
      → Bounded true (and_then (as_value (value locals e)) f)
  on_any e f each =
      then_next is_bounded_value (is_bounded_effect true) (as_value (value locals e)) f (as_value_bounded (value locals e) (value_bounded locals e hl)) each

  on_all : (es : List Expr) (f : List Val → Answer Effect) → ((vs : List Val) → are_bounded_values vs ≡ true → Bounded true (f vs))
      → Bounded true (and_then (as_values (values locals es)) f)
  on_all es f each =
      then_next are_bounded_values (is_bounded_effect true) (as_values (values locals es)) f
      (as_values_bounded (values locals es) (values_bounded locals es hl)) each

  sets_here : (x : ℕ) (v : Val) → is_bounded_value v ≡ true → Bounded true (sets w locals x v)
  sets_here x v h = sets_bounded true w locals x v hw hl h

  writes : (begin end : Answer World) → if_next is_bounded_store begin ≡ true → if_next is_bounded_store end ≡ true
      → Bounded true (in_two_steps begun locals begin end)
  writes begin end hb he = two_steps_bounded begun locals begin end hl hb he

  left_here : (answer : Answer World) → if_next is_bounded_store answer ≡ true → Bounded true (leaves locals answer)
  left_here answer h = leaves_bounded true locals answer hl h

  makes_here : (x : ℕ) (object : Object) → is_bounded_object object ≡ true → Bounded true (makes w locals x object)
  makes_here x object h = makes_bounded true w locals x object (new_bounded w object hw h) hl

  divides : (x m n : ℕ) (v : Val) → is_bounded_value v ≡ true → Bounded true (undefined_if (nat_eq n 0) DivideByZero (sets w locals x v))
  divides x m n v h = unless_next (is_bounded_effect true) (nat_eq n 0) DivideByZero (sets w locals x v) (λ e. sets_here x v h)

  pub acted_bounded : (a : Action) (place : Place) → is_begun_well begun locals (Some (Do a place)) ≡ true
      → Bounded (has_spare_cell locals (Some (Do a place))) (acted g extra begun locals w a)
  acted_bounded (Let x e) place hb = on_any e (λ v. sets w locals x v) (λ v h. sets_here x v h)
  acted_bounded (Div x a b) place hb = on_word a _ (λ m. on_word b _ (λ n. divides x m n (val.Word (m / n)) refl))
  acted_bounded (Rem x a b) place hb = on_word a _ (λ m. on_word b _ (λ n. divides x m n (val.Word (m % n)) refl))
  acted_bounded (New x of vs) place hb =
      on_all vs _ (λ items h. makes_here x (Cells (map new_cell items)) (mapped_passes is_bounded_cell is_bounded_value new_cell items (λ v k. k) h))
  acted_bounded (Load x p of field) place hb =
      on_ref p _ (λ o. then_next is_bounded_value (is_bounded_effect true) (read_cell w o field) (λ v. sets w locals x v) (read_cell_bounded w o field hw)
      (λ v h. sets_here x v h))
  acted_bounded (Store p of field e) place hb =
      on_ref p _ (λ o. on_any e _ (λ v h. writes (begin_write w o field 1) (end_write w o field (v ∷ [])) (begin_bounded w o field 1 hw)
      (end_bounded w o field (v ∷ []) hw (and_from (is_bounded_value v) true h refl))))
  acted_bounded (MakeSlice x item n) place hb =
      on_word n _ (λ count. unless_next (is_bounded_effect true) (nat_le too_long count) OutOfRange _
      (λ e. sets_bounded true (with_new w (Cells (replicate count (new_cell (zero_item item))))) locals x (val.Slice (whole_of (fresh w) count))
      (new_bounded w (Cells (replicate count (new_cell (zero_item item)))) hw
      (replicate_passes is_bounded_cell count (new_cell (zero_item item)) (zero_item_bounded item)))
      hl (whole_bounded (fresh w) count e)))
  acted_bounded (At x s i) place hb =
      on_slice s _ (λ t ht. on_word i _ (λ n. unless_next (is_bounded_effect true) (not (nat_lt n t.length)) OutOfRange _
      (λ e. then_next is_bounded_value (is_bounded_effect true) (read_cell w t.object (t.offset + n)) (λ v. sets w locals x v)
      (read_cell_bounded w t.object (t.offset + n) hw) (λ v h. sets_here x v h))))
  acted_bounded (Put s i v) place hb =
      on_slice s _ (λ t ht. on_word i _ (λ n. on_any v _ (λ u h. unless_next (is_bounded_effect true) (not (nat_lt n t.length)) OutOfRange _
      (λ e. writes (begin_write w t.object (t.offset + n) 1) (end_write w t.object (t.offset + n) (u ∷ [])) (begin_bounded w t.object (t.offset + n) 1 hw)
      (end_bounded w t.object (t.offset + n) (u ∷ []) hw (and_from (is_bounded_value u) true h refl))))))
  acted_bounded (Len x s) place hb = on_slice s _ (λ t ht. sets_here x (val.Word t.length) refl)
  acted_bounded (NewMap x) place hb = makes_here x (Map [] false) refl
  acted_bounded (MapGet x ok m k) place hb = on_ref m _ (λ o. on_word k _ (λ n. gets_bounded w locals x ok o n (nat_eq o 0) hw hl))
  acted_bounded (MapPut m k v) place hb =
      on_ref m _ (λ o. on_word k _ (λ n. on_word v _ (λ u. writes (map_begin w o) (map_end w o n (Some u)) (map_begin_bounded w o hw)
      (map_end_bounded w o n (Some u) hw))))
  acted_bounded (MapDelete m k) place hb = on_ref m _ (λ o. on_word k _ (λ n. deletes_bounded begun w locals o n (nat_eq o 0) hw hl))
  acted_bounded (NewMutex x) place hb = makes_here x (Mutex false) refl
  acted_bounded (Lock m) place hb = on_ref m _ (λ o. left_here (lock w o) (lock_bounded w o hw))
  acted_bounded (Unlock m) place hb = on_ref m _ (λ o. left_here (unlock w o) (unlock_bounded w o hw))
  acted_bounded (DiskRead x a) place hb =
      on_word a _ (λ n. then_next is_first_bounded (is_bounded_effect true) (disk_read w 0 n) _ (disk_read_bounded w 0 n hw)
      (λ read h. sets_bounded true read.0 locals x (val.Slice (block_slice read.1)) h hl (block_bounded read.1)))
  acted_bounded (DiskRead2 x ok d a) place hb =
      on_word d _ (λ k. on_word a _ (λ n. then_next is_first_bounded (is_bounded_effect true) (disk_read w k n) _ (disk_read_bounded w k n hw)
      (λ read h. sets_both_bounded true read.0 locals x ok (val.Slice (block_slice read.1)) (val.Bool (is_some read.1)) h hl (block_bounded read.1) refl)))
  acted_bounded (DiskWrite d a s) place hb =
      on_word d _ (λ k. on_word a _ (λ n. on_slice s _ (λ t ht. left_here (disk_write w k n t) (disk_write_bounded w k n t hw))))
  acted_bounded (DiskSize x) place hb = sets_here x (val.Word (disk_size w)) refl
  acted_bounded (Get64 x s) place hb =
      on_slice s _ (λ t ht. unless_next (is_bounded_effect true) (nat_lt t.length 8) OutOfRange _
      (λ e. then_any (is_bounded_effect true) (read_bytes w t.object t.offset 8) (λ bytes. sets w locals x (val.Word (un64 bytes)))
      (λ bytes. sets_here x (val.Word (un64 bytes)) refl)))
  acted_bounded (Put64 s v) place hb =
      on_slice s _ (λ t ht. on_word v _ (λ n. unless_next (is_bounded_effect true) (nat_lt t.length 8) OutOfRange _
      (λ e. writes (begin_bytes w t.object t.offset 8) (end_write w t.object t.offset (words_of (le64 n))) (begin_bytes_bounded w t.object t.offset 8 hw)
      (end_bounded w t.object t.offset (words_of (le64 n)) hw (words_of_bounded (le64 n))))))
  acted_bounded (Sub x s a b) place hb =
      on_slice s _ (λ t ht. on_word a _ (λ m. on_word b _ (λ n. then_next is_bounded_slice (is_bounded_effect true) (sub t m n)
      (λ part. sets w locals x (val.Slice part))
      (sub_bounded t m n ht) (λ part h. sets_here x (val.Slice part) h))))
  acted_bounded (Append x item s v) place hb =
      append_bounded extra begun w locals x item (value locals s) (value locals v) hw hl (value_bounded locals s hl) (well begun hb)
    where
      well : (b : Bool) → is_begun_well b locals (Some (Do (Append x item s v) place)) ≡ true → b ≡ true → is_roomy (value locals s) ≡ true
      well true h e = h
      well false h e = absurd (cc)
  acted_bounded (Call xs f es) place hb = on_all es _ (λ args h. enters_bounded Pushes f (slice_get g.procs f) args xs h (λ frame k. k))
  acted_bounded (Spawn f es) place hb = on_all es _ (λ args h. enters_bounded Starts f (slice_get g.procs f) args [] h (λ frame k. k))

  stays : Bounded true (Next (Goes w locals))
  stays = and_from (is_bounded_store w) (are_bounded_values locals) hw hl

  pub effect_bounded : (c : Option Cmd) → is_begun_well begun locals c ≡ true → Bounded (has_spare_cell locals c) (effect g extra begun locals w c)
  effect_bounded None hb = refl
  effect_bounded (Some (Do a place)) hb = acted_bounded a place hb
  effect_bounded (Some (If e t f place)) hb = then_any (is_bounded_effect true) (as_truth (value locals e)) (λ v. Next (Goes w locals)) (λ v. stays)
  effect_bounded (Some (Loop body place)) hb = stays
  effect_bounded (Some (Break place)) hb = stays
  effect_bounded (Some (Continue place)) hb = stays
  effect_bounded (Some (Return es place)) hb = on_all es (λ vs. Next (Pops vs)) (λ vs h. h)
