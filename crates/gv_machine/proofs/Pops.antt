-- Only a Return ends a thread.
use Rattle.std.proofs.Common.{◌≡◌, ℕ, ◌+◌, Bool, true, false, List, [], ◌∷◌, Option, Some, None, refl, sym, ap, ◌∙◌, subst}
use Rattle.std.specs.Option.{unwrap_or}
use Rattle.std.specs.Prelude.{if◌then◌else◌, not, option_and_then, slice_get, nat_eq, nat_le, nat_lt, is_some}
use Rattle.gv_base.specs.declared.answer.Answer.{Answer}
use Rattle.gv_base.specs.declared.answer.Answer.TheVariants.{Next, Blocked, Undefined}
use Rattle.gv_base.specs.declared.reason.Reason.{Reason}
use Rattle.gv_base.specs.declared.reason.Reason.TheVariants.{DivideByZero, OutOfRange}
use Rattle.gv_base.specs.declared.slice_val.SliceVal.{SliceVal}
use Rattle.gv_base.specs.declared.val.Val.{Val}
use Rattle.gv_base.specs.declared.val.Val.TheVariants as val
use Rattle.gv_words.specs.Words.{le64}
use Rattle.gv_world.specs.Answers.{and_then, undefined_if}
use Rattle.gv_world.specs.Store.{Store as World}
use Rattle.gv_world.specs.Cells.{read_cell, begin_write, end_write, read_bytes, begin_bytes}
use Rattle.gv_world.specs.FiniteMaps.{map_read, map_begin, map_end}
use Rattle.gv_world.specs.Mutexes.{lock, unlock}
use Rattle.gv_world.specs.Disks.{disk_read, disk_write}
use Rattle.gv_world.specs.Slices.{too_long, sub, has_spare, spare_place, append_grow}
use Rattle.gv_lang.specs.Values.{value, values}
use Rattle.gv_lang.specs.Tree.{Action, Let, Div, Rem, New, Load, Store, MakeSlice, At, Put, Len, NewMap, MapGet, MapPut, MapDelete, NewMutex, Lock, Unlock, DiskRead, DiskRead2, DiskWrite, DiskSize, Get64, Put64, Sub, Append, Call, Spawn, Cmd, Do, If, Loop, Break, Continue, Return, Expr, Proc, Program}
use Rattle.gv_lang.specs.Table.{Effect, Goes, Begins, Pushes, Starts, Pops, as_value, as_values, as_word, as_truth, as_ref, as_slice, as_item, sets, sets_both, leaves, in_two_steps, words_of, appends, enters, acted, effect}
use Rattle.gv_lang.specs.Threads.{Frame, Thread}
use Rattle.gv_lang.specs.Todo.{Todo, Run, Mark, head, onward}
use Rattle.gv_lang.specs.Step.{Stepped, GoesOn, Returns, truth, returned, settled, stepped}
use Rattle.gv_machine.specs.Returning.{returned_by, returned_alone, returned_next}

abbrev is_pop : Answer Effect → Bool
is_pop (Next (Pops vs)) = true
is_pop _ = false

record NoPop (row : Answer Effect) : Type 0 where
  none : is_pop row ≡ false

goes_none : (w : World) (locals : List Val) → NoPop (Next (Goes w locals))
goes_none w locals = record { none = refl }

begins_none : (w : World) → NoPop (Next (Begins w))
begins_none w = record { none = refl }

undefined_none : (r : Reason) → NoPop (Undefined r)
undefined_none r = record { none = refl }

then_none : {A : Type 0} (x : Answer A) (f : A → Answer Effect) → ((a : A) → NoPop (f a)) → NoPop (and_then x f)
then_none (Next a) f h = h a
then_none Blocked f h = record { none = refl }
then_none (Undefined r) f h = undefined_none r

if_none : (b : Bool) (r : Reason) (x : Answer Effect) → NoPop x → NoPop (undefined_if b r x)
if_none true r x h = undefined_none r
if_none false r x h = h

choice_none : (b : Bool) (x y : Answer Effect) → NoPop x → NoPop y → NoPop (if b then x else y)
choice_none true x y h k = h
choice_none false x y h k = k

leaves_none : (locals : List Val) (x : Answer World) → NoPop (leaves locals x)
leaves_none locals x = then_none x _ (λ w. goes_none _ _)

two_none : (begun : Bool) (locals : List Val) (begin end : Answer World) → NoPop (in_two_steps begun locals begin end)
two_none false locals begin end = then_none begin _ (λ w. begins_none _)
two_none true locals begin end = leaves_none locals end

pushes_none : (f : ℕ) (p : Option Proc) (args : List Val) (results : List ℕ) → NoPop (enters Pushes f p args results)
pushes_none f (Some p) args results = record { none = refl }
pushes_none f None args results = undefined_none _

starts_none : (f : ℕ) (p : Option Proc) (args : List Val) (results : List ℕ) → NoPop (enters Starts f p args results)
starts_none f (Some p) args results = record { none = refl }
starts_none f None args results = undefined_none _

appends_none : (extra : ℕ) (begun : Bool) (w : World) (locals : List Val) (x : ℕ) (s : SliceVal) (v : Val) → NoPop (appends extra begun w locals x s v)
appends_none extra true w locals x s v = then_none (end_write w s.object (spare_place s) (v ∷ [])) _ (λ after. goes_none _ _)
appends_none extra false w locals x s v =
    choice_none (has_spare w s v)
    (and_then (begin_write w s.object (spare_place s) 1) (λ after. Next (Begins after)))
    (and_then (append_grow w s v extra) (λ grown. sets grown.0 locals x (val.Slice grown.1)))
    (then_none (begin_write w s.object (spare_place s) 1) _ (λ after. begins_none _))
    (then_none (append_grow w s v extra) _ (λ grown. goes_none _ _))

gets_none : (empty : Bool) (w : World) (locals : List Val) (x ok m k : ℕ) → NoPop (if empty then sets_both w locals x ok (val.Word 0) (val.Bool false)
    else and_then (map_read w m k) (λ found. sets_both w locals x ok (val.Word (unwrap_or found 0)) (val.Bool (is_some found))))
gets_none true w locals x ok m k = goes_none _ _
gets_none false w locals x ok m k = then_none (map_read w m k) _ (λ found. goes_none _ _)

deletes_none : (empty begun : Bool) (w : World) (locals : List Val) (m k : ℕ)
    → NoPop (if empty then in_two_steps begun locals (Next w) (Next w) else in_two_steps begun locals (map_begin w m) (map_end w m k None))
deletes_none true begun w locals m k = two_none begun locals (Next w) (Next w)
deletes_none false begun w locals m k = two_none begun locals (map_begin w m) (map_end w m k None)

module _ (g : Program) (extra : ℕ) (begun : Bool) (locals : List Val) (w : World) where
  word_none : (e : Expr) (f : ℕ → Answer Effect) → ((n : ℕ) → NoPop (f n)) → NoPop (and_then (as_word (value locals e)) f)
  word_none e f h = then_none (as_word (value locals e)) f h

  ref_none : (e : Expr) (f : ℕ → Answer Effect) → ((n : ℕ) → NoPop (f n)) → NoPop (and_then (as_ref (value locals e)) f)
  ref_none e f h = then_none (as_ref (value locals e)) f h

  slice_none : (e : Expr) (f : SliceVal → Answer Effect) → ((s : SliceVal) → NoPop (f s)) → NoPop (and_then (as_slice (value locals e)) f)
  slice_none e f h = then_none (as_slice (value locals e)) f h

  any_none : (e : Expr) (f : Val → Answer Effect) → ((v : Val) → NoPop (f v)) → NoPop (and_then (as_value (value locals e)) f)
  any_none e f h = then_none (as_value (value locals e)) f h

  all_none : (es : List Expr) (f : List Val → Answer Effect) → ((vs : List Val) → NoPop (f vs)) → NoPop (and_then (as_values (values locals es)) f)
  all_none es f h = then_none (as_values (values locals es)) f h

  acted_none : (a : Action) → NoPop (acted g extra begun locals w a)
  acted_none (Let x e) = any_none e _ (λ v. goes_none _ _)
  acted_none (Div x a b) = word_none a _ (λ m. word_none b _ (λ n. if_none (nat_eq n 0) DivideByZero _ (goes_none _ _)))
  acted_none (Rem x a b) = word_none a _ (λ m. word_none b _ (λ n. if_none (nat_eq n 0) DivideByZero _ (goes_none _ _)))
  acted_none (New x of vs) = all_none vs _ (λ items. goes_none _ _)
  acted_none (Load x p of field) = ref_none p _ (λ o. then_none (read_cell w o field) _ (λ v. goes_none _ _))
  acted_none (Store p of field e) = ref_none p _ (λ o. any_none e _ (λ v. two_none begun locals (begin_write w o field 1) (end_write w o field (v ∷ []))))
  acted_none (MakeSlice x item n) = word_none n _ (λ count. if_none (nat_le too_long count) OutOfRange _ (goes_none _ _))
  acted_none (At x s i) = slice_none s _ (λ t. word_none i _ (λ n. if_none (not (nat_lt n t.length)) OutOfRange _
      (then_none (read_cell w t.object (t.offset + n)) _ (λ v. goes_none _ _))))
  acted_none (Put s i v) = slice_none s _ (λ t. word_none i _ (λ n. any_none v _ (λ u. if_none (not (nat_lt n t.length)) OutOfRange _
      (two_none begun locals (begin_write w t.object (t.offset + n) 1) (end_write w t.object (t.offset + n) (u ∷ []))))))
  acted_none (Len x s) = slice_none s _ (λ t. goes_none _ _)
  acted_none (NewMap x) = goes_none _ _
  acted_none (MapGet x ok m k) = ref_none m _ (λ o. word_none k _ (λ n. gets_none (nat_eq o 0) w locals x ok o n))
  acted_none (MapPut m k v) = ref_none m _ (λ o. word_none k _ (λ n. word_none v _ (λ u. two_none begun locals (map_begin w o) (map_end w o n (Some u)))))
  acted_none (MapDelete m k) = ref_none m _ (λ o. word_none k _ (λ n. deletes_none (nat_eq o 0) begun w locals o n))
  acted_none (NewMutex x) = goes_none _ _
  acted_none (Lock m) = ref_none m _ (λ o. leaves_none locals (lock w o))
  acted_none (Unlock m) = ref_none m _ (λ o. leaves_none locals (unlock w o))
  acted_none (DiskRead x a) = word_none a _ (λ n. then_none (disk_read w 0 n) _ (λ read. goes_none _ _))
  acted_none (DiskRead2 x ok d a) = word_none d _ (λ k. word_none a _ (λ n. then_none (disk_read w k n) _ (λ read. goes_none _ _)))
  acted_none (DiskWrite d a s) = word_none d _ (λ k. word_none a _ (λ n. slice_none s _ (λ t. leaves_none locals (disk_write w k n t))))
  acted_none (DiskSize x) = goes_none _ _
  acted_none (Get64 x s) = slice_none s _ (λ t. if_none (nat_lt t.length 8) OutOfRange _ (then_none (read_bytes w t.object t.offset 8) _ (λ bytes. goes_none _ _)))
  acted_none (Put64 s v) = slice_none s _ (λ t. word_none v _ (λ n. if_none (nat_lt t.length 8) OutOfRange _
      (two_none begun locals (begin_bytes w t.object t.offset 8) (end_write w t.object t.offset (words_of (le64 n))))))
  acted_none (Sub x s a b) = slice_none s _ (λ t. word_none a _ (λ m. word_none b _ (λ n. then_none (sub t m n) _ (λ part. goes_none _ _))))
  acted_none (Append x item s v) = slice_none s _ (λ t. then_none (as_item item (value locals v)) _ (λ u. appends_none extra begun w locals x t u))
  acted_none (Call xs f es) = all_none es _ (λ args. pushes_none f (slice_get g.procs f) args xs)
  acted_none (Spawn f es) = all_none es _ (λ args. starts_none f (slice_get g.procs f) args [])

  effect_none : (next : Option Cmd) → option_and_then returned_by next ≡ None → NoPop (effect g extra begun locals w next)
  effect_none None e = undefined_none _
  effect_none (Some (Do a place)) e = acted_none a
  effect_none (Some (If c t f place)) e = then_none (as_truth (value locals c)) _ (λ v. goes_none _ _)
  effect_none (Some (Loop body place)) e = goes_none _ _
  effect_none (Some (Break place)) e = goes_none _ _
  effect_none (Some (Continue place)) e = goes_none _ _
  effect_none (Some (Return es place)) e = absurd cc

-- ---- what is left

abbrev is_end : Answer Stepped → Bool
is_end (Next (Returns w vs)) = true
is_end _ = false

settled_none : (th : Thread) (w : World) (rest : Option Todo) (e : Effect) → is_pop (Next e) ≡ false → is_end (settled th w rest e) ≡ false
settled_none th w rest (Pops vs) h = absurd cc
settled_none th w rest (Begins after) h = refl
settled_none th w (Some rest) (Goes after locals) h = refl
settled_none th w (Some rest) (Pushes f) h = refl
settled_none th w (Some rest) (Starts f) h = refl
settled_none th w None (Goes after locals) h = refl
settled_none th w None (Pushes f) h = refl
settled_none th w None (Starts f) h = refl

row_none : (th : Thread) (w : World) (rest : Option Todo) (row : Answer Effect) → NoPop row → is_end (and_then row (settled th w rest)) ≡ false
row_none th w rest (Next e) h = settled_none th w rest e h.none
row_none th w rest Blocked h = refl
row_none th w rest (Undefined r) h = refl

returned_none : (f : Frame) (below : List Frame) (w : World) (xs : List ℕ) (vs : List Val) → is_end (Next (returned (f ∷ below) w xs vs)) ≡ false
returned_none f below w xs vs = refl

-- a thread with another frame goes on whatever its effect is
below_none : (th : Thread) (w : World) (rest : Option Todo) (f : Frame) (below : List Frame) (e : Effect) → th.below ≡ f ∷ below → is_end (settled th w rest e) ≡ false
below_none th w rest f below (Pops vs) b = ap (λ fs. is_end (Next (returned fs w th.top.results vs))) b
below_none th w rest f below (Begins after) b = refl
below_none th w (Some rest) f below (Goes after locals) b = refl
below_none th w (Some rest) f below (Pushes g) b = refl
below_none th w (Some rest) f below (Starts g) b = refl
below_none th w None f below (Goes after locals) b = refl
below_none th w None f below (Pushes g) b = refl
below_none th w None f below (Starts g) b = refl

below_row : (th : Thread) (w : World) (rest : Option Todo) (f : Frame) (below : List Frame) (row : Answer Effect) → th.below ≡ f ∷ below
    → is_end (and_then row (settled th w rest)) ≡ false
below_row th w rest f below (Next e) b = below_none th w rest f below e b
below_row th w rest f below Blocked b = refl
below_row th w rest f below (Undefined r) b = refl

by_below : (g : Program) (extra : ℕ) (th : Thread) (w : World) (below : List Frame) → th.below ≡ below → returned_alone below (head th.top.todo) ≡ None
    → is_end (stepped g extra th w) ≡ false
by_below g extra th w [] b e =
    row_none th w (onward (truth th.top.locals (head th.top.todo)) th.top.todo) (effect g extra th.begun th.top.locals w (head th.top.todo))
    (effect_none g extra th.begun th.top.locals w (head th.top.todo) e)
by_below g extra th w (f ∷ below) b e =
    below_row th w (onward (truth th.top.locals (head th.top.todo)) th.top.todo) f below (effect g extra th.begun th.top.locals w (head th.top.todo)) b

pub goes_on : (g : Program) (extra : ℕ) (th : Thread) (w after : World) (vs : List Val) → returned_next th ≡ None
    → stepped g extra th w ≡ Next (Returns after vs) → ⊥
goes_on g extra th w after vs e s =
    let no : is_end (stepped g extra th w) ≡ false = by_below g extra th w th.below refl e in
    let yes : is_end (stepped g extra th w) ≡ true = ap is_end s in
    cc
