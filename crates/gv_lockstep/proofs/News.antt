-- The frames that commands make are at the entries of their procedures.
use Rattle.std.proofs.Common.{◌≡◌, ℕ, ◌+◌, Bool, true, false, List, [], ◌∷◌, Option, Some, None, refl, slice_get, nat_eq, nat_le, nat_lt}
use Rattle.std.specs.Option.{unwrap_or}
use Rattle.std.specs.Prelude.{if◌then◌else◌, not, is_some}
use Rattle.gv_base.specs.declared.answer.Answer.{Answer}
use Rattle.gv_base.specs.declared.answer.Answer.TheVariants.{Next, Blocked, Undefined}
use Rattle.gv_base.specs.declared.reason.Reason.{Reason}
use Rattle.gv_base.specs.declared.reason.Reason.TheVariants.{DivideByZero, OutOfRange}
use Rattle.gv_base.specs.declared.slice_val.SliceVal.{SliceVal}
use Rattle.gv_base.specs.declared.val.Val.{Val}
use Rattle.gv_base.specs.declared.val.Val.TheVariants as val
use Rattle.gv_words.specs.Words.{le64}
use Rattle.gv_world.specs.Answers.{and_then, undefined_if}
use Rattle.gv_world.specs.Store.{Store as World}
use Rattle.gv_world.specs.Cells.{read_cell, begin_write, end_write, read_bytes, begin_bytes}
use Rattle.gv_world.specs.FiniteMaps.{map_read, map_begin, map_end}
use Rattle.gv_world.specs.Mutexes.{lock, unlock}
use Rattle.gv_world.specs.Disks.{disk_read, disk_write}
use Rattle.gv_world.specs.Slices.{too_long, sub, has_spare, spare_place, append_grow}
use Rattle.gv_lang.specs.Values.{value, values}
use Rattle.gv_lang.specs.Tree.{Action, Let, Div, Rem, New, Load, Store, MakeSlice, At, Put, Len, NewMap, MapGet, MapPut, MapDelete, NewMutex, Lock, Unlock, DiskRead, DiskRead2, DiskWrite, DiskSize, Get64, Put64, Sub, Append, Call, Spawn, Cmd, Do, If, Loop, Break, Continue, Return, Expr, Proc, Program}
use Rattle.gv_lang.specs.Table.{Effect, Goes, Begins, Pushes, Starts, Pops, as_value, as_values, as_word, as_truth, as_ref, as_slice, as_item, sets, sets_both, leaves, in_two_steps, words_of, appends, enters, acted, effect}
use Rattle.gv_lang.specs.Threads.{new_frame}
use Rattle.gv_lockstep.specs.Ways.{CameBy}

-- each new frame of each procedure is at its entry
abbrev pub Enters : Program → Type 0
Enters g = (f : ℕ) (p : Proc) (args : List Val) (results : List ℕ) → slice_get g.procs f ≡ Some p → CameBy g (new_frame f p args results) (1 ∷ [])

-- a frame that an effect makes is
abbrev pub IsNew : Program → Effect → Type 0
IsNew g (Pushes f) = CameBy g f (1 ∷ [])
IsNew g (Starts f) = CameBy g f (1 ∷ [])
IsNew g (Goes w locals) = Unit {0}
IsNew g (Begins w) = Unit {0}
IsNew g (Pops vs) = Unit {0}

abbrev IfNext : Program → Answer Effect → Type 0
IfNext g (Next e) = IsNew g e
IfNext g Blocked = Unit {0}
IfNext g (Undefined reason) = Unit {0}

pub record IfNew (g : Program) (row : Answer Effect) : Type 0 where
  pub new : IfNext g row

module _ (g : Program) where
  goes_new : (w : World) (locals : List Val) → IfNew g (Next (Goes w locals))
  goes_new w locals = record { new = tt }

  begins_new : (w : World) → IfNew g (Next (Begins w))
  begins_new w = record { new = tt }

  undefined_new : (r : Reason) → IfNew g (Undefined r)
  undefined_new r = record { new = tt }

  then_new : {A : Type 0} (x : Answer A) (f : A → Answer Effect) → ((a : A) → IfNew g (f a)) → IfNew g (and_then x f)
  then_new (Next a) f h = h a
  then_new Blocked f h = record { new = tt }
  then_new (Undefined r) f h = undefined_new r

  if_new : (b : Bool) (r : Reason) (x : Answer Effect) → IfNew g x → IfNew g (undefined_if b r x)
  if_new true r x h = undefined_new r
  if_new false r x h = h

  choice_new : (b : Bool) (x y : Answer Effect) → IfNew g x → IfNew g y → IfNew g (if b then x else y)
  choice_new true x y h k = h
  choice_new false x y h k = k

  leaves_new : (locals : List Val) (x : Answer World) → IfNew g (leaves locals x)
  leaves_new locals x = then_new x _ (λ w. goes_new _ _)

  two_new : (begun : Bool) (locals : List Val) (begin end : Answer World) → IfNew g (in_two_steps begun locals begin end)
  two_new false locals begin end = then_new begin _ (λ w. begins_new _)
  two_new true locals begin end = leaves_new locals end

  appends_new : (extra : ℕ) (begun : Bool) (w : World) (locals : List Val) (x : ℕ) (s : SliceVal) (v : Val) → IfNew g (appends extra begun w locals x s v)
  appends_new extra true w locals x s v = then_new (end_write w s.object (spare_place s) (v ∷ [])) _ (λ after. goes_new _ _)
  appends_new extra false w locals x s v =
      choice_new (has_spare w s v)
      (and_then (begin_write w s.object (spare_place s) 1) (λ after. Next (Begins after)))
      (and_then (append_grow w s v extra) (λ grown. sets grown.0 locals x (val.Slice grown.1)))
      (then_new (begin_write w s.object (spare_place s) 1) _ (λ after. begins_new _))
      (then_new (append_grow w s v extra) _ (λ grown. goes_new _ _))

  gets_new : (empty : Bool) (w : World) (locals : List Val) (x ok m k : ℕ) → IfNew g (if empty then sets_both w locals x ok (val.Word 0) (val.Bool false)
      else and_then (map_read w m k) (λ found. sets_both w locals x ok (val.Word (unwrap_or found 0)) (val.Bool (is_some found))))
  gets_new true w locals x ok m k = goes_new _ _
  gets_new false w locals x ok m k = then_new (map_read w m k) _ (λ found. goes_new _ _)

  deletes_new : (empty begun : Bool) (w : World) (locals : List Val) (m k : ℕ)
      → IfNew g (if empty then in_two_steps begun locals (Next w) (Next w) else in_two_steps begun locals (map_begin w m) (map_end w m k None))
  deletes_new true begun w locals m k = two_new begun locals (Next w) (Next w)
  deletes_new false begun w locals m k = two_new begun locals (map_begin w m) (map_end w m k None)

  pushes_new : Enters g → (f : ℕ) (p : Option Proc) (args : List Val) (results : List ℕ) → slice_get g.procs f ≡ p → IfNew g (enters Pushes f p args results)
  pushes_new h f (Some p) args results e = record { new = h f p args results e }
  pushes_new h f None args results e = undefined_new _

  starts_new : Enters g → (f : ℕ) (p : Option Proc) (args : List Val) (results : List ℕ) → slice_get g.procs f ≡ p → IfNew g (enters Starts f p args results)
  starts_new h f (Some p) args results e = record { new = h f p args results e }
  starts_new h f None args results e = undefined_new _

module _ (g : Program) (h : Enters g) (extra : ℕ) (begun : Bool) (locals : List Val) (w : World) where
  word_new : (e : Expr) (f : ℕ → Answer Effect) → ((n : ℕ) → IfNew g (f n)) → IfNew g (and_then (as_word (value locals e)) f)
  word_new e f h = then_new g (as_word (value locals e)) f h

  ref_new : (e : Expr) (f : ℕ → Answer Effect) → ((n : ℕ) → IfNew g (f n)) → IfNew g (and_then (as_ref (value locals e)) f)
  ref_new e f h = then_new g (as_ref (value locals e)) f h

  slice_new : (e : Expr) (f : SliceVal → Answer Effect) → ((s : SliceVal) → IfNew g (f s)) → IfNew g (and_then (as_slice (value locals e)) f)
  slice_new e f h = then_new g (as_slice (value locals e)) f h

  any_new : (e : Expr) (f : Val → Answer Effect) → ((v : Val) → IfNew g (f v)) → IfNew g (and_then (as_value (value locals e)) f)
  any_new e f h = then_new g (as_value (value locals e)) f h

  all_new : (es : List Expr) (f : List Val → Answer Effect) → ((vs : List Val) → IfNew g (f vs)) → IfNew g (and_then (as_values (values locals es)) f)
  all_new es f h = then_new g (as_values (values locals es)) f h

  acted_new : (a : Action) → IfNew g (acted g extra begun locals w a)
  acted_new (Let x e) = any_new e _ (λ v. goes_new g _ _)
  acted_new (Div x a b) = word_new a _ (λ m. word_new b _ (λ n. if_new g (nat_eq n 0) DivideByZero _ (goes_new g _ _)))
  acted_new (Rem x a b) = word_new a _ (λ m. word_new b _ (λ n. if_new g (nat_eq n 0) DivideByZero _ (goes_new g _ _)))
  acted_new (New x of vs) = all_new vs _ (λ items. goes_new g _ _)
  acted_new (Load x p of field) = ref_new p _ (λ o. then_new g (read_cell w o field) _ (λ v. goes_new g _ _))
  acted_new (Store p of field e) = ref_new p _ (λ o. any_new e _ (λ v. two_new g begun locals (begin_write w o field 1) (end_write w o field (v ∷ []))))
  acted_new (MakeSlice x item n) = word_new n _ (λ count. if_new g (nat_le too_long count) OutOfRange _ (goes_new g _ _))
  acted_new (At x s i) = slice_new s _ (λ t. word_new i _ (λ n. if_new g (not (nat_lt n t.length)) OutOfRange _
      (then_new g (read_cell w t.object (t.offset + n)) _ (λ v. goes_new g _ _))))
  acted_new (Put s i v) = slice_new s _ (λ t. word_new i _ (λ n. any_new v _ (λ u. if_new g (not (nat_lt n t.length)) OutOfRange _
      (two_new g begun locals (begin_write w t.object (t.offset + n) 1) (end_write w t.object (t.offset + n) (u ∷ []))))))
  acted_new (Len x s) = slice_new s _ (λ t. goes_new g _ _)
  acted_new (NewMap x) = goes_new g _ _
  acted_new (MapGet x ok m k) = ref_new m _ (λ o. word_new k _ (λ n. gets_new g (nat_eq o 0) w locals x ok o n))
  acted_new (MapPut m k v) = ref_new m _ (λ o. word_new k _ (λ n. word_new v _ (λ u. two_new g begun locals (map_begin w o) (map_end w o n (Some u)))))
  acted_new (MapDelete m k) = ref_new m _ (λ o. word_new k _ (λ n. deletes_new g (nat_eq o 0) begun w locals o n))
  acted_new (NewMutex x) = goes_new g _ _
  acted_new (Lock m) = ref_new m _ (λ o. leaves_new g locals (lock w o))
  acted_new (Unlock m) = ref_new m _ (λ o. leaves_new g locals (unlock w o))
  acted_new (DiskRead x a) = word_new a _ (λ n. then_new g (disk_read w 0 n) _ (λ read. goes_new g _ _))
  acted_new (DiskRead2 x ok d a) = word_new d _ (λ k. word_new a _ (λ n. then_new g (disk_read w k n) _ (λ read. goes_new g _ _)))
  acted_new (DiskWrite d a s) = word_new d _ (λ k. word_new a _ (λ n. slice_new s _ (λ t. leaves_new g locals (disk_write w k n t))))
  acted_new (DiskSize x) = goes_new g _ _
  acted_new (Get64 x s) = slice_new s _ (λ t. if_new g (nat_lt t.length 8) OutOfRange _ (then_new g (read_bytes w t.object t.offset 8) _ (λ bytes. goes_new g _ _)))
  acted_new (Put64 s v) = slice_new s _ (λ t. word_new v _ (λ n. if_new g (nat_lt t.length 8) OutOfRange _
      (two_new g begun locals (begin_bytes w t.object t.offset 8) (end_write w t.object t.offset (words_of (le64 n))))))
  acted_new (Sub x s a b) = slice_new s _ (λ t. word_new a _ (λ m. word_new b _ (λ n. then_new g (sub t m n) _ (λ part. goes_new g _ _))))
  acted_new (Append x item s v) = slice_new s _ (λ t. then_new g (as_item item (value locals v)) _ (λ u. appends_new g extra begun w locals x t u))
  acted_new (Call xs f es) = all_new es _ (λ args. pushes_new g h f (slice_get g.procs f) args xs refl)
  acted_new (Spawn f es) = all_new es _ (λ args. starts_new g h f (slice_get g.procs f) args [] refl)

  pub effect_new : (next : Option Cmd) → IfNew g (effect g extra begun locals w next)
  effect_new None = undefined_new g _
  effect_new (Some (Do a place)) = acted_new a
  effect_new (Some (If c t f place)) = then_new g (as_truth (value locals c)) _ (λ v. goes_new g _ _)
  effect_new (Some (Loop body place)) = goes_new g _ _
  effect_new (Some (Break place)) = goes_new g _ _
  effect_new (Some (Continue place)) = goes_new g _ _
  effect_new (Some (Return es place)) = all_new es _ (λ vs. record { new = tt })
