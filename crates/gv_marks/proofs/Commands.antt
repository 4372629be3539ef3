-- Marks after each command, and after a step.
use Rattle.std.proofs.Common.{◌≡◌, ◌≢◌, ◌⊎◌, inl, inr, ℕ, zero, suc, ◌+◌, ◌-◌, ◌<◌, ◌≤◌, Bool, true, false, List, [], ◌∷◌, ◌++◌, Option, Some, None, refl, sym, ap, subst, ◌∙◌, arith}
use Rattle.std.specs.Prelude.{slice_get, map, nat_eq, replicate, is_some, if◌then◌else◌}
use Rattle.std.specs.Option.{unwrap_or}
use Rattle.gv_base.specs.declared.answers.Place.{Place}
use Rattle.gv_base.specs.declared.answer.Answer.{Answer}
use Rattle.gv_base.specs.declared.answer.Answer.TheVariants.{Next, Blocked, Undefined}
use Rattle.gv_base.specs.declared.slice_val.SliceVal.{SliceVal}
use Rattle.gv_base.specs.declared.val.Val.{Val}
use Rattle.gv_base.specs.declared.val.Val.TheVariants as stored
use Rattle.gv_words.specs.Words.{le64}
use Rattle.gv_world.specs.declared.cell.Cell.{Cell}
use Rattle.gv_world.specs.Answers.{and_then, undefined_if}
use Rattle.gv_world.specs.Store as world
use Rattle.gv_world.specs.Store.{Disk, Store as World, with_new, fresh}
use Rattle.gv_world.specs.Cells.{begin_write, end_write, begin_bytes, read_cell, read_bytes, bytes_in, only_bytes}
use Rattle.gv_world.specs.Disks.{disk_read, disk_write, disk_with, block_read, block_of, byte_cells, slice_run, whole, with_disk, with_block}
use Rattle.gv_world.specs.FiniteMaps.{map_begin, map_end, map_read}
use Rattle.gv_world.specs.Mutexes.{lock, unlock}
use Rattle.gv_world.specs.Slices.{new_cell, grown, has_spare, spare_place, append_grow, slice_cells, zero_like, is_too_roomy, sub}
use Rattle.gv_lang.specs.declared.program.ItemKind.{ItemKind}
use Rattle.gv_lang.specs.Tree as lang
use Rattle.gv_lang.specs.Tree.{Expr, Action, Cmd, Do, If, Loop, Break, Continue, Return, Proc, Program}
use Rattle.gv_lang.specs.Todo.{Todo, Item, Run, Mark, head, onward}
use Rattle.gv_lang.specs.Table as table
use Rattle.gv_lang.specs.Table.{Effect, Goes, Begins, Pushes, Starts, Pops, as_ref, as_word, as_slice, as_value, as_values, as_item, acted, effect, in_two_steps, leaves, sets, sets_both, gets, deletes, appends, makes_slice, enters}
use Rattle.gv_lang.specs.Threads.{Frame, Thread}
use Rattle.gv_lang.specs.Values.{value, values}
use Rattle.gv_lang.specs.Step.{Stepped, GoesOn, Returns, stepped, settled, returned, truth}
use Rattle.gv_seats.specs.Seats.{Target, CellAt, MapAt, IsMarked, is_marked, Writes, stores, puts, puts_word, deletes_entry, puts_entry}
use Rattle.gv_seats.specs.Seats.{appends as writes_spare}
use Rattle.gv_marks.specs.Marks.{MarksLaw, world_after, is_begun}
use Rattle.gv_marks.proofs.Worlds.{then_next, defined_then, next_same, marks_new, IsFree, IsIn, begin_marks, end_marks, begin_bytes_marks, map_begin_marks, map_end_marks, lock_marks, unlock_marks, marks_of}

-- what a command leaves of marks
abbrev Leaves : Frame → World → Effect → Type 0
Leaves f w (Goes after locals) = (t : Target) → IsMarked after t → IsMarked w t
Leaves f w (Begins after) = (t : Target) → IsMarked after t → IsMarked w t ⊎ Writes f t
Leaves f w _ = Unit {0}

-- ---- operands

ref_is : (v : Option Val) (n : ℕ) → as_ref v ≡ Next n → v ≡ Some (stored.Ref n)
ref_is (Some (stored.Ref r)) n e = ap (λ k. Some (stored.Ref k)) (next_same r n e)
ref_is (Some (stored.Word m)) n e = absurd cc
ref_is (Some (stored.Bool m)) n e = absurd cc
ref_is (Some (stored.Byte m)) n e = absurd cc
ref_is (Some (stored.Slice m)) n e = absurd cc
ref_is (Some stored.Unit) n e = absurd cc
ref_is None n e = absurd cc

word_is : (v : Option Val) (n : ℕ) → as_word v ≡ Next n → v ≡ Some (stored.Word n)
word_is (Some (stored.Word r)) n e = ap (λ k. Some (stored.Word k)) (next_same r n e)
word_is (Some (stored.Ref m)) n e = absurd cc
word_is (Some (stored.Bool m)) n e = absurd cc
word_is (Some (stored.Byte m)) n e = absurd cc
word_is (Some (stored.Slice m)) n e = absurd cc
word_is (Some stored.Unit) n e = absurd cc
word_is None n e = absurd cc

slice_is : (v : Option Val) (s : SliceVal) → as_slice v ≡ Next s → v ≡ Some (stored.Slice s)
slice_is (Some (stored.Slice r)) n e = ap (λ k. Some (stored.Slice k)) (next_same r n e)
slice_is (Some (stored.Word m)) n e = absurd cc
slice_is (Some (stored.Ref m)) n e = absurd cc
slice_is (Some (stored.Bool m)) n e = absurd cc
slice_is (Some (stored.Byte m)) n e = absurd cc
slice_is (Some stored.Unit) n e = absurd cc
slice_is None n e = absurd cc

-- ---- what is left

module _ (f : Frame) (w : World) where
  left_goes : (after : World) (locals : List Val) (e : Effect) → ((t : Target) → IsMarked after t → IsMarked w t) → Next (Goes after locals) ≡ Next e → Leaves f w e
  left_goes after locals e less is = subst (λ (x : Effect). Leaves f w x) (next_same (Goes after locals) e is) less

  left_same : (locals : List Val) (e : Effect) → Next (Goes w locals) ≡ Next e → Leaves f w e
  left_same locals e is = left_goes w locals e (λ t m. m) is

  left_begins : (after : World) (e : Effect) → ((t : Target) → IsMarked after t → IsMarked w t ⊎ Writes f t) → Next (Begins after) ≡ Next e → Leaves f w e
  left_begins after e less is = subst (λ (x : Effect). Leaves f w x) (next_same (Begins after) e is) less

  left_new : (x : world.Object) → IsFree x → (locals : List Val) (e : Effect) → Next (Goes (with_new w x) locals) ≡ Next e → Leaves f w e
  left_new x free locals e is = left_goes (with_new w x) locals e (marks_new w x free) is

  left_of : (locals : List Val) (answer : Answer World) (e : Effect) → ((after : World) → answer ≡ Next after → (t : Target) → IsMarked after t → IsMarked w t)
      → leaves locals answer ≡ Next e → Leaves f w e
  left_of locals answer e less is = let (after, made, rest) = then_next answer _ e is in left_goes after locals e (less after made) rest

  in_two : (begun : Bool) (locals : List Val) (begin end : Answer World) (e : Effect)
      → ((after : World) → begin ≡ Next after → (t : Target) → IsMarked after t → IsMarked w t ⊎ Writes f t)
      → ((after : World) → end ≡ Next after → (t : Target) → IsMarked after t → IsMarked w t)
      → in_two_steps begun locals begin end ≡ Next e → Leaves f w e
  in_two false locals begin end e starts ends is = let (after, made, rest) = then_next begin _ e is in left_begins after e (starts after made) rest
  in_two true locals begin end e starts ends is = left_of locals end e ends is

-- ---- new objects

free_cells : (v : List Val) (place : ℕ) → is_marked (slice_get (map new_cell v) place) ≡ false
free_cells [] place = refl
free_cells (x ∷ v) zero = refl
free_cells (x ∷ v) (suc place) = free_cells v place

free_zeros : (n : ℕ) (v : Val) (place : ℕ) → is_marked (slice_get (replicate n (new_cell v)) place) ≡ false
free_zeros zero v place = refl
free_zeros (suc n) v zero = refl
free_zeros (suc n) v (suc place) = free_zeros n v place

free_bytes : (bytes : List ℕ) (place : ℕ) → is_marked (slice_get (byte_cells bytes) place) ≡ false
free_bytes [] place = refl
free_bytes (b ∷ bytes) zero = refl
free_bytes (b ∷ bytes) (suc place) = free_bytes bytes place

free_grown : (cells : List Cell) (item : Val) (extra : ℕ) (place : ℕ) → is_marked (slice_get (grown cells item extra) place) ≡ false
free_grown [] item extra zero = refl
free_grown [] item extra (suc place) = free_zeros extra (zero_like item) place
free_grown (c ∷ cells) item extra zero = refl
free_grown (c ∷ cells) item extra (suc place) = free_grown cells item extra place

-- ---- each command

pub same_disks : (w : World) (disks : List Disk) (t : Target) → IsMarked (record w { disks = disks }) t → IsMarked w t
same_disks w disks (CellAt zero place) m = m
same_disks w disks (CellAt (suc n) place) m = m
same_disks w disks (MapAt zero) m = m
same_disks w disks (MapAt (suc n)) m = m

read_marks : (w : World) (d a : ℕ) (read : World × Option ℕ) → disk_read w d a ≡ Next read → (t : Target) → IsMarked read.0 t → IsMarked w t
read_marks w d a read e =
    let (disk, found, e1) = then_next (disk_with w d a) _ read e in
    of_block disk (block_of disk a) e1
  where
    of_block : (disk : Disk) (block : Option (List ℕ)) → block_read w disk block ≡ Next read → (t : Target) → IsMarked read.0 t → IsMarked w t
    of_block disk None e = absurd cc
    of_block disk (Some block) e = at disk.failed e
      where
        at : (failed : Bool) → (if failed then Next (w, None) else Next (with_new w (world.Cells (byte_cells block)), Some (fresh w))) ≡ Next read → (t : Target) → IsMarked read.0 t → IsMarked w t
        at true e t m = let same : (w, None) ≡ read = next_same (w, None) read e in subst (λ (x : World × Option ℕ). IsMarked x.0 t → IsMarked w t) same (λ k. k) m
        at false e t m =
            let same : (with_new w (world.Cells (byte_cells block)), Some (fresh w)) ≡ read = next_same (with_new w (world.Cells (byte_cells block)), Some (fresh w)) read e in
            subst (λ (x : World × Option ℕ). IsMarked x.0 t → IsMarked w t) same (marks_new w (world.Cells (byte_cells block)) (record { cells = free_bytes block; map = refl }) t) m

write_marks : (w after : World) (d a : ℕ) (s : SliceVal) → disk_write w d a s ≡ Next after → (t : Target) → IsMarked after t → IsMarked w t
write_marks w after d a s e t m =
    let (found, is_run, e1) = then_next (slice_run w s) _ after e in
    let (disk, is_disk, e2) = then_next (disk_with w d a) _ after (defined_then _ _ _ after e1) in
    let (cells, is_whole, e3) = then_next (whole found s) _ after e2 in
    same_disks w (with_disk w d (with_block disk a (bytes_in cells))).disks t (subst (λ x. IsMarked x t) (sym (next_same _ after e3)) m)

module _ (program : Program) (extra : ℕ) (begun : Bool) (f : Frame) (w : World) (place : Place) (next : Todo) where
  abbrev IsNext : Action → Type 0
  IsNext a = f.todo ≡ Run (Do a place) ∷ next

  abbrev Does : Action → Effect → Type 0
  Does a e = acted program extra begun f.locals w a ≡ Next e

  not_blocked : {A : Type 0} (test : Bool) (a : Answer A) (y : A) → (if test then Blocked else a) ≡ Next y → a ≡ Next y
  not_blocked true a y e = absurd cc
  not_blocked false a y e = e

  grown_marks : (sl : SliceVal) (u : Val) (made : World × SliceVal) → append_grow w sl u extra ≡ Next made → (t : Target) → IsMarked made.0 t → IsMarked w t
  grown_marks sl u made e t m =
      let e1 = not_blocked (is_too_roomy sl extra) _ made e in
      let (cells, found, e2) = then_next (slice_cells w sl) _ made (defined_then _ _ _ made e1) in
      subst (λ (y : World × SliceVal). IsMarked y.0 t → IsMarked w t) (next_same _ made e2) (marks_new w (world.Cells (grown cells u extra)) (record { cells = free_grown cells u extra; map = refl }) t) m

  of_append : (x : ℕ) (item : ItemKind) (s v : Expr) (begun : Bool) (sl : SliceVal) (u : Val) (e : Effect) → f.todo ≡ Run (Do (lang.Append x item s v) place) ∷ next
      → value f.locals s ≡ Some (stored.Slice sl) → appends extra begun w f.locals x sl u ≡ Next e → Leaves f w e
  of_append x item s v true sl u e todo s_is is =
      let (after, made, rest) = then_next (end_write w sl.object (spare_place sl) (u ∷ [])) _ e is in
      left_goes f w after _ e (end_marks w after sl.object (spare_place sl) (u ∷ []) made) rest
  of_append x item s v false sl u e todo s_is is = at (has_spare w sl u) is
    where
      at : (room : Bool) → (if room then and_then (begin_write w sl.object (spare_place sl) 1) (λ after. Next (Begins after)) else and_then (append_grow w sl u extra) (λ grown. sets grown.0 f.locals x (stored.Slice grown.1))) ≡ Next e
          → Leaves f w e
      at true is =
          let (after, made, rest) = then_next (begin_write w sl.object (spare_place sl) 1) _ e is in
          left_begins f w after e (λ t m. elim (begin_marks w after sl.object (spare_place sl) 1 made t m) [ inl before ↦ inl before | inr here ↦ inr (spare t here) ]) rest
        where
          spare : (t : Target) → IsIn sl.object (spare_place sl) 1 t → Writes f t
          spare (CellAt object i) (same, a, b) =
              let there : i ≡ spare_place sl = omega (arith, a, b) in
              subst (λ (k : ℕ). Writes f (CellAt object k)) (sym there) (subst (λ (k : ℕ). Writes f (CellAt k (spare_place sl))) (sym same) (writes_spare x item s v place next sl todo s_is))
          spare (MapAt object) h = absurd h
      at false is =
          let (made, grew, rest) = then_next (append_grow w sl u extra) _ e is in
          left_goes f w made.0 _ e (grown_marks sl u made grew) rest

  of_delete : (m k : Expr) (o n : ℕ) (is_nil : Bool) (e : Effect) → (is_nil ≡ false → o ≢ 0) → f.todo ≡ Run (Do (lang.MapDelete m k) place) ∷ next → value f.locals m ≡ Some (stored.Ref o)
      → (if is_nil then in_two_steps begun f.locals (Next w) (Next w) else in_two_steps begun f.locals (map_begin w o) (map_end w o n None)) ≡ Next e → Leaves f w e
  of_delete m k o n true e other todo m_is is = in_two f w begun f.locals (Next w) (Next w) e (λ after made t mark. inl (subst (λ x. IsMarked x t) (sym (next_same w after made)) mark))
      (λ after made t mark. subst (λ x. IsMarked x t) (sym (next_same w after made)) mark) is
  of_delete m k o n false e other todo m_is is = in_two f w begun f.locals (map_begin w o) (map_end w o n None) e
      (λ after made t mark. elim (map_begin_marks w after o made t mark) [ inl before ↦ inl before | inr here ↦ inr (subst (λ x. Writes f x) (sym here) (deletes_entry m k place next o todo m_is (other refl))) ])
      (λ after made. map_end_marks w after o n None made) is

  of_get : (x ok o n : ℕ) (is_nil : Bool) (e : Effect) → (if is_nil then sets_both w f.locals x ok (stored.Word 0) (stored.Bool false) else and_then (map_read w o n) (λ found. sets_both w f.locals x ok (stored.Word (unwrap_or found 0)) (stored.Bool (is_some found)))) ≡ Next e → Leaves f w e
  of_get x ok o n true e is = left_same f w _ e is
  of_get x ok o n false e is = let (found, read, rest) = then_next (map_read w o n) _ e is in left_same f w _ e rest

  entered : (as_effect : Frame → Effect) (p : Option Proc) (number : ℕ) (args : List Val) (xs : List ℕ) (e : Effect) → ((g : Frame) → Leaves f w (as_effect g)) → enters as_effect number p args xs ≡ Next e → Leaves f w e
  entered as_effect (Some p) number args xs e nothing is = subst (λ (y : Effect). Leaves f w y) (next_same _ e is) (nothing _)
  entered as_effect None number args xs e nothing is = absurd cc

  action_marks : (a : Action) (e : Effect) → IsNext a → Does a e → Leaves f w e
  action_marks (lang.Let x y) e todo is = let (v, a, rest) = then_next (as_value (value f.locals y)) _ e is in left_same f w _ e rest
  action_marks (lang.Div x y z) e todo is =
      let (m, a, r1) = then_next (as_word (value f.locals y)) _ e is in let (n, b, r2) = then_next (as_word (value f.locals z)) _ e r1 in left_same f w _ e (defined_then _ _ _ e r2)
  action_marks (lang.Rem x y z) e todo is =
      let (m, a, r1) = then_next (as_word (value f.locals y)) _ e is in let (n, b, r2) = then_next (as_word (value f.locals z)) _ e r1 in left_same f w _ e (defined_then _ _ _ e r2)
  action_marks (lang.New x of vs) e todo is =
      let (items, a, rest) = then_next (as_values (values f.locals vs)) _ e is in left_new f w (world.Cells (map new_cell items)) (record { cells = free_cells items; map = refl }) _ e rest
  action_marks (lang.Load x p of field) e todo is =
      let (o, a, r1) = then_next (as_ref (value f.locals p)) _ e is in let (v, b, r2) = then_next (read_cell w o field) _ e r1 in left_same f w _ e r2
  action_marks (lang.Store p of field y) e todo is =
      let (o, a, r1) = then_next (as_ref (value f.locals p)) _ e is in
      let (v, b, r2) = then_next (as_value (value f.locals y)) _ e r1 in
      in_two f w begun f.locals (begin_write w o field 1) (end_write w o field (v ∷ [])) e
      (λ after made t m. elim (begin_marks w after o field 1 made t m) [ inl before ↦ inl before | inr here ↦ inr (cell t o (ref_is _ o a) here) ])
      (λ after made. end_marks w after o field (v ∷ []) made) r2
    where
      cell : (t : Target) (o : ℕ) → value f.locals p ≡ Some (stored.Ref o) → IsIn o field 1 t → Writes f t
      cell (CellAt object i) o p_is (same, a, b) =
          let there : i ≡ field = omega (arith, a, b) in
          subst (λ (k : ℕ). Writes f (CellAt object k)) (sym there) (subst (λ (k : ℕ). Writes f (CellAt k field)) (sym same) (stores p of field y place next o todo p_is))
      cell (MapAt object) o p_is h = absurd h
  action_marks (lang.MakeSlice x item y) e todo is =
      let (n, a, rest) = then_next (as_word (value f.locals y)) _ e is in
      left_new f w (world.Cells (replicate n (new_cell (table.zero_item item)))) (record { cells = free_zeros n (table.zero_item item); map = refl }) _ e (defined_then _ _ _ e rest)
  action_marks (lang.At x s i) e todo is =
      let (t, a, r1) = then_next (as_slice (value f.locals s)) _ e is in
      let (n, b, r2) = then_next (as_word (value f.locals i)) _ e r1 in
      let (v, c, r3) = then_next (read_cell w t.object (t.offset + n)) _ e (defined_then _ _ _ e r2) in
      left_same f w _ e r3
  action_marks (lang.Put s i v) e todo is =
      let (sl, a, r1) = then_next (as_slice (value f.locals s)) _ e is in
      let (n, b, r2) = then_next (as_word (value f.locals i)) _ e r1 in
      let (u, c, r3) = then_next (as_value (value f.locals v)) _ e r2 in
      in_two f w begun f.locals (begin_write w sl.object (sl.offset + n) 1) (end_write w sl.object (sl.offset + n) (u ∷ [])) e
      (λ after made t m. elim (begin_marks w after sl.object (sl.offset + n) 1 made t m) [ inl before ↦ inl before | inr here ↦ inr (cell t sl n (slice_is _ sl a) (word_is _ n b) here) ])
      (λ after made. end_marks w after sl.object (sl.offset + n) (u ∷ []) made) (defined_then _ _ _ e r3)
    where
      cell : (t : Target) (sl : SliceVal) (n : ℕ) → value f.locals s ≡ Some (stored.Slice sl) → value f.locals i ≡ Some (stored.Word n) → IsIn sl.object (sl.offset + n) 1 t → Writes f t
      cell (CellAt object at) sl n s_is i_is (same, a, b) =
          let there : at ≡ sl.offset + n = omega (arith, a, b) in
          subst (λ (k : ℕ). Writes f (CellAt object k)) (sym there) (subst (λ (k : ℕ). Writes f (CellAt k (sl.offset + n))) (sym same) (puts s i v place next sl n todo s_is i_is))
      cell (MapAt object) sl n s_is i_is h = absurd h
  action_marks (lang.Len x s) e todo is = let (t, a, rest) = then_next (as_slice (value f.locals s)) _ e is in left_same f w _ e rest
  action_marks (lang.NewMap x) e todo is = left_new f w (world.Map [] false) (record { cells = λ place. refl; map = refl }) _ e is
  action_marks (lang.MapGet x ok m k) e todo is =
      let (o, a, r1) = then_next (as_ref (value f.locals m)) _ e is in let (n, b, r2) = then_next (as_word (value f.locals k)) _ e r1 in of_get x ok o n (nat_eq o 0) e r2
  action_marks (lang.MapPut m k v) e todo is =
      let (o, a, r1) = then_next (as_ref (value f.locals m)) _ e is in
      let (n, b, r2) = then_next (as_word (value f.locals k)) _ e r1 in
      let (u, c, r3) = then_next (as_word (value f.locals v)) _ e r2 in
      in_two f w begun f.locals (map_begin w o) (map_end w o n (Some u)) e
      (λ after made t mark. elim (map_begin_marks w after o made t mark) [ inl before ↦ inl before | inr here ↦ inr (subst (λ x. Writes f x) (sym here) (puts_entry m k v place next o todo (ref_is _ o a))) ])
      (λ after made. map_end_marks w after o n (Some u) made) r3
  action_marks (lang.MapDelete m k) e todo is =
      let (o, a, r1) = then_next (as_ref (value f.locals m)) _ e is in
      let (n, b, r2) = then_next (as_word (value f.locals k)) _ e r1 in
      of_delete m k o n (nat_eq o 0) e (not_zero o) todo (ref_is _ o a) r2
    where
      not_zero : (o : ℕ) → nat_eq o 0 ≡ false → o ≢ 0
      not_zero o e same = grind arith
  action_marks (lang.NewMutex x) e todo is = left_new f w (world.Mutex false) (record { cells = λ place. refl; map = refl }) _ e is
  action_marks (lang.Lock m) e todo is =
      let (o, a, rest) = then_next (as_ref (value f.locals m)) _ e is in left_of f w f.locals (lock w o) e (λ after made. lock_marks w after o made) rest
  action_marks (lang.Unlock m) e todo is =
      let (o, a, rest) = then_next (as_ref (value f.locals m)) _ e is in left_of f w f.locals (unlock w o) e (λ after made. unlock_marks w after o made) rest
  action_marks (lang.DiskRead x y) e todo is =
      let (n, a, r1) = then_next (as_word (value f.locals y)) _ e is in let (read, b, r2) = then_next (disk_read w 0 n) _ e r1 in left_goes f w read.0 _ e (read_marks w 0 n read b) r2
  action_marks (lang.DiskRead2 x ok d y) e todo is =
      let (k, a, r1) = then_next (as_word (value f.locals d)) _ e is in
      let (n, b, r2) = then_next (as_word (value f.locals y)) _ e r1 in
      let (read, c, r3) = then_next (disk_read w k n) _ e r2 in left_goes f w read.0 _ e (read_marks w k n read c) r3
  action_marks (lang.DiskWrite d y s) e todo is =
      let (k, a, r1) = then_next (as_word (value f.locals d)) _ e is in
      let (n, b, r2) = then_next (as_word (value f.locals y)) _ e r1 in
      let (t, c, r3) = then_next (as_slice (value f.locals s)) _ e r2 in
      left_of f w f.locals (disk_write w k n t) e (λ after made. write_marks w after k n t made) r3
  action_marks (lang.DiskSize x) e todo is = left_same f w _ e is
  action_marks (lang.Get64 x s) e todo is =
      let (t, a, r1) = then_next (as_slice (value f.locals s)) _ e is in let (bytes, b, r2) = then_next (read_bytes w t.object t.offset 8) _ e (defined_then _ _ _ e r1) in left_same f w _ e r2
  action_marks (lang.Put64 s v) e todo is =
      let (sl, a, r1) = then_next (as_slice (value f.locals s)) _ e is in
      let (n, b, r2) = then_next (as_word (value f.locals v)) _ e r1 in
      in_two f w begun f.locals (begin_bytes w sl.object sl.offset 8) (end_write w sl.object sl.offset (table.words_of (le64 n))) e
      (λ after made t m. elim (begin_bytes_marks w after sl.object sl.offset 8 made t m) [ inl before ↦ inl before | inr here ↦ inr (cell t sl (slice_is _ sl a) here) ])
      (λ after made. end_marks w after sl.object sl.offset (table.words_of (le64 n)) made) (defined_then _ _ _ e r2)
    where
      cell : (t : Target) (sl : SliceVal) → value f.locals s ≡ Some (stored.Slice sl) → IsIn sl.object sl.offset 8 t → Writes f t
      cell (CellAt object at) sl s_is (same, a, b) =
          let there : at ≡ sl.offset + (at - sl.offset) = omega (arith, a) in
          let few : at - sl.offset < 8 = omega (arith, a, b) in
          subst (λ (k : ℕ). Writes f (CellAt object k)) (sym there) (subst (λ (k : ℕ). Writes f (CellAt k (sl.offset + (at - sl.offset)))) (sym same) (puts_word s v place next sl (at - sl.offset) todo s_is few))
      cell (MapAt object) sl s_is h = absurd h
  action_marks (lang.Sub x s y z) e todo is =
      let (t, a, r1) = then_next (as_slice (value f.locals s)) _ e is in
      let (m, b, r2) = then_next (as_word (value f.locals y)) _ e r1 in
      let (n, c, r3) = then_next (as_word (value f.locals z)) _ e r2 in
      let (part, d, r4) = then_next (sub t m n) _ e r3 in left_same f w _ e r4
  action_marks (lang.Append x item s v) e todo is =
      let (sl, a, r1) = then_next (as_slice (value f.locals s)) _ e is in
      let (u, b, r2) = then_next (as_item item (value f.locals v)) _ e r1 in
      of_append x item s v begun sl u e todo (slice_is _ sl a) r2
  action_marks (lang.Call xs number es) e todo is =
      let (args, a, rest) = then_next (as_values (values f.locals es)) _ e is in entered Pushes (slice_get program.procs number) number args xs e (λ g. tt) rest
  action_marks (lang.Spawn number es) e todo is =
      let (args, a, rest) = then_next (as_values (values f.locals es)) _ e is in entered Starts (slice_get program.procs number) number args [] e (λ g. tt) rest

-- ---- a step

module _ (program : Program) (extra : ℕ) (th : Thread) (w : World) where
  command_marks : (todo : Todo) (e : Effect) → th.top.todo ≡ todo → effect program extra th.begun th.top.locals w (head todo) ≡ Next e → Leaves th.top w e
  command_marks [] e todo is = absurd cc
  command_marks (Mark body ∷ rest) e todo is = absurd cc
  command_marks (Run (Do a place) ∷ rest) e todo is = action_marks program extra th.begun th.top w place rest a e todo is
  command_marks (Run (If c t f place) ∷ rest) e todo is = let (v, a, r) = then_next (table.as_truth (value th.top.locals c)) _ e is in left_same th.top w _ e r
  command_marks (Run (Loop body place) ∷ rest) e todo is = left_same th.top w _ e is
  command_marks (Run (Break place) ∷ rest) e todo is = left_same th.top w _ e is
  command_marks (Run (Continue place) ∷ rest) e todo is = left_same th.top w _ e is
  command_marks (Run (Return es place) ∷ rest) e todo is =
      let (vs, a, r) = then_next (as_values (values th.top.locals es)) _ e is in subst (λ (y : Effect). Leaves th.top w y) (next_same (Pops vs) e r) tt

  -- marks of what is left
  abbrev Marks : Stepped → Type 0
  Marks after = (t : Target) → IsMarked (world_after after) t → IsMarked w t ⊎ ((is_begun after ≡ true) × Writes th.top t)

  of_returned : (below : List Frame) (xs : List ℕ) (vs : List Val) → Marks (returned below w xs vs)
  of_returned [] xs vs t m = inl m
  of_returned (f ∷ below) xs vs t m = inl m

  after_effect : (rest : Option Todo) (e : Effect) (after : Stepped) → Leaves th.top w e → settled th w rest e ≡ Next after → Marks after
  after_effect rest (Pops vs) after less is = subst (λ (x : Stepped). Marks x) (next_same _ after is) (of_returned th.below th.top.results vs)
  after_effect rest (Begins new) after less is =
      subst (λ (x : Stepped). Marks x) (next_same _ after is) (λ t m. elim (less t m) [ inl before ↦ inl before | inr writes ↦ inr (refl, writes) ])
  after_effect (Some rest) (Goes new locals) after less is = subst (λ (x : Stepped). Marks x) (next_same _ after is) (λ t m. inl (less t m))
  after_effect (Some rest) (Pushes f) after less is = subst (λ (x : Stepped). Marks x) (next_same _ after is) (λ t m. inl m)
  after_effect (Some rest) (Starts f) after less is = subst (λ (x : Stepped). Marks x) (next_same _ after is) (λ t m. inl m)
  after_effect None (Goes new locals) after less is = absurd cc
  after_effect None (Pushes f) after less is = absurd cc
  after_effect None (Starts f) after less is = absurd cc

pub marks_law : MarksLaw
marks_law program extra th w after is =
    let (e, made, rest) = then_next (effect program extra th.begun th.top.locals w (head th.top.todo)) _ after is in
    after_effect program extra th w (onward (truth th.top.locals (head th.top.todo)) th.top.todo) e after (command_marks program extra th w th.top.todo e refl made) rest
