-- Marks after one access of the store.
use Rattle.std.proofs.Common.{◌≡◌, ◌≢◌, ◌⊎◌, inl, inr, ℕ, zero, suc, ◌+◌, ◌-◌, ◌<◌, ◌≤◌, Bool, true, false, List, [], ◌∷◌, ◌++◌, length, Option, Some, None, refl, sym, ap, subst, ◌∙◌, arith}
use Rattle.std.specs.Prelude.{slice_get, slice_set, map, take, drop, nat_eq, if◌then◌else◌}
use Rattle.gv_base.specs.declared.answer.Answer.{Answer}
use Rattle.gv_base.specs.declared.answer.Answer.TheVariants.{Next, Blocked, Undefined}
use Rattle.gv_base.specs.declared.reason.Reason.{Reason}
use Rattle.gv_base.specs.declared.val.Val.{Val}
use Rattle.gv_world.specs.declared.cell.Cell.{Cell}
use Rattle.gv_world.specs.Answers.{and_then, undefined_if}
use Rattle.gv_world.specs.Store as world
use Rattle.gv_world.specs.Store.{Object, Store as World, with_new, with_object}
use Rattle.gv_world.specs.Cells.{as_cells, cells_of, run, unmarked, with_mark, with_marks, overwritten, with_items, begin_write, end_write, begin_bytes}
use Rattle.gv_world.specs.FiniteMaps.{as_map, map_of, map_begin, map_end, changed}
use Rattle.gv_world.specs.Mutexes.{as_mutex, mutex_of, lock, unlock}
use Rattle.gv_resources.specs.Told.{object_at, cells_in}
use Rattle.gv_seats.specs.Seats.{Target, CellAt, MapAt, IsMarked, is_marked, map_mark, mark_at}

-- ---- answers

pub then_next : {A B : Type 0} (a : Answer A) (f : A → Answer B) (y : B) → and_then a f ≡ Next y → (x : A) × (a ≡ Next x) × (f x ≡ Next y)
then_next (Next x) f y e = (x, refl, e)
then_next Blocked f y e = absurd cc
then_next (Undefined r) f y e = absurd cc

pub defined_then : {A : Type 0} (test : Bool) (r : Reason) (a : Answer A) (y : A) → undefined_if test r a ≡ Next y → a ≡ Next y
defined_then true r a y e = absurd cc
defined_then false r a y e = e

pub next_same : {A : Type 0} (x y : A) → Next x ≡ Next y → x ≡ y
next_same x y e = cc

-- ---- objects

-- what an object marks under a place
abbrev pub marks_of : Option Object → ℕ → Bool
marks_of x place = is_marked (slice_get (cells_in x) place)

set_cases : {A : Type 0} (xs : List A) (n : ℕ) (x : A) (k : ℕ) → ((k ≡ n) × (slice_get (slice_set xs n x) k ≡ Some x)) ⊎ (slice_get (slice_set xs n x) k ≡ slice_get xs k)
set_cases [] n x k = inr refl
set_cases (y ∷ xs) zero x zero = inl (refl, refl)
set_cases (y ∷ xs) zero x (suc k) = inr refl
set_cases (y ∷ xs) (suc n) x zero = inr refl
set_cases (y ∷ xs) (suc n) x (suc k) = elim (set_cases xs n x k) [ inl (e, t) ↦ inl (ap suc e, t) | inr t ↦ inr t ]

object_cases : (w : World) (n : ℕ) (new : Object) (o : ℕ) → ((o ≡ suc n) × (object_at (with_object w (suc n) new) o ≡ Some new)) ⊎ (object_at (with_object w (suc n) new) o ≡ object_at w o)
object_cases w n new zero = inr refl
object_cases w n new (suc k) =
    let here : suc n - 1 ≡ n = omega arith in
    elim (set_cases w.objects n new k) [
      | inl (e, t) ↦ inl (ap suc e, ap (λ (i : ℕ). slice_get (slice_set w.objects i new) k) here ∙ t)
      | inr t ↦ inr (ap (λ (i : ℕ). slice_get (slice_set w.objects i new) k) here ∙ t)
    ]

-- what an object marks
abbrev pub MarkIn : ℕ → Object → Target → Type 0
MarkIn o new (CellAt object place) = (object ≡ o) × (marks_of (Some new) place ≡ true)
MarkIn o new (MapAt object) = (object ≡ o) × (map_mark (Some new) ≡ true)

-- a mark is an earlier one, or of the object that is given anew
pub marks_anew : (w : World) (n : ℕ) (new : Object) (t : Target) → IsMarked (with_object w (suc n) new) t → IsMarked w t ⊎ MarkIn (suc n) new t
marks_anew w n new (CellAt o place) m = elim (object_cases w n new o) [
  | inl (e, is) ↦ inr (e, sym (ap (λ x. marks_of x place) is) ∙ m)
  | inr is ↦ inl (sym (ap (λ x. marks_of x place) is) ∙ m)
]
marks_anew w n new (MapAt o) m = elim (object_cases w n new o) [
  | inl (e, is) ↦ inr (e, sym (ap map_mark is) ∙ m)
  | inr is ↦ inl (sym (ap map_mark is) ∙ m)
]

last_cases : {A : Type 0} (xs : List A) (x : A) (k : ℕ) → (slice_get (xs ++ x ∷ []) k ≡ Some x) ⊎ (slice_get (xs ++ x ∷ []) k ≡ slice_get xs k)
last_cases [] x zero = inl refl
last_cases [] x (suc k) = inr refl
last_cases (y ∷ xs) x zero = inr refl
last_cases (y ∷ xs) x (suc k) = last_cases xs x k

-- no write of an object has begun
pub record IsFree (x : Object) : Type 0 where
  pub cells : (place : ℕ) → marks_of (Some x) place ≡ false
  pub map : map_mark (Some x) ≡ false

never : {A : Type 0} (b : Bool) → b ≡ true → b ≡ false → A
never true m f = absurd cc
never false m f = absurd cc

pub marks_new : (w : World) (x : Object) → IsFree x → (t : Target) → IsMarked (with_new w x) t → IsMarked w t
marks_new w x free (CellAt zero place) m = m
marks_new w x free (CellAt (suc n) place) m = elim (last_cases w.objects x n) [
  | inl is ↦ never (marks_of (Some x) place) (sym (ap (λ y. marks_of y place) is) ∙ m) (free.cells place)
  | inr is ↦ sym (ap (λ y. marks_of y place) is) ∙ m
]
marks_new w x free (MapAt zero) m = m
marks_new w x free (MapAt (suc n)) m = elim (last_cases w.objects x n) [
  | inl is ↦ never (map_mark (Some x)) (sym (ap map_mark is) ∙ m) free.map
  | inr is ↦ sym (ap map_mark is) ∙ m
]

-- ---- cells

pub cells_found : (w : World) (o : ℕ) (cells : List Cell) → cells_of w o ≡ Next cells → (n : ℕ) × (o ≡ suc n) × (slice_get w.objects n ≡ Some (world.Cells cells))
cells_found w zero cells e = absurd cc
cells_found w (suc n) cells e =
    let here : suc n - 1 ≡ n = omega arith in
    (n, refl, at (slice_get w.objects n) (sym (ap (λ (i : ℕ). as_cells (slice_get w.objects i)) here) ∙ defined_then (nat_eq (suc n) 0) _ _ cells e))
  where
    at : (x : Option Object) → as_cells x ≡ Next cells → x ≡ Some (world.Cells cells)
    at (Some (world.Cells cs)) e = ap (λ z. Some (world.Cells z)) (next_same cs cells e)
    at (Some (world.Map es m)) e = absurd cc
    at (Some (world.Mutex l)) e = absurd cc
    at None e = absurd cc

-- some cells get their marks
marked_run : (cells : List Cell) (count : ℕ) (j : ℕ) → is_marked (slice_get (map (with_mark true) (take count cells) ++ drop count cells) j) ≡ true
    → (is_marked (slice_get cells j) ≡ true) ⊎ (j < count)
marked_run [] zero j m = inl m
marked_run [] (suc count) j m = inl m
marked_run (c ∷ cells) zero j m = inl m
marked_run (c ∷ cells) (suc count) zero m = inr (omega arith)
marked_run (c ∷ cells) (suc count) (suc j) m = elim (marked_run cells count j m) [ inl is ↦ inl is | inr l ↦ inr (omega arith) ]

abbrev no_cells : List Cell
no_cells = []

taken_none : (n : ℕ) → take n no_cells ≡ no_cells
taken_none zero = refl
taken_none (suc n) = refl

dropped_none : (n : ℕ) → drop n no_cells ≡ no_cells
dropped_none zero = refl
dropped_none (suc n) = refl

no_marks : (i count : ℕ) → with_marks [] i count ≡ []
no_marks i count =
    ap (λ (cs : List Cell). cs ++ map (with_mark true) (run [] i count) ++ drop (i + count) []) (taken_none i)
    ∙ ap (λ (cs : List Cell). map (with_mark true) (take count cs) ++ drop (i + count) []) (dropped_none i)
    ∙ ap (λ (cs : List Cell). map (with_mark true) cs ++ drop (i + count) []) (taken_none count)
    ∙ dropped_none (i + count)

marked_cells : (cells : List Cell) (i count j : ℕ) → is_marked (slice_get (with_marks cells i count) j) ≡ true → (is_marked (slice_get cells j) ≡ true) ⊎ ((i ≤ j) × (j < i + count))
marked_cells cells zero count j m =
    let same : with_marks cells 0 count ≡ map (with_mark true) (take count cells) ++ drop count cells = ap (λ (n : ℕ). map (with_mark true) (take count cells) ++ drop n cells) (plus_zero count) in
    elim (marked_run cells count j (sym (ap (λ (cs : List Cell). is_marked (slice_get cs j)) same) ∙ m)) [ inl is ↦ inl is | inr l ↦ inr (omega arith, omega arith) ]
  where
    plus_zero : (n : ℕ) → 0 + n ≡ n
    plus_zero n = omega arith
marked_cells [] (suc i) count j m = inl (sym (ap (λ (cs : List Cell). is_marked (slice_get cs j)) (no_marks (suc i) count)) ∙ m)
marked_cells (c ∷ cells) (suc i) count zero m = inl m
marked_cells (c ∷ cells) (suc i) count (suc j) m =
    let more : suc i + count ≡ suc (i + count) = omega arith in
    let same : with_marks (c ∷ cells) (suc i) count ≡ c ∷ with_marks cells i count = ap (λ (n : ℕ). c ∷ (take i cells ++ map (with_mark true) (run cells i count) ++ drop n (c ∷ cells))) more in
    elim (marked_cells cells i count j (sym (ap (λ (cs : List Cell). is_marked (slice_get cs (suc j))) same) ∙ m)) [ inl is ↦ inl is | inr (a, b) ↦ inr (omega arith, omega arith) ]

-- items are written
written_run : (cells : List Cell) (items : List Val) (j : ℕ) → is_marked (slice_get (overwritten cells items) j) ≡ true → is_marked (slice_get cells j) ≡ true
written_run [] items j m = m
written_run (c ∷ cells) [] j m = m
written_run (c ∷ cells) (v ∷ items) zero m = absurd cc
written_run (c ∷ cells) (v ∷ items) (suc j) m = written_run cells items j m

written_cells : (cells : List Cell) (i : ℕ) (items : List Val) (j : ℕ) → is_marked (slice_get (with_items cells i items) j) ≡ true → is_marked (slice_get cells j) ≡ true
written_cells cells zero items j m = written_run cells items j m
written_cells [] (suc i) items j m = m
written_cells (c ∷ cells) (suc i) items zero m = m
written_cells (c ∷ cells) (suc i) items (suc j) m = written_cells cells i items j m

-- a cell of a run
abbrev pub IsIn : ℕ → ℕ → ℕ → Target → Type 0
IsIn o i count (CellAt object place) = (object ≡ o) × (i ≤ place) × (place < i + count)
IsIn o i count (MapAt object) = ⊥

cell_was : (w : World) (n : ℕ) (cells : List Cell) (o place : ℕ) → slice_get w.objects n ≡ Some (world.Cells cells) → o ≡ suc n → is_marked (slice_get cells place) ≡ true
    → IsMarked w (CellAt o place)
cell_was w n cells o place there e m = ap (λ k. marks_of (object_at w k) place) e ∙ ap (λ x. marks_of x place) there ∙ m

pub begin_marks : (w after : World) (o i count : ℕ) → begin_write w o i count ≡ Next after → (t : Target) → IsMarked after t → IsMarked w t ⊎ IsIn o i count t
begin_marks w after o i count e t m =
    let (cells, found, e1) = then_next (cells_of w o) _ after e in
    let (ok, free, e2) = then_next (unmarked (run cells i count) count) _ after e1 in
    let (n, is, there) = cells_found w o cells found in
    at cells n is there (ap (λ k. with_object w k (world.Cells (with_marks cells i count))) (sym is) ∙ next_same _ after e2) t m
  where
    at : (cells : List Cell) (n : ℕ) → o ≡ suc n → slice_get w.objects n ≡ Some (world.Cells cells) → with_object w (suc n) (world.Cells (with_marks cells i count)) ≡ after
        → (t : Target) → IsMarked after t → IsMarked w t ⊎ IsIn o i count t
    at cells n is there same (CellAt object place) m =
        elim (marks_anew w n (world.Cells (with_marks cells i count)) (CellAt object place) (subst (λ x. IsMarked x (CellAt object place)) (sym same) m)) [
          | inl before ↦ inl before
          | inr (e, now) ↦ elim (marked_cells cells i count place now) [
            | inl was ↦ inl (cell_was w n cells object place there e was)
            | inr (a, b) ↦ inr (e ∙ sym is, a, b)
          ]
        ]
    at cells n is there same (MapAt object) m =
        elim (marks_anew w n (world.Cells (with_marks cells i count)) (MapAt object) (subst (λ x. IsMarked x (MapAt object)) (sym same) m)) [
          | inl before ↦ inl before
          | inr (e, now) ↦ absurd cc
        ]

pub end_marks : (w after : World) (o i : ℕ) (items : List Val) → end_write w o i items ≡ Next after → (t : Target) → IsMarked after t → IsMarked w t
end_marks w after o i items e t m =
    let (cells, found, e1) = then_next (cells_of w o) _ after e in
    let e2 = defined_then _ _ _ after e1 in
    let (n, is, there) = cells_found w o cells found in
    at cells n is there (ap (λ k. with_object w k (world.Cells (with_items cells i items))) (sym is) ∙ next_same _ after e2) t m
  where
    at : (cells : List Cell) (n : ℕ) → o ≡ suc n → slice_get w.objects n ≡ Some (world.Cells cells) → with_object w (suc n) (world.Cells (with_items cells i items)) ≡ after
        → (t : Target) → IsMarked after t → IsMarked w t
    at cells n is there same (CellAt object place) m =
        elim (marks_anew w n (world.Cells (with_items cells i items)) (CellAt object place) (subst (λ x. IsMarked x (CellAt object place)) (sym same) m)) [
          | inl before ↦ before
          | inr (e, now) ↦ cell_was w n cells object place there e (written_cells cells i items place now)
        ]
    at cells n is there same (MapAt object) m =
        elim (marks_anew w n (world.Cells (with_items cells i items)) (MapAt object) (subst (λ x. IsMarked x (MapAt object)) (sym same) m)) [
          | inl before ↦ before
          | inr (e, now) ↦ absurd cc
        ]

pub begin_bytes_marks : (w after : World) (o i count : ℕ) → begin_bytes w o i count ≡ Next after → (t : Target) → IsMarked after t → IsMarked w t ⊎ IsIn o i count t
begin_bytes_marks w after o i count e t m =
    let (cells, found, e1) = then_next (cells_of w o) _ after e in
    begin_marks w after o i count (defined_then _ _ _ after e1) t m

-- ---- maps

pub map_found : (w : World) (o : ℕ) (m : List (ℕ × ℕ) × Bool) → map_of w o ≡ Next m → (n : ℕ) × (o ≡ suc n)
map_found w zero m e = absurd cc
map_found w (suc n) m e = (n, refl)

pub map_begin_marks : (w after : World) (o : ℕ) → map_begin w o ≡ Next after → (t : Target) → IsMarked after t → IsMarked w t ⊎ (t ≡ MapAt o)
map_begin_marks w after o e t m =
    let (found, is_map, e1) = then_next (map_of w o) _ after e in
    let (n, is) = map_found w o found is_map in
    at found n is (ap (λ k. with_object w k (world.Map found.0 true)) (sym is) ∙ next_same _ after (defined_then _ _ _ after e1)) t m
  where
    at : (found : List (ℕ × ℕ) × Bool) (n : ℕ) → o ≡ suc n → with_object w (suc n) (world.Map found.0 true) ≡ after → (t : Target) → IsMarked after t → IsMarked w t ⊎ (t ≡ MapAt o)
    at found n is same (CellAt object place) m =
        elim (marks_anew w n (world.Map found.0 true) (CellAt object place) (subst (λ x. IsMarked x (CellAt object place)) (sym same) m)) [
          | inl before ↦ inl before
          | inr (e, now) ↦ absurd (never (marks_of (Some (world.Map found.0 true)) place) now (no_cell place))
        ]
      where
        no_cell : (place : ℕ) → marks_of (Some (world.Map found.0 true)) place ≡ false
        no_cell place = refl
    at found n is same (MapAt object) m =
        elim (marks_anew w n (world.Map found.0 true) (MapAt object) (subst (λ x. IsMarked x (MapAt object)) (sym same) m)) [
          | inl before ↦ inl before
          | inr (e, now) ↦ inr (ap MapAt (e ∙ sym is))
        ]

-- an object without marks is given anew
pub free_anew : (w after : World) (n : ℕ) (x : Object) → IsFree x → with_object w (suc n) x ≡ after → (t : Target) → IsMarked after t → IsMarked w t
free_anew w after n x free same (CellAt object place) m =
    elim (marks_anew w n x (CellAt object place) (subst (λ y. IsMarked y (CellAt object place)) (sym same) m)) [
      | inl before ↦ before
      | inr (e, now) ↦ never (marks_of (Some x) place) now (free.cells place)
    ]
free_anew w after n x free same (MapAt object) m =
    elim (marks_anew w n x (MapAt object) (subst (λ y. IsMarked y (MapAt object)) (sym same) m)) [
      | inl before ↦ before
      | inr (e, now) ↦ never (map_mark (Some x)) now free.map
    ]

pub map_end_marks : (w after : World) (o key : ℕ) (item : Option ℕ) → map_end w o key item ≡ Next after → (t : Target) → IsMarked after t → IsMarked w t
map_end_marks w after o key item e t m =
    let (found, is_map, e1) = then_next (map_of w o) _ after e in
    let (n, is) = map_found w o found is_map in
    let new : Object = world.Map (changed found.0 key item) false in
    free_anew w after n new (record { cells = λ place. refl; map = refl }) (ap (λ k. with_object w k new) (sym is) ∙ next_same _ after e1) t m

-- ---- mutexes

mutex_found : (w : World) (o : ℕ) (locked : Bool) → mutex_of w o ≡ Next locked → (n : ℕ) × (o ≡ suc n)
mutex_found w zero locked e = absurd cc
mutex_found w (suc n) locked e = (n, refl)

pub lock_marks : (w after : World) (o : ℕ) → lock w o ≡ Next after → (t : Target) → IsMarked after t → IsMarked w t
lock_marks w after o e t m =
    let (locked, is_mutex, e1) = then_next (mutex_of w o) _ after e in
    let (n, is) = mutex_found w o locked is_mutex in
    free_anew w after n (world.Mutex true) (record { cells = λ place. refl; map = refl }) (ap (λ k. with_object w k (world.Mutex true)) (sym is) ∙ was_free locked e1) t m
  where
    was_free : (locked : Bool) → (if locked then Blocked else Next (with_object w o (world.Mutex true))) ≡ Next after → with_object w o (world.Mutex true) ≡ after
    was_free true e = absurd cc
    was_free false e = next_same _ after e

pub unlock_marks : (w after : World) (o : ℕ) → unlock w o ≡ Next after → (t : Target) → IsMarked after t → IsMarked w t
unlock_marks w after o e t m =
    let (locked, is_mutex, e1) = then_next (mutex_of w o) _ after e in
    let (n, is) = mutex_found w o locked is_mutex in
    free_anew w after n (world.Mutex false) (record { cells = λ place. refl; map = refl }) (ap (λ k. with_object w k (world.Mutex false)) (sym is) ∙ next_same _ after (defined_then _ _ _ after e1)) t m
