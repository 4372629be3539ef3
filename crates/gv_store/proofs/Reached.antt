-- Accesses to a store, by the object that they reach.
use Rattle.std.proofs.Common.{◌≡◌, ◌∙◌, ℕ, ◌+◌, ◌-◌, ◌<◌, Bool, true, false, List, Option, Some, None, length, set, get_or, refl, ap, sym, subst, arith}
use Rattle.std.specs.Prelude.{slice_get, nat_eq, not, if◌then◌else◌}
use Rattle.std.proofs.lemmas.Bool.{eqb-true}
use Rattle.std.proofs.lemmas.List.{set-get_or}
use Rattle.std.proofs.lemmas.Option.{slice_get-get_or}
use Rattle.gv_base.specs.declared.reason.Reason.{Reason}
use Rattle.gv_base.specs.declared.reason.Reason.TheVariants.{NilUse, Kind, OutOfRange, Race, UnlockFree}
use Rattle.gv_base.specs.declared.answer.Answer.{Answer}
use Rattle.gv_base.specs.declared.answer.Answer.TheVariants.{Next, Blocked, Undefined}
use Rattle.gv_base.specs.declared.val.Val.{Val}
use Rattle.gv_world.specs.declared.cell.Cell.{Cell}
use Rattle.gv_world.specs.Answers.{and_then, undefined_if}
use Rattle.gv_world.specs.Store.{Object, Cells, Map, Mutex, Store, counted, with_object}
use Rattle.gv_world.specs.Cells.{as_cells, cells_of, run, is_short, unmarked, with_marks, with_items, only_bytes, are_bytes, begin_write, end_write, begin_bytes}
use Rattle.gv_world.specs.FiniteMaps.{as_map, map_of, map_begin, map_end, changed}
use Rattle.gv_world.specs.Mutexes.{as_mutex, mutex_of, lock, unlock}
use Rattle.gv_cells.specs.Objects as one
use Rattle.gv_cells.specs.Outcomes.{Does}
use Rattle.gv_store.specs.Counting.{IsCounted}
use Rattle.gv_store.specs.Reaching.{there, object_at, changed_at}
use Rattle.gv_store.proofs.Counts.{sum_set}

not_nil : (number : ℕ) → 0 < number → nat_eq number 0 ≡ false
not_nil number lt = by (nat_eq number 0) refl
  where
    by : (b : Bool) → nat_eq number 0 ≡ b → b ≡ false
    by true e = let f = eqb-true number 0 e in absurd (omega arith)
    by false e = refl

reached : (b : Bool) (found : Option Object) (o : Object) → b ≡ false → found ≡ Some o → undefined_if b NilUse (there found) ≡ Next o
reached b found o e f = rw (e, f) refl

-- an object at a place is the one under the number after it
pub found_at : (s : Store) (number at : ℕ) (o : Object) → at < length s.objects → number ≡ at + 1 → o ≡ get_or s.objects at o → object_at s number ≡ Next o
found_at s number at o lt e is =
    let before : number - 1 ≡ at = omega arith in
    reached (nat_eq number 0) (slice_get s.objects (number - 1)) o (not_nil number (omega arith))
    (ap (slice_get s.objects) before ∙ slice_get-get_or s.objects at o lt ∙ ap Some (sym is))

-- ---- each kind of access by that object

kind_at : {A : Type 0} (f : Option Object → Answer A) (b : Bool) (found : Option Object) → f None ≡ Undefined Kind
    → undefined_if b NilUse (f found) ≡ and_then (undefined_if b NilUse (there found)) (λ o. f (Some o))
kind_at f true found e = refl
kind_at f false None e = e
kind_at f false (Some o) e = refl

pub cells_at : (s : Store) (number : ℕ) → cells_of s number ≡ and_then (object_at s number) (λ o. as_cells (Some o))
cells_at s number = kind_at as_cells (nat_eq number 0) (slice_get s.objects (number - 1)) refl

pub map_at : (s : Store) (number : ℕ) → map_of s number ≡ and_then (object_at s number) (λ o. as_map (Some o))
map_at s number = kind_at as_map (nat_eq number 0) (slice_get s.objects (number - 1)) refl

pub mutex_at : (s : Store) (number : ℕ) → mutex_of s number ≡ and_then (object_at s number) (λ o. as_mutex (Some o))
mutex_at s number = kind_at as_mutex (nat_eq number 0) (slice_get s.objects (number - 1)) refl

-- ---- and each access that changes an object

sequel : {A B C : Type 0} (answer : Answer A) (f : A → Answer B) (g : B → Answer C) → and_then answer (λ a. and_then (f a) g) ≡ and_then (and_then answer f) g
sequel (Next a) f g = refl
sequel Blocked f g = refl
sequel (Undefined reason) f g = refl

same_after : {A B : Type 0} (answer : Answer A) (f g : A → Answer B) → ((a : A) → f a ≡ g a) → and_then answer f ≡ and_then answer g
same_after (Next a) f g e = e a
same_after Blocked f g e = refl
same_after (Undefined reason) f g e = refl

-- what reaches an object by its kind and goes on with what it holds
by_kind : {A : Type 0} (s : Store) (number : ℕ) (wanted : Answer A) (holds : Option Object → Answer A) (f : A → Answer Store) (change : A → Answer Object)
    → wanted ≡ and_then (object_at s number) (λ o. holds (Some o)) → ((a : A) → f a ≡ and_then (change a) (λ o. Next (with_object s number o)))
    → and_then wanted f ≡ changed_at s number (λ o. and_then (holds (Some o)) change)
by_kind s number wanted holds f change e each =
    ap (λ w. and_then w f) e
    ∙ sym (sequel (object_at s number) (λ o. holds (Some o)) f)
    ∙ same_after (object_at s number) (λ o. and_then (holds (Some o)) f) (λ o. and_then (and_then (holds (Some o)) change) (λ o. Next (with_object s number o)))
    (λ o. same_after (holds (Some o)) f (λ a. and_then (change a) (λ o. Next (with_object s number o))) each ∙ sequel (holds (Some o)) change (λ o. Next (with_object s number o)))

begun_by : (s : Store) (number : ℕ) (found : Answer (List Cell)) (cells : List Cell)
    → and_then found (λ f. Next (with_object s number (Cells cells)))
    ≡ and_then (one.of_cells (and_then found (λ f. Next cells))) (λ o. Next (with_object s number o))
begun_by s number (Next f) cells = refl
begun_by s number Blocked cells = refl
begun_by s number (Undefined reason) cells = refl

pub begin_at : (s : Store) (number i n : ℕ) → begin_write s number i n ≡ changed_at s number (λ o. one.begun o i n)
begin_at s number i n =
    by_kind s number (cells_of s number) as_cells _ (λ cells. one.of_cells (one.cells_begun cells i n)) (cells_at s number)
    (λ cells. begun_by s number (unmarked (run cells i n) n) (with_marks cells i n))

ended_by : (s : Store) (number : ℕ) (short : Bool) (cells : List Cell)
    → undefined_if short OutOfRange (Next (with_object s number (Cells cells)))
    ≡ and_then (one.of_cells (undefined_if short OutOfRange (Next cells))) (λ o. Next (with_object s number o))
ended_by s number true cells = refl
ended_by s number false cells = refl

pub end_at : (s : Store) (number i : ℕ) (items : List Val) → end_write s number i items ≡ changed_at s number (λ o. one.ended o i items)
end_at s number i items =
    by_kind s number (cells_of s number) as_cells _ (λ cells. one.of_cells (one.cells_ended cells i items)) (cells_at s number)
    (λ cells. ended_by s number (is_short (run cells i (length items)) (length items)) (with_items cells i items))

-- ---- what a call on the object means for the store

kept : (s : Store) (number at : ℕ) (o new : Object) → number ≡ at + 1 → o ≡ get_or s.objects at o → new ≡ o → record s { objects = set s.objects at new } ≡ s
kept s number at o new e is same =
    ap (λ l. record s { objects = l }) (ap (λ x. set s.objects at x) (same ∙ is) ∙ set-get_or s.objects at o)

pub does_at : (s : Store) (number at : ℕ) (o new : Object) (change : Object → Answer Object) (result : Answer (Unit {0}))
    → at < length s.objects → number ≡ at + 1 → o ≡ get_or s.objects at o
    → Does (change o) o result new → Does (changed_at s number change) s result (record s { objects = set s.objects at new })
does_at s number at o new change (Next done) lt e is does =
    let before : number - 1 ≡ at = omega arith in
    ap (λ a. and_then a (λ o. and_then (change o) (λ c. Next (with_object s number c)))) (found_at s number at o lt e is)
    ∙ ap (λ a. and_then a (λ c. Next (with_object s number c))) does
    ∙ ap (λ i. Next (record s { objects = set s.objects i new })) before
does_at s number at o new change Blocked lt e is does = (
  ap (λ a. and_then a (λ o. and_then (change o) (λ c. Next (with_object s number c)))) (found_at s number at o lt e is)
      ∙ ap (λ a. and_then a (λ c. Next (with_object s number c))) does.0,
  kept s number at o new e is does.1,
)
does_at s number at o new change (Undefined reason) lt e is does = (
  ap (λ a. and_then a (λ o. and_then (change o) (λ c. Next (with_object s number c)))) (found_at s number at o lt e is)
      ∙ ap (λ a. and_then a (λ c. Next (with_object s number c))) does.0,
  kept s number at o new e is does.1,
)

pub lost_at : (s : Store) (number : ℕ) (change : Object → Answer Object) (reason : Reason)
    → object_at s number ≡ Undefined reason → Does (changed_at s number change) s (Undefined reason) s
lost_at s number change reason e = (ap (λ a. and_then a (λ o. and_then (change o) (λ c. Next (with_object s number c)))) e, refl)

-- ---- as the code finds it: `s` is what the store's fields show, `w` the store

pub does_in : (s w : Store) (number at : ℕ) (o new : Object) (change : Object → Answer Object) (result : Answer (Unit {0})) (wanted : Answer Store)
    → s ≡ w → wanted ≡ changed_at w number change → (at < length w.objects) × (number ≡ at + 1) → o ≡ get_or s.objects at o
    → Does (change o) o result new → Does wanted w result (record s { objects = set s.objects at new })
does_in s w number at o new change result wanted e f place is does =
    subst (λ (x : Store). Does wanted w result (record x { objects = set x.objects at new })) (sym e)
    (subst (λ (a : Answer Store). Does a w result (record w { objects = set w.objects at new })) (sym f)
    (does_at w number at o new change result place.0 place.1 (subst (λ (x : Store). o ≡ get_or x.objects at o) e is) does))

pub lost_in : (s : Store) (number : ℕ) (change : Object → Answer Object) (reason : Reason) (wanted : Answer Store)
    → wanted ≡ changed_at s number change → object_at s number ≡ Undefined reason → Does wanted s (Undefined reason) s
lost_in s number change reason wanted f e = (f ∙ (lost_at s number change reason e).0, refl)

pub stays_in : (s w : Store) (number at live : ℕ) (o new : Object) → s ≡ w → IsCounted s.objects live
    → (at < length w.objects) × (number ≡ at + 1) → o ≡ get_or s.objects at o → counted new ≡ counted o → IsCounted (set s.objects at new) live
stays_in s w number at live o new e held place is same = record {
  count = omega (arith, held.count, sum_set s.objects at new o (subst (λ (x : Store). at < length x.objects) (sym e) place.0), ap counted is, same);
  within = held.within;
}

-- ---- the other accesses that change an object

bytes_begun_by : (s : Store) (number : ℕ) (words : Bool) (found : Answer (List Cell)) (cells : List Cell)
    → undefined_if words Kind (and_then found (λ f. Next (with_object s number (Cells cells))))
    ≡ and_then (one.of_cells (undefined_if words Kind (and_then found (λ f. Next cells)))) (λ o. Next (with_object s number o))
bytes_begun_by s number true found cells = refl
bytes_begun_by s number false found cells = begun_by s number found cells

bytes_by : (s : Store) (number i n : ℕ) (nil : Bool) (found : Option Object)
    → and_then (undefined_if nil NilUse (as_cells found)) (λ cells. only_bytes (run cells i n) (
    and_then (undefined_if nil NilUse (as_cells found)) (λ cells. and_then (unmarked (run cells i n) n) (λ f. Next (with_object s number (Cells (with_marks cells i n)))))))
    ≡ and_then (undefined_if nil NilUse (there found)) (λ o. and_then (one.begun_bytes o i n) (λ c. Next (with_object s number c)))
bytes_by s number i n true found = refl
bytes_by s number i n false None = refl
bytes_by s number i n false (Some (Cells cells)) =
    bytes_begun_by s number (not (are_bytes (run cells i n))) (unmarked (run cells i n) n) (with_marks cells i n)
bytes_by s number i n false (Some (Map entries marked)) = refl
bytes_by s number i n false (Some (Mutex locked)) = refl

pub bytes_at : (s : Store) (number i n : ℕ) → begin_bytes s number i n ≡ changed_at s number (λ o. one.begun_bytes o i n)
bytes_at s number i n = bytes_by s number i n (nat_eq number 0) (slice_get s.objects (number - 1))

locked_by : (s : Store) (number : ℕ) (locked : Bool)
    → (if locked then Blocked else Next (with_object s number (Mutex true)))
    ≡ and_then (if locked then Blocked else Next (Mutex true)) (λ o. Next (with_object s number o))
locked_by s number true = refl
locked_by s number false = refl

pub lock_at : (s : Store) (number : ℕ) → lock s number ≡ changed_at s number one.locked
lock_at s number =
    by_kind s number (mutex_of s number) as_mutex _ (λ locked. if locked then Blocked else Next (Mutex true)) (mutex_at s number) (locked_by s number)

unlocked_by : (s : Store) (number : ℕ) (locked : Bool)
    → undefined_if (not locked) UnlockFree (Next (with_object s number (Mutex false)))
    ≡ and_then (undefined_if (not locked) UnlockFree (Next (Mutex false))) (λ o. Next (with_object s number o))
unlocked_by s number true = refl
unlocked_by s number false = refl

pub unlock_at : (s : Store) (number : ℕ) → unlock s number ≡ changed_at s number one.unlocked
unlock_at s number =
    by_kind s number (mutex_of s number) as_mutex _ (λ locked. undefined_if (not locked) UnlockFree (Next (Mutex false))) (mutex_at s number) (unlocked_by s number)

marked_by : (s : Store) (number : ℕ) (marked : Bool) (o : Object)
    → undefined_if marked Race (Next (with_object s number o))
    ≡ and_then (undefined_if marked Race (Next o)) (λ o. Next (with_object s number o))
marked_by s number true o = refl
marked_by s number false o = refl

pub map_begin_at : (s : Store) (number : ℕ) → map_begin s number ≡ changed_at s number one.map_begun
map_begin_at s number =
    by_kind s number (map_of s number) as_map _ (λ m. undefined_if m.1 Race (Next (Map m.0 true))) (map_at s number) (λ m. marked_by s number m.1 (Map m.0 true))

pub map_end_at : (s : Store) (number key : ℕ) (item : Option ℕ) → map_end s number key item ≡ changed_at s number (λ o. one.map_ended o key item)
map_end_at s number key item =
    by_kind s number (map_of s number) as_map _ (λ m. Next (Map (changed m.0 key item) false)) (map_at s number) (λ m. refl)
