-- A write that has begun can be ended.
use Rattle.std.proofs.Common.{◌≡◌, ◌∙◌, ℕ, zero, suc, ◌+◌, ◌-◌, ◌<◌, ◌≤◌, Bool, true, false, List, [], ◌∷◌, ◌++◌, Option, Some, None, length, min, refl, ap, sym, subst, arith}
use Rattle.std.specs.Prelude.{map, take, drop, slice_get, slice_set, nat_eq, nat_lt}
use Rattle.std.proofs.lemmas.List.{length-take, length-drop, length-append, length-map}
use Rattle.gv_base.specs.declared.reason.Reason.{Reason}
use Rattle.gv_base.specs.declared.reason.Reason.TheVariants.{NilUse, OutOfRange, Race}
use Rattle.gv_base.specs.declared.answer.Answer.{Answer}
use Rattle.gv_base.specs.declared.answer.Answer.TheVariants.{Next, Blocked, Undefined}
use Rattle.gv_base.specs.declared.val.Val.{Val}
use Rattle.gv_world.specs.declared.cell.Cell.{Cell}
use Rattle.gv_world.specs.Answers.{and_then, undefined_if}
use Rattle.gv_world.specs.Store.{Object, Cells, Map, Mutex, Store, with_object}
use Rattle.gv_world.specs.Cells.{as_cells, cells_of, run, is_short, is_marked, unmarked, with_mark, with_marks, with_items, begin_write, end_write}
use Rattle.gv_world.specs.Laws.{IsNext, WritesEnd}

-- what an access of cells that went on found
record Found (A : Type 0) (b : Bool) (found : Option Object) (f : List Cell → Answer A) (a : A) : Type 0 where
  pub no_nil : b ≡ false
  pub cells : List Cell
  pub is : found ≡ Some (Cells cells)
  pub went : f cells ≡ Next a

found_cells : {A : Type 0} (b : Bool) (found : Option Object) (f : List Cell → Answer A) (a : A)
    → and_then (undefined_if b NilUse (as_cells found)) f ≡ Next a → Found A b found f a
found_cells true found f a e = absurd (cc)
found_cells false None f a e = absurd (cc)
found_cells false (Some (Cells cells)) f a e = record { no_nil = refl; cells = cells; is = refl; went = e }
found_cells false (Some (Map entries marked)) f a e = absurd (cc)
found_cells false (Some (Mutex locked)) f a e = absurd (cc)

-- what cells that were not short left
went_on : {A X : Type 0} (b c : Bool) (x : X) (a a' : A)
    → and_then (undefined_if b OutOfRange (undefined_if c Race (Next x))) (λ f. Next a') ≡ Next a → (b ≡ false) × (a ≡ a')
went_on true c x a a' e = absurd (cc)
went_on false true x a a' e = absurd (cc)
went_on false false x a a' e = (refl, cc)

set_there : {A : Type 0} (xs : List A) (k : ℕ) (x y : A) → slice_get xs k ≡ Some x → slice_get (slice_set xs k y) k ≡ Some y
set_there [] k x y e = absurd (cc)
set_there (z ∷ xs) zero x y e = refl
set_there (z ∷ xs) (suc k) x y e = set_there xs k x y e

run_length : (cells : List Cell) (i n : ℕ) → length (run cells i n) ≡ min n (length cells - i)
run_length cells i n = length-take n (drop i cells) ∙ ap (λ k. min n k) (length-drop i cells)

marks_length : (cells : List Cell) (i n : ℕ) → length (with_marks cells i n) ≡ length cells
marks_length cells i n =
    let e1 = length-append (take i cells ++ map (with_mark true) (run cells i n)) (drop (i + n) cells) in
    let e2 = length-append (take i cells) (map (with_mark true) (run cells i n)) in
    let e3 = length-map (run cells i n) (with_mark true) in
    let e4 = run_length cells i n in
    let e5 = length-take i cells in
    let e6 = length-drop (i + n) cells in
    omega (arith, e1, e2, e3, e4, e5, e6)

same_short : (cells : List Cell) (i n : ℕ) → is_short (run (with_marks cells i n) i n) n ≡ is_short (run cells i n) n
same_short cells i n =
    ap (λ k. nat_lt k n) (run_length (with_marks cells i n) i n ∙ (ap (λ k. min n (k - i)) (marks_length cells i n) ∙ sym (run_length cells i n)))

-- the end of a write into cells that are there
ended : (s : Store) (o i : ℕ) (items : List Val) (b : Bool) (found : Option Object) (cells : List Cell)
    → b ≡ false → found ≡ Some (Cells cells) → is_short (run cells i (length items)) (length items) ≡ false
    → IsNext (and_then (undefined_if b NilUse (as_cells found)) (λ cells.
    undefined_if (is_short (run cells i (length items)) (length items)) OutOfRange (Next (with_object s o (Cells (with_items cells i items))))))
ended s o i items b found cells e0 e1 e2 =
    rw (e0, e1, e2) (with_object s o (Cells (with_items cells i items)), refl)

pub writes_end : WritesEnd
writes_end s begun o i items e =
    let f = found_cells (nat_eq o 0) (slice_get s.objects (o - 1)) _ begun e in
    let (short, left) = went_on _ _ _ begun (with_object s o (Cells (with_marks f.cells i (length items)))) f.went in
    let there = set_there s.objects (o - 1) (Cells f.cells) (Cells (with_marks f.cells i (length items))) f.is in
    subst (λ (w : Store). IsNext (end_write w o i items)) (sym left)
    (ended _ o i items (nat_eq o 0) _ (with_marks f.cells i (length items)) f.no_nil there (same_short f.cells i (length items) ∙ short))
