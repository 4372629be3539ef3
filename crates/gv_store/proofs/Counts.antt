-- Counting the live cells of objects.
use Rattle.std.proofs.Common.{◌≡◌, ℕ, max, ◌+◌, ◌-◌, ◌^◌, ◌<◌, ◌≤◌, true, List, [], ◌∷◌, ◌++◌, length, take, drop, set, get_or, map, refl, ap, arith}
use Rattle.std.specs.Prelude.{nat_le, sum, sum_by}
use Rattle.std.proofs.lemmas.Bool.{leb-true}
use Rattle.std.proofs.lemmas.List.{take_rest}
use Rattle.std.proofs.lemmas.List.Sums.{sum-map, sum_by-cons, sum_by_push, sum_by-set, sum_by_more, sum_by_more_le, sum_by-take-drop}
use Rattle.gv_world.specs.declared.cell.Cell.{Cell}
use Rattle.gv_world.specs.Store.{Object, Cells, Map, Mutex, Store, counted, most_cells, is_within_limit, with_new}
use Rattle.gv_store.specs.Counting.{IsCounted}

-- each object counts at least one
pub counts_one : (o : Object) → 1 ≤ counted o
counts_one (Cells []) = omega arith
counts_one (Cells (c ∷ cells)) = omega arith
counts_one (Map entries marked) = omega arith
counts_one (Mutex locked) = omega arith

at_least : (objects : List Object) → length objects ≤ sum_by counted objects
at_least [] = omega arith
at_least (o ∷ objects) = omega (arith, counts_one o, at_least objects, sum_by-cons counted o objects)

pub no_more_objects : (objects : List Object) → length objects ≤ sum (map counted objects)
no_more_objects objects = omega (arith, at_least objects, sum-map counted objects)

pub sum_push : (objects : List Object) (o : Object) → sum (map counted (objects ++ o ∷ [])) ≡ sum (map counted objects) + counted o
sum_push objects o = omega (arith, sum_by_push counted objects o, sum-map counted objects, sum-map counted (objects ++ o ∷ []))

pub sum_set : (objects : List Object) (i : ℕ) (o d : Object) → i < length objects
    → sum (map counted (set objects i o)) + counted (get_or objects i d) ≡ sum (map counted objects) + counted o
sum_set objects i o d lt = omega (arith, sum_by-set counted objects i o d lt, sum-map counted objects, sum-map counted (set objects i o))

pub counted_cells : (cells : List Cell) (n : ℕ) → length cells ≡ n → counted (Cells cells) ≡ max n 1
counted_cells [] n e = rw (← e) refl
counted_cells (c ∷ cells) n e = omega arith

-- the number of a fresh object that there is room for
pub fresh_within : (s w : Store) (o : Object) (n : ℕ) → s ≡ w → is_within_limit (with_new w o) ≡ true → n ≡ length s.objects + 1 → n ≤ 2 ^ 24
fresh_within s w o n e room is =
    let there = room_of (sum (map counted (w.objects ++ o ∷ []))) room in
    omega (arith, there, sum_push w.objects o, no_more_objects w.objects, counts_one o, ap (λ x. length x.objects) e)
  where
    room_of : (m : ℕ) → nat_le m most_cells ≡ true → m ≤ 2 ^ 24
    room_of m e = leb-true m most_cells e

-- ---- the objects of a list one by one

pub total_more : (objects : List Object) (i j total : ℕ) (d : Object) → i < length objects → j ≡ i + 1 → total ≡ sum (map counted (take i objects))
    → total + counted (get_or objects i d) ≡ sum (map counted (take j objects))
total_more objects i j total d lt e is =
    rw e (omega (arith, is, sum_by_more counted objects i d lt, sum-map counted (take i objects), sum-map counted (take (i + 1) objects)))

pub total_within : (objects : List Object) (i total : ℕ) (d : Object) → i < length objects → total ≡ sum (map counted (take i objects))
    → sum (map counted objects) ≤ 2 ^ 24 → total + counted (get_or objects i d) ≤ 2 ^ 24
total_within objects i total d lt is le =
    omega (arith, is, sum_by_more_le counted objects i d lt, sum-map counted (take i objects), sum-map counted objects)

-- ---- and of two parts of a list

pub in_parts : (objects : List Object) (k : ℕ) → sum (map counted (take k objects)) + sum (map counted (drop k objects)) ≡ sum (map counted objects)
in_parts objects k =
    omega (arith, sum_by-take-drop counted objects k, sum-map counted (take k objects), sum-map counted (drop k objects), sum-map counted objects)

pub rest_within : (l m : List Object) (k live : ℕ) → l ≡ m → IsCounted m live → sum (map counted (take (length l - k) (drop k l))) ≤ live
rest_within l m k live e held =
    omega (arith, held.count, in_parts l k, ap (λ x. sum (map counted x)) (take_rest l k), ap (λ x. sum (map counted x)) e)

-- what is left is counted
pub rest_dropped : (l m kept : List Object) (k live t : ℕ) → l ≡ m → IsCounted m live → t ≡ sum (map counted (take (length l - k) (drop k l))) → kept ≡ take k m
    → IsCounted kept (live - t)
rest_dropped l m kept k live t e held is left = record {
  count = omega (arith, held.count, is, in_parts l k, ap (λ x. sum (map counted x)) (take_rest l k), ap (λ x. sum (map counted x)) e, ap (λ x. sum (map counted x)) left, ap (λ x. sum (map counted (take k x))) e);
  within = omega (arith, held.within);
}
