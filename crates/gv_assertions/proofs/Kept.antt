-- What is of some kinds alone is stood for by the part of these kinds.
use Rattle.std.proofs.Common.{◌≡◌, ℕ, zero, suc, ◌+◌, ◌<◌, ◌≤◌, Bool, true, false, if◌then◌else◌, List, [], ◌∷◌, Some, arith}
use Rattle.std.specs.Prelude.{slice_get}
use Rattle.gv_base.specs.declared.slice_val.SliceVal.{SliceVal}
use Rattle.gv_terms.specs.declared.tree.TermTree.{TermTree}
use Rattle.gv_terms.specs.declared.value.Value.{Value}
use Rattle.gv_terms.specs.declared.value.Env.{Env}
use Rattle.gv_terms.specs.Trees.{value_under}
use Rattle.gv_terms.specs.Values.{slice_of}
use Rattle.gv_resources.specs.Kinds as kind
use Rattle.gv_resources.specs.Kinds.{Kind, item_kind}
use Rattle.gv_resources.specs.Pieces.{Resource, Have, Piece, part_of, sum_below}
use Rattle.gv_assertions.specs.Atoms.{Atom, Owns, Slice, Spare, Instance, Each, Case, Predicate, atoms_of}
use Rattle.gv_assertions.specs.Standing.{AreParts, StandsFor, StandForAll, owns, slice, spare, instance, each, none, both, OwnsItems, OwnsSpare, cell_key, number_under}
use Rattle.gv_assertions.specs.Kept.{IsOfKinds, AreOfKinds, of_owns, of_slice, of_spare, of_instance, of_each, of_both}
use Rattle.gv_assertions.specs.Laws.{PartsLaw}

-- ---- parts of pieces

kept : (b : Bool) (n : ℕ) → b ≡ true → 0 < n → 0 < (if b then n else 0)
kept b n e l = rw e l

parts_kept : (keeps : Kind → Bool) (q r p : Piece) → AreParts q r p → AreParts (part_of keeps q) (part_of keeps r) (part_of keeps p)
parts_kept keeps q r p split (Have k key v) = chosen (keeps k)
  where
    chosen : (b : Bool) → (if b then q (Have k key v) else 0) + (if b then r (Have k key v) else 0) ≤ (if b then p (Have k key v) else 0)
    chosen true = split (Have k key v)
    chosen false = omega arith

sum_of_none : (n : ℕ) → sum_below n (λ m. 0) ≤ 0
sum_of_none zero = omega arith
sum_of_none (suc n) = let l = sum_of_none n in omega arith

sums_kept : (keeps : Kind → Bool) (n : ℕ) (parts : ℕ → Piece) (p : Piece) → ((e : Resource) → sum_below n (λ m. parts m e) ≤ p e)
    → (e : Resource) → sum_below n (λ m. part_of keeps (parts m) e) ≤ part_of keeps p e
sums_kept keeps n parts p sums (Have k key v) = chosen (keeps k)
  where
    chosen : (b : Bool) → sum_below n (λ m. if b then parts m (Have k key v) else 0) ≤ (if b then p (Have k key v) else 0)
    chosen true = sums (Have k key v)
    chosen false = sum_of_none n

-- ---- what the constructors say

owns_kept : {keeps : Kind → Bool} {preds : List Predicate} {k : Kind} {key value : List TermTree} → IsOfKinds keeps preds (Owns k key value) → keeps k ≡ true
owns_kept (of_owns e) = e

slice_kept : {keeps : Kind → Bool} {preds : List Predicate} {frozen : Bool} {s items : TermTree} → IsOfKinds keeps preds (Slice frozen s items)
    → keeps (item_kind frozen) ≡ true
slice_kept (of_slice e) = e

spare_kept : {keeps : Kind → Bool} {preds : List Predicate} {s : TermTree} → IsOfKinds keeps preds (Spare s) → keeps kind.Item ≡ true
spare_kept (of_spare e) = e

case_kept : {keeps : Kind → Bool} {preds : List Predicate} {number : ℕ} {args : List TermTree} (pred : Predicate) (place : ℕ) (case : Case)
    → slice_get preds number ≡ Some pred → slice_get pred.cases place ≡ Some case → IsOfKinds keeps preds (Instance number args)
    → AreOfKinds keeps preds (atoms_of case.items)
case_kept pred place case is_pred is_case (of_instance cases) = cases pred place case is_pred is_case

body_kept : {keeps : Kind → Bool} {preds : List Predicate} {index : List ℕ} {low high : TermTree} {except : List TermTree} {a : Atom}
    → IsOfKinds keeps preds (Each index low high except a) → IsOfKinds keeps preds a
body_kept (of_each h) = h

head_kept : {keeps : Kind → Bool} {preds : List Predicate} {a : Atom} {all : List Atom} → AreOfKinds keeps preds (a ∷ all) → IsOfKinds keeps preds a
head_kept (of_both h t) = h

tail_kept : {keeps : Kind → Bool} {preds : List Predicate} {a : Atom} {all : List Atom} → AreOfKinds keeps preds (a ∷ all) → AreOfKinds keeps preds all
tail_kept (of_both h t) = t

-- ---- slices

items_kept : (keeps : Kind → Bool) (k : Kind) (s : SliceVal) (place : ℕ) (items : List Value) (p : Piece) → keeps k ≡ true → OwnsItems k s place items p
    → OwnsItems k s place items (part_of keeps p)
items_kept keeps k s place [] p e h = tt
items_kept keeps k s place (v ∷ items) p e h = (kept (keeps k) (p (Have k (cell_key s place) (v ∷ []))) e h.0, items_kept keeps k s (place + 1) items p e h.1)

spares_kept : (keeps : Kind → Bool) (s : SliceVal) (p : Piece) → keeps kind.Item ≡ true → OwnsSpare s p → OwnsSpare s (part_of keeps p)
spares_kept keeps s p e h place a b =
    let (v, has) = h place a b in
    (v, kept (keeps kind.Item) (p (Have kind.Item (cell_key s place) (v ∷ []))) e has)

-- ---- all assertions

mutual
  pub part_for : {keeps : Kind → Bool} {preds : List Predicate} {env : Env} {a : Atom} {p : Piece} → IsOfKinds keeps preds a → StandsFor preds env a p
      → StandsFor preds env a (part_of keeps p)
  part_for {keeps = keeps} d (owns {k = k} has) = owns (kept (keeps k) _ (owns_kept d) has)
  part_for {keeps = keeps} {p = p} d (slice {env = env} {frozen = frozen} {s = s} h) = slice (record {
    items = h.items;
    of_list = h.of_list;
    as_many = h.as_many;
    cells = items_kept keeps (item_kind frozen) (slice_of (value_under env s)) 0 h.items p (slice_kept d) h.cells;
  })
  part_for {keeps = keeps} {p = p} d (spare {env = env} {s = s} h) = spare (spares_kept keeps (slice_of (value_under env s)) p (spare_kept d) h)
  part_for d (instance pred place case own is_pred is_case values facts stands) =
      instance pred place case own is_pred is_case values facts (part_all (case_kept pred place case is_pred is_case d) stands)
  part_for {keeps = keeps} {p = p} d (each {env = env} {high = high} parts sums stands) =
      each (λ n. part_of keeps (parts n)) (sums_kept keeps (number_under env high) parts p sums) (λ n low high free. part_for (body_kept d) (stands n low high free))

  pub part_all : {keeps : Kind → Bool} {preds : List Predicate} {env : Env} {all : List Atom} {p : Piece} → AreOfKinds keeps preds all → StandForAll preds env all p
      → StandForAll preds env all (part_of keeps p)
  part_all d none = none
  part_all {keeps = keeps} {p = p} d (both q r split a s) =
      both (part_of keeps q) (part_of keeps r) (parts_kept keeps q r p split) (part_for (head_kept d) a) (part_all (tail_kept d) s)

pub parts_law : PartsLaw
parts_law keeps preds env all p d s = part_all d s
