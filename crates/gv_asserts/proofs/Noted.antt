-- What is noted of predicates is what the logic says of them.
use Rattle.std.proofs.Common.{◌≡◌, ℕ, zero, suc, ◌+◌, ◌<◌, ◌≤◌, Bool, true, false, List, [], ◌∷◌, ◌++◌, Some, None, length, refl, arith, ap, sym, ◌∙◌, subst}
use Rattle.std.specs.Prelude.{◌↔◌, ◌&&◌, Option, map, slice_get}
use Rattle.std.specs.List.{list_all}
use Rattle.std.proofs.lemmas.Option.{slice_get_past}
use Rattle.gv_terms.specs.declared.term.Term.{Term}
use Rattle.gv_terms.specs.declared.tree.TermTree.{TermTree}
use Rattle.gv_terms.specs.declared.var.Var.{Var}
use Rattle.gv_terms.specs.Store.{tree_at}
use Rattle.gv_resources.specs.Kinds.{Kind, item_kind}
use Rattle.gv_resources.specs.Kinds as kind
use Rattle.gv_assertions.specs.Atoms as logic
use Rattle.gv_assertions.specs.Atoms.{Owns, Slice, Spare, Instance, Predicate, atoms_of}
use Rattle.gv_assertions.specs.Kept.{IsOfKinds, AreOfKinds, of_owns, of_slice, of_spare, of_instance, of_each, of_none, of_both}
use Rattle.gv_commands.specs.declared.atom.Simple.{Simple}
use Rattle.gv_commands.specs.declared.atom.Simple.TheVariants as simple
use Rattle.gv_commands.specs.declared.atom.Atom.{Atom}
use Rattle.gv_commands.specs.declared.atom.Atom.TheVariants as atom
use Rattle.gv_commands.specs.declared.decls.Item.{Item}
use Rattle.gv_commands.specs.declared.decls.Item.TheVariants as item
use Rattle.gv_commands.specs.declared.decls.Pred.{Pred}
use Rattle.gv_asserts.specs.declared.quality.Quality.{Quality}
use Rattle.gv_asserts.specs.declared.quality.Quality.TheVariants as quality
use Rattle.gv_asserts.specs.declared.quality.Kept.{Kept}
use Rattle.gv_asserts.specs.Atoms.{map_simple, assertion_of, atom_at}
use Rattle.gv_asserts.specs.Kinds.{keeps, noted, noted_in, noted_at, simple_keeps, atom_keeps, item_keeps, case_keeps, pred_keeps, kept_of, table_on, table_of}
use Rattle.gv_asserts.specs.Predicates.{item_among, tree_among, tree_within, case_of, predicate_of, predicates_of, simple_names, item_names, names, AreEarlier}
use Rattle.gv_asserts.specs.Keeping.{NotedLaw}

-- ---- lists and tests

some_same : {A : Type 0} (x y : A) → Some x ≡ Some y → x ≡ y
some_same x y e = cc

both : (a b : Bool) → a ≡ true → b ≡ true → (a && b) ≡ true
both true b e d = d
both false b e d = absurd cc

parted : (a b : Bool) → (a && b) ≡ true → (a ≡ true) × (b ≡ true)
parted true b e = (refl, e)
parted false b e = absurd cc

at_place : {A : Type 0} (f : A → Bool) (xs : List A) (n : ℕ) (x : A) → list_all f xs ≡ true → slice_get xs n ≡ Some x → f x ≡ true
at_place f [] n x e g = absurd cc
at_place f (y ∷ ys) zero x e g = ap f (sym (some_same y x g)) ∙ (parted (f y) (list_all f ys) e).0
at_place f (y ∷ ys) (suc n) x e g = at_place f ys n x (parted (f y) (list_all f ys) e).1 g

from_places : {A : Type 0} (f : A → Bool) (xs : List A) → ((n : ℕ) (x : A) → slice_get xs n ≡ Some x → f x ≡ true) → list_all f xs ≡ true
from_places f [] h = refl
from_places f (x ∷ xs) h = both (f x) (list_all f xs) (h 0 x refl) (from_places f xs (λ n y g. h (suc n) y g))

-- where two tests agree on what stands in a list
all_same : {A : Type 0} (f g : A → Bool) (xs : List A) → ((n : ℕ) (x : A) → slice_get xs n ≡ Some x → f x ≡ g x) → list_all f xs ≡ list_all g xs
all_same f g [] h = refl
all_same f g (x ∷ xs) h = let first = h 0 x refl in let rest = all_same f g xs (λ n y e. h (suc n) y e) in cc

-- what stands at a place of what is made of each
came_from : {A B : Type 0} (f : A → B) (xs : List A) (n : ℕ) (y : B) → slice_get (map f xs) n ≡ Some y → (x : A) × (slice_get xs n ≡ Some x) × (f x ≡ y)
came_from f [] n y e = absurd cc
came_from f (x ∷ xs) zero y e = (x, refl, some_same (f x) y e)
came_from f (x ∷ xs) (suc n) y e = came_from f xs n y e

goes_to : {A B : Type 0} (f : A → B) (xs : List A) (n : ℕ) (x : A) → slice_get xs n ≡ Some x → slice_get (map f xs) n ≡ Some (f x)
goes_to f [] n x e = absurd cc
goes_to f (y ∷ ys) zero x e = ap (λ z. Some (f z)) (some_same y x e)
goes_to f (y ∷ ys) (suc n) x e = goes_to f ys n x e

left_of : {A : Type 0} (xs ys : List A) (n : ℕ) → n < length xs → slice_get (xs ++ ys) n ≡ slice_get xs n
left_of [] ys n l = absurd (omega arith)
left_of (x ∷ xs) ys zero l = refl
left_of (x ∷ xs) ys (suc n) l = left_of xs ys n (omega (arith, l))

last_of : {A : Type 0} (xs : List A) (x : A) → slice_get (xs ++ x ∷ []) (length xs) ≡ Some x
last_of [] x = refl
last_of (y ∷ ys) x = last_of ys x

one_longer : {A : Type 0} (xs : List A) (x : A) → length (xs ++ x ∷ []) ≡ suc (length xs)
one_longer [] x = refl
one_longer (y ∷ ys) x = ap suc (one_longer ys x)

-- ---- the table

-- what is noted already stays
stays : (table : List Kept) (preds : List Pred) (n : ℕ) → n < length table → slice_get (table_on table preds) n ≡ slice_get table n
stays table [] n l = refl
stays table (p ∷ preds) n l =
    let k = one_longer table (kept_of table p) in
    stays (table ++ kept_of table p ∷ []) preds n (omega (arith, l, k)) ∙ left_of table (kept_of table p ∷ []) n l

-- as many are noted as there are predicates
counted : (table : List Kept) (preds : List Pred) → length (table_on table preds) ≡ length table + length preds
counted table [] = omega arith
counted table (p ∷ preds) =
    let k = one_longer table (kept_of table p) in
    let c = counted (table ++ kept_of table p ∷ []) preds in
    omega (arith, k, c)

-- of each predicate is noted what comes of those before it
record IsNoted (whole : List Kept) (place : ℕ) (p : Pred) : Type 0 where
  before : List Kept
  there : slice_get whole place ≡ Some (kept_of before p)
  same : (m : ℕ) → m < place → slice_get whole m ≡ slice_get before m

noted_from : (table : List Kept) (preds : List Pred) (n : ℕ) (p : Pred) → slice_get preds n ≡ Some p → IsNoted (table_on table preds) (length table + n) p
noted_from table [] n p e = absurd cc
noted_from table (q ∷ preds) zero p e =
    let k = one_longer table (kept_of table q) in
    record {
      before = table;
      there = subst (λ m. slice_get (table_on (table ++ kept_of table q ∷ []) preds) m ≡ Some (kept_of table p)) (omega arith)
          (stays (table ++ kept_of table q ∷ []) preds (length table) (omega (arith, k)) ∙ last_of table (kept_of table q)
          ∙ ap (λ r. Some (kept_of table r)) (some_same q p e));
      same = λ m l. stays table (q ∷ preds) m (omega (arith, l));
    }
noted_from table (q ∷ preds) (suc n) p e =
    let k = one_longer table (kept_of table q) in
    subst (λ m. IsNoted (table_on (table ++ kept_of table q ∷ []) preds) m p) (omega (arith, k)) (noted_from (table ++ kept_of table q ∷ []) preds n p e)

past : {A : Type 0} (xs : List A) (n : ℕ) → slice_get xs n ≡ None → length xs ≤ n
past [] n e = omega arith
past (x ∷ xs) zero e = absurd cc
past (x ∷ xs) (suc n) e = let l = past xs n e in omega (arith, l)

-- ---- what the constructors say

owns_kept : {f : Kind → Bool} {ps : List Predicate} {k : Kind} {key value : List TermTree} → IsOfKinds f ps (Owns k key value) → f k ≡ true
owns_kept (of_owns e) = e

slice_kept : {f : Kind → Bool} {ps : List Predicate} {frozen : Bool} {s items : TermTree} → IsOfKinds f ps (Slice frozen s items) → f (item_kind frozen) ≡ true
slice_kept (of_slice e) = e

spare_kept : {f : Kind → Bool} {ps : List Predicate} {s : TermTree} → IsOfKinds f ps (Spare s) → f kind.Item ≡ true
spare_kept (of_spare e) = e

body_kept : {f : Kind → Bool} {ps : List Predicate} {index : List ℕ} {low high : TermTree} {except : List TermTree} {a : logic.Atom}
    → IsOfKinds f ps (logic.Each index low high except a) → IsOfKinds f ps a
body_kept (of_each k) = k

case_kept : {f : Kind → Bool} {ps : List Predicate} {n : ℕ} {args : List TermTree} (pred : Predicate) (place : ℕ) (case : logic.Case)
    → slice_get ps n ≡ Some pred → slice_get pred.cases place ≡ Some case → IsOfKinds f ps (Instance n args) → AreOfKinds f ps (atoms_of case.items)
case_kept pred place case is_pred is_case (of_instance cases) = cases pred place case is_pred is_case

first_kept : {f : Kind → Bool} {ps : List Predicate} {a : logic.Atom} {all : List logic.Atom} → AreOfKinds f ps (a ∷ all) → IsOfKinds f ps a
first_kept (of_both k ks) = k

rest_kept : {f : Kind → Bool} {ps : List Predicate} {a : logic.Atom} {all : List logic.Atom} → AreOfKinds f ps (a ∷ all) → AreOfKinds f ps all
rest_kept (of_both k ks) = ks

noted_is : (q : Quality) (table : List Kept) (p : Pred) → noted q (kept_of table p) ≡ pred_keeps q table p
noted_is quality.Durable table p = refl
noted_is quality.Persistent table p = refl
noted_is quality.TokenFree table p = refl

-- ---- two tables that agree on what is named

simple_same : {A : Type 0} (q : Quality) (t u : List Kept) (a : Simple A) → ((k m : ℕ) → slice_get (simple_names a) k ≡ Some m → slice_get t m ≡ slice_get u m)
    → simple_keeps q t a ≡ simple_keeps q u a
simple_same q t u (simple.Instance i) h = ap (noted_in q) (h 0 i.pred refl)
simple_same q t u _ h = refl

item_same : (q : Quality) (t u : List Kept) (i : Item) → ((k m : ℕ) → slice_get (item_names i) k ≡ Some m → slice_get t m ≡ slice_get u m)
    → item_keeps q t i ≡ item_keeps q u i
item_same q t u (item.Fact f) h = refl
item_same q t u (item.Atom (atom.Simple a)) h = simple_same q t u a h
item_same q t u (item.Atom (atom.Each e)) h = simple_same q t u e.body h

-- ---- predicates

module _ (q : Quality) (preds : List Pred) (earlier : AreEarlier preds) where
  abbrev pub Down : ℕ → Type 0
  Down n = noted_at q (table_of preds) n ≡ true → (args : List TermTree) → IsOfKinds (keeps q) (predicates_of preds) (Instance n args)

  abbrev pub Up : ℕ → Type 0
  Up n = (args : List TermTree) → IsOfKinds (keeps q) (predicates_of preds) (Instance n args) → noted_at q (table_of preds) n ≡ true

  simple_down : {A : Type 0} (f : A → TermTree) (a : Simple A) → ((k m : ℕ) → slice_get (simple_names a) k ≡ Some m → Down m)
      → simple_keeps q (table_of preds) a ≡ true → IsOfKinds (keeps q) (predicates_of preds) (assertion_of (map_simple f a))
  simple_down f (simple.Slice slice items) h e = of_slice e
  simple_down f (simple.Roslice slice items) h e = of_slice e
  simple_down f (simple.Spare slice) h e = of_spare e
  simple_down f (simple.Instance i) h e = h 0 i.pred refl e (map f i.args)
  simple_down f _ h e = of_owns e

  simple_up : {A : Type 0} (f : A → TermTree) (a : Simple A) → ((k m : ℕ) → slice_get (simple_names a) k ≡ Some m → Up m)
      → IsOfKinds (keeps q) (predicates_of preds) (assertion_of (map_simple f a)) → simple_keeps q (table_of preds) a ≡ true
  simple_up f (simple.Slice slice items) h e = slice_kept e
  simple_up f (simple.Roslice slice items) h e = slice_kept e
  simple_up f (simple.Spare slice) h e = spare_kept e
  simple_up f (simple.Instance i) h e = h 0 i.pred refl (map f i.args) e
  simple_up f _ h e = owns_kept e

  items_down : (vars : List Var) (items : List Item)
      → ((at k m : ℕ) (i : Item) → slice_get items at ≡ Some i → slice_get (item_names i) k ≡ Some m → Down m)
      → list_all (item_keeps q (table_of preds)) items ≡ true → AreOfKinds (keeps q) (predicates_of preds) (atoms_of (map (item_among vars) items))
  items_down vars [] h e = of_none
  items_down vars (item.Fact f ∷ items) h e = items_down vars items (λ at k m i g. h (suc at) k m i g) e
  items_down vars (item.Atom (atom.Simple a) ∷ items) h e =
      let two = parted (simple_keeps q (table_of preds) a) (list_all (item_keeps q (table_of preds)) items) e in
      of_both (simple_down (tree_among vars) a (λ k m n. h 0 k m _ refl n) two.0) (items_down vars items (λ at k m i g. h (suc at) k m i g) two.1)
  items_down vars (item.Atom (atom.Each r) ∷ items) h e =
      let two = parted (simple_keeps q (table_of preds) r.body) (list_all (item_keeps q (table_of preds)) items) e in
      of_both (of_each (simple_down (tree_within vars r.index) r.body (λ k m n. h 0 k m _ refl n) two.0))
      (items_down vars items (λ at k m i g. h (suc at) k m i g) two.1)

  items_up : (vars : List Var) (items : List Item)
      → ((at k m : ℕ) (i : Item) → slice_get items at ≡ Some i → slice_get (item_names i) k ≡ Some m → Up m)
      → AreOfKinds (keeps q) (predicates_of preds) (atoms_of (map (item_among vars) items)) → list_all (item_keeps q (table_of preds)) items ≡ true
  items_up vars [] h e = refl
  items_up vars (item.Fact f ∷ items) h e = items_up vars items (λ at k m i g. h (suc at) k m i g) e
  items_up vars (item.Atom (atom.Simple a) ∷ items) h e =
      both (simple_keeps q (table_of preds) a) (list_all (item_keeps q (table_of preds)) items)
      (simple_up (tree_among vars) a (λ k m n. h 0 k m _ refl n) (first_kept e))
      (items_up vars items (λ at k m i g. h (suc at) k m i g) (rest_kept e))
  items_up vars (item.Atom (atom.Each r) ∷ items) h e =
      both (simple_keeps q (table_of preds) r.body) (list_all (item_keeps q (table_of preds)) items)
      (simple_up (tree_within vars r.index) r.body (λ k m n. h 0 k m _ refl n) (body_kept (first_kept e)))
      (items_up vars items (λ at k m i g. h (suc at) k m i g) (rest_kept e))

  -- what is noted of a predicate is what comes of the whole table
  by_cases : (n : ℕ) (p : Pred) → slice_get preds n ≡ Some p → noted_at q (table_of preds) n ≡ pred_keeps q (table_of preds) p
  by_cases n p g =
      let is : IsNoted (table_of preds) n p = subst (λ m. IsNoted (table_of preds) m p) (omega arith) (noted_from [] preds n p g) in
      ap (noted_in q) is.there ∙ noted_is q is.before p
      ∙ all_same (case_keeps q is.before) (case_keeps q (table_of preds)) p.cases (λ j c gc.
      all_same (item_keeps q is.before) (item_keeps q (table_of preds)) c.items (λ at i gi.
      item_same q is.before (table_of preds) i (λ k m gm. sym (is.same m (let l = earlier n m p g (names j at k c i gc gi gm) in omega (arith, l))))))

  instance_down : (n : ℕ) → ((m : ℕ) → m < n → Down m) → Down n
  instance_down n h e args = of_instance (λ pred place case is_pred is_case.
      let (p, g, same) = came_from predicate_of preds n pred is_pred in
      let (c, gc, is) = came_from (case_of p.params) p.cases place case (ap (λ r. slice_get r.cases place) same ∙ is_case) in
      let kept = at_place (case_keeps q (table_of preds)) p.cases place c (sym (by_cases n p g) ∙ e) gc in
      subst (λ r. AreOfKinds (keeps q) (predicates_of preds) (atoms_of r.items)) is
      (items_down (p.params ++ c.vars) c.items (λ at k m i gi gm. h m (earlier n m p g (names place at k c i gc gi gm))) kept))

  instance_up : (n : ℕ) → ((m : ℕ) → m < n → Up m) → Up n
  instance_up n h args k = told (slice_get preds n) refl
    where
      told : (o : Option Pred) → slice_get preds n ≡ o → noted_at q (table_of preds) n ≡ true
      told None g =
          let l = past preds n g in
          let c = counted [] preds in
          ap (noted_in q) (slice_get_past (table_of preds) n (omega (arith, l, c)))
      told (Some p) g = by_cases n p g ∙ from_places (case_keeps q (table_of preds)) p.cases (λ place c gc.
          items_up (p.params ++ c.vars) c.items (λ at j m i gi gm. h m (earlier n m p g (names place at j c i gc gi gm)))
          (case_kept (predicate_of p) place (case_of p.params c) (goes_to predicate_of preds n p g) (goes_to (case_of p.params) p.cases place c gc) k))

  down_below : (bound n : ℕ) → n < bound → Down n
  down_below zero n l = absurd (omega (arith, l))
  down_below (suc bound) n l = instance_down n (λ m k. down_below bound m (omega (arith, l, k)))

  up_below : (bound n : ℕ) → n < bound → Up n
  up_below zero n l = absurd (omega (arith, l))
  up_below (suc bound) n l = instance_up n (λ m k. up_below bound m (omega (arith, l, k)))

pub noted_law : NotedLaw
noted_law q preds st (atom.Simple a) earlier = (
  simple_down q preds earlier (λ t. tree_at st t.id) a (λ k m g. down_below q preds earlier (suc m) m (omega arith)),
  simple_up q preds earlier (λ t. tree_at st t.id) a (λ k m g. up_below q preds earlier (suc m) m (omega arith)),
)
noted_law q preds st (atom.Each r) earlier = (
  λ e. of_each (simple_down q preds earlier (λ t. tree_at st t.id) r.body (λ k m g. down_below q preds earlier (suc m) m (omega arith)) e),
  λ e. simple_up q preds earlier (λ t. tree_at st t.id) r.body (λ k m g. up_below q preds earlier (suc m) m (omega arith)) (body_kept e),
)

-- the same of a table that is the right one
pub told_by : (q : Quality) (preds : List Pred) (table : List Kept) (st : List TermTree) (a : Atom Term) → AreEarlier preds → table ≡ table_of preds
    → (atom_keeps q table a ≡ true) ↔ IsOfKinds (keeps q) (predicates_of preds) (atom_at st a)
told_by q preds table st a earlier e =
    subst (λ t. (atom_keeps q t a ≡ true) ↔ IsOfKinds (keeps q) (predicates_of preds) (atom_at st a)) (sym e) (noted_law q preds st a earlier)
