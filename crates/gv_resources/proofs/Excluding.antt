-- What can't be owned at once.
use Rattle.std.proofs.Common.{◌≡◌, ℕ, ◌<◌, ◌⊎◌, inl, inr, Bool, true, false, ◌&&◌, List, [], ◌∷◌, Option, Some, None, refl, sym, arith, subst, ◌∙◌}
use Rattle.std.specs.Prelude.{slice_get}
use Rattle.gv_terms.specs.declared.value.Value.{Value}
use Rattle.gv_terms.specs.declared.value.Value.TheVariants as val
use Rattle.gv_terms.specs.Values.{bool_eq}
use Rattle.gv_world.specs.Store.{Disk, Store as World}
use Rattle.gv_spec.specs.Walks.{Standing, NeverCalled, Called, Acted, Answered, Dropped}
use Rattle.gv_resources.specs.Kinds as kind
use Rattle.gv_resources.specs.Kinds.{Kind, most}
use Rattle.gv_resources.specs.Ghost.{Ghost}
use Rattle.gv_resources.specs.Pieces.{Have, Piece, Fits}
use Rattle.gv_resources.specs.Told.{Shape, told, under, only_if, one, is_leased, cell_at, cell_of, object_of, number_of, free_mutex, held_mutex, guarded_by, may_act, token_at, acted_with, call_of, failed_in}
use Rattle.gv_resources.specs.Laws.{AreParts, IsOneFailed, Excludes, ExcludesLaw}

-- ---- what is told under one key

same_some : {A : Type 0} (x y : A) → Some x ≡ Some y → x ≡ y
same_some x y e = cc

-- two tests that can't both hold let through one of two answers at most
not_both : {A : Type 0} (frozen sliced slice other : Bool) (x y : Option A) (v u : A)
    → only_if (bool_eq frozen false && bool_eq sliced slice) x ≡ Some v → only_if (bool_eq frozen true && bool_eq other slice) y ≡ Some u → ⊥
not_both true sliced slice other x y v u h k = cc
not_both false sliced slice other x y v u h k = cc

not_formed : {A : Type 0} (a b c d sliced : Bool) (x y : Option A) (v u : A)
    → only_if (bool_eq a b && bool_eq sliced false) x ≡ Some v → only_if (bool_eq c d && bool_eq sliced true) y ≡ Some u → ⊥
not_formed true true c d true x y v u h k = cc
not_formed true false c d true x y v u h k = cc
not_formed false true c d true x y v u h k = cc
not_formed false false c d true x y v u h k = cc
not_formed a b true true false x y v u h k = cc
not_formed a b true false false x y v u h k = cc
not_formed a b false true false x y v u h k = cc
not_formed a b false false false x y v u h k = cc

module _ (w : World) (g : Ghost) (slice : Bool) where
  cell_once : (c : Option (ℕ × ℕ)) (v u : List Value) → under c (λ c. cell_at w g false slice c.0 c.1) ≡ Some v
      → under c (λ c. cell_at w g true slice c.0 c.1) ≡ Some u → ⊥
  cell_once None v u h k = absurd cc
  cell_once (Some c) v u h k = not_both (g.frozen c.0 c.1) (g.sliced c.0) slice (g.sliced c.0) _ _ v u h k

free_or_held : (locked : Option Bool) (guard : Option (ℕ × List Value)) (v u : List Value) → free_mutex locked guard ≡ Some v → held_mutex locked guard ≡ Some u → ⊥
free_or_held None guard v u h k = absurd cc
free_or_held (Some true) guard v u h k = absurd cc
free_or_held (Some false) None v u h k = absurd cc
free_or_held (Some false) (Some guard) v u h k = absurd cc

free_or_guarded : (locked : Option Bool) (guard : Option (ℕ × List Value)) (v u : List Value) → free_mutex locked guard ≡ Some v → guarded_by locked guard ≡ Some u → ⊥
free_or_guarded None guard v u h k = absurd cc
free_or_guarded (Some true) guard v u h k = absurd cc
free_or_guarded (Some false) None v u h k = absurd cc
free_or_guarded (Some false) (Some guard) v u h k = absurd cc

under_both : {K : Type 0} (f g : K → Option (List Value)) → ((k : K) (v u : List Value) → f k ≡ Some v → g k ≡ Some u → ⊥) → (key : Option K) (v u : List Value)
    → under key f ≡ Some v → under key g ≡ Some u → ⊥
under_both f g never None v u h k = absurd cc
under_both f g never (Some key) v u h k = never key v u h k

token_or_done : (z : Shape) (standing : Standing Value) (kept : Option Value) (is_new : Bool) (v u : List Value) → only_if is_new (may_act z standing) ≡ Some v
    → acted_with standing kept ≡ Some u → ⊥
token_or_done z (Called op args) kept is_new v u h k = absurd cc
token_or_done z NeverCalled kept true v u h k = absurd cc
token_or_done z NeverCalled kept false v u h k = absurd cc
token_or_done z (Acted reply) kept true v u h k = absurd cc
token_or_done z (Acted reply) kept false v u h k = absurd cc
token_or_done z Answered kept true v u h k = absurd cc
token_or_done z Answered kept false v u h k = absurd cc
token_or_done z Dropped kept true v u h k = absurd cc
token_or_done z Dropped kept false v u h k = absurd cc

-- what is told of a leased field's lease is told of the field
under_test : {K : Type 0} (key : Option K) (test : K → Bool) (f : K → Option (List Value)) (v u : List Value) → under key f ≡ Some v
    → under key (λ k. only_if (test k) (f k)) ≡ Some u → v ≡ u
under_test None test f v u h k = absurd cc
under_test (Some key) test f v u h k = tested (test key) (f key) v u h k
  where
    tested : (test : Bool) (x : Option (List Value)) (v u : List Value) → x ≡ Some v → only_if test x ≡ Some u → v ≡ u
    tested true x v u h k = same_some v u (sym h ∙ k)
    tested false x v u h k = absurd cc

-- a disk that is told as failed is there and has failed
down : (x : Option Disk) (v : List Value) → failed_in x ≡ Some v → (disk : Disk) × (x ≡ Some disk) × (disk.failed ≡ true)
down None v h = absurd cc
down (Some disk) v h = (disk, refl, failed disk.failed v h)
  where
    failed : (failed : Bool) (v : List Value) → only_if failed (Some []) ≡ Some v → failed ≡ true
    failed true v h = refl
    failed false v h = absurd cc

-- ---- all of it

module _ (z : Shape) (w : World) (g : Ghost) (p : Piece) (f : Fits p (told z w g)) where
  agree : (k : Kind) (key v u : List Value) → 0 < p (Have k key v) → 0 < p (Have k key u) → v ≡ u
  agree k key v u h l = same_some v u (sym (f.says k key v h) ∙ f.says k key u l)

  alone : (k : Kind) (key v u : List Value) (one other : Piece) → most k ≡ Some 1 → AreParts one other p → 0 < one (Have k key v) → 0 < other (Have k key u) → ⊥
  alone k key v u one other m parts h l =
      let a = parts (Have k key v) in
      let b = parts (Have k key u) in
      let same : v ≡ u = agree k key v u (omega arith) (omega arith) in
      let moved : 0 < other (Have k key v) = subst (λ x. 0 < other (Have k key x)) (sym same) l in
      let c = f.few k key v 1 m in
      omega arith

  at_kind : (k l : Kind) (object i : ℕ) (v : List Value) → k ≡ l → told z w g k (val.Ref object ∷ val.Word i ∷ []) ≡ Some v
      → told z w g l (val.Ref object ∷ val.Word i ∷ []) ≡ Some v
  at_kind k l object i v e h = subst (λ (x : Kind). told z w g x (val.Ref object ∷ val.Word i ∷ []) ≡ Some v) e h

  one_form : (k l : Kind) (object i j : ℕ) (v u : List Value) → (k ≡ kind.Cell) ⊎ (k ≡ kind.FrozenCell) → (l ≡ kind.Item) ⊎ (l ≡ kind.FrozenItem)
      → told z w g k (val.Ref object ∷ val.Word i ∷ []) ≡ Some v → told z w g l (val.Ref object ∷ val.Word j ∷ []) ≡ Some u → ⊥
  one_form k l object i j v u (inl a) (inl b) h n =
      not_formed (g.frozen object i) false (g.frozen object j) false (g.sliced object) _ _ v u (at_kind k kind.Cell object i v a h) (at_kind l kind.Item object j u b n)
  one_form k l object i j v u (inl a) (inr b) h n =
      not_formed (g.frozen object i) false (g.frozen object j) true (g.sliced object) _ _ v u (at_kind k kind.Cell object i v a h) (at_kind l kind.FrozenItem object j u b n)
  one_form k l object i j v u (inr a) (inl b) h n =
      not_formed (g.frozen object i) true (g.frozen object j) false (g.sliced object) _ _ v u (at_kind k kind.FrozenCell object i v a h) (at_kind l kind.Item object j u b n)
  one_form k l object i j v u (inr a) (inr b) h n =
      not_formed (g.frozen object i) true (g.frozen object j) true (g.sliced object) _ _ v u (at_kind k kind.FrozenCell object i v a h) (at_kind l kind.FrozenItem object j u b n)

  both_down : IsOneFailed w → (v u : List Value) → told z w g kind.Down (val.Word 0 ∷ []) ≡ Some v → told z w g kind.Down (val.Word 1 ∷ []) ≡ Some u → ⊥
  both_down only v u h k =
      let (first, first_is, first_failed) = down (slice_get w.disks 0) v h in
      let (second, second_is, second_failed) = down (slice_get w.disks 1) u k in
      only first second first_is second_is first_failed second_failed

  pub excluding : Excludes z w g p
  excluding = record {
    agree = agree;
    alone = alone;
    blocks = λ key v u h l. same_some v u (sym (f.says kind.Master key v h) ∙ f.says kind.Lease key u l);
    fields = λ key v u h l. under_test (number_of key) (λ place. is_leased (slice_get z.leased place)) (λ place. one (slice_get g.walk.fields place)) v u
        (f.says kind.Field key v h) (f.says kind.FieldLease key u l);
    books = λ key v u h l. same_some v u (sym (f.says kind.BookMaster key v h) ∙ f.says kind.BookLease key u l);
    halves = λ key v. f.few kind.Half key v 2 refl;
    cells = λ key v u h l. cell_once w g false (cell_of key) v u (f.says kind.Cell key v h) (f.says kind.FrozenCell key u l);
    items = λ key v u h l. cell_once w g true (cell_of key) v u (f.says kind.Item key v h) (f.says kind.FrozenItem key u l);
    one_form = λ k l object i j v u a b h n. one_form k l object i j v u a b (f.says k _ v h) (f.says l _ u n);
    acts = λ key v u h l. under_both (λ c. token_at z g c) (λ c. acted_with (g.walk.table c) (g.kept c)) (λ c v u h k. token_or_done z (g.walk.table c) (g.kept c) _ v u h k) (call_of key) v u
        (f.says kind.Token key v h) (f.says kind.Done key u l);
    held = λ key v u h l. under_both _ _ (λ o v u h k. free_or_held _ (g.guards o) v u h k) (object_of key) v u (f.says kind.Mutex key v h) (f.says kind.Held key u l);
    guarded = λ key v u h l. under_both _ _ (λ o v u h k. free_or_guarded _ (g.guards o) v u h k) (object_of key) v u (f.says kind.Mutex key v h) (f.says kind.Lock key u l);
    disks = λ only v u h l. both_down only v u (f.says kind.Down _ v h) (f.says kind.Down _ u l);
  }

pub excludes_law : ExcludesLaw
excludes_law z w g p f = excluding z w g p f
