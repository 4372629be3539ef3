-- The cells of a slice that is owned.
use Rattle.std.proofs.Common.{◌≡◌, ℕ, zero, suc, ◌<◌, Bool, true, false, List, [], ◌∷◌, Some, refl, ap, subst, inl, inr, arith, ◌+◌, ◌≤◌}
use Rattle.std.specs.Prelude.{slice_get}
use Rattle.gv_base.specs.declared.val.Val.TheVariants as stored
use Rattle.gv_terms.specs.declared.value.Value.{Value}
use Rattle.gv_terms.specs.declared.value.Value.TheVariants as val
use Rattle.gv_world.specs.Store.{Store as World}
use Rattle.gv_resources.specs.Ghost.{Ghost}
use Rattle.gv_resources.specs.Told.{told, value_of, Shape}
use Rattle.gv_seats.specs.Seats.{CellAt, OwnsTarget}
use Rattle.gv_base.specs.declared.val.Val.{Val}
use Rattle.gv_resources.specs.Kinds as kind
use Rattle.gv_resources.specs.Pieces.{Have, Piece, Fits, Resource}
use Rattle.gv_assertions.specs.Standing.{OwnsItems, cell_key}
use Rattle.gv_base.specs.declared.slice_val.SliceVal.{SliceVal}
use Rattle.gv_resources.specs.Kinds.{Kind, item_kind}
use Rattle.gv_resources.proofs.Excluding.{excludes_law}
use Rattle.gv_seats.proofs.Owning.{apart}
use Rattle.gv_rules.proofs.Loads.{Found, found_in, only_if_is}

pub owns_item : (k : Kind) (s : SliceVal) (place : ℕ) (items : List Value) (p : Piece) (i : ℕ) (v : Value) → OwnsItems k s place items p → slice_get items i ≡ Some v
    → 0 < p (Have k (cell_key s (place + i)) (v ∷ []))
owns_item k s place [] p i v h e = absurd cc
owns_item k s place (u ∷ items) p zero v h e =
    let same : u ≡ v = cc in
    subst (λ (n : ℕ). 0 < p (Have k (cell_key s n) (v ∷ []))) (omega arith) (subst (λ (x : Value). 0 < p (Have k (cell_key s place) (x ∷ []))) same h.0)
owns_item k s place (u ∷ items) p (suc i) v h e =
    subst (λ (n : ℕ). 0 < p (Have k (cell_key s n) (v ∷ []))) (omega arith) (owns_item k s (place + 1) items p i v h.1 e)

pub item_told : (z : Shape) (w : World) (g : Ghost) (frozen : Bool) (o i : ℕ) (x : Value) → told z w g (item_kind frozen) (val.Ref o ∷ val.Word i ∷ []) ≡ Some (x ∷ []) → Found w o i x
item_told z w g false o i x e = found_in w o i x _ refl (only_if_is _ _ (x ∷ []) e)
item_told z w g true o i x e = found_in w o i x _ refl (only_if_is _ _ (x ∷ []) e)

pub byte_is : (v : Val) (b : ℕ) → value_of v ≡ val.Bytes (b ∷ []) → v ≡ stored.Byte b
byte_is (stored.Byte c) b e = let same : c ≡ b = cc in ap stored.Byte same
byte_is (stored.Word n) b e = absurd cc
byte_is (stored.Bool t) b e = absurd cc
byte_is (stored.Ref r) b e = absurd cc
byte_is (stored.Slice s) b e = absurd cc
byte_is stored.Unit b e = absurd cc

module _ (z : Shape) (w : World) (g : Ghost) (all : Piece) (f : Fits all (told z w g)) (frozen : Bool) (o i : ℕ) (v : List Value) (mine rest : Piece)
    (parts : (e : Resource) → mine e + rest e ≤ all e) where
  abbrev key : List Value
  key = val.Ref o ∷ val.Word i ∷ []

  pub not_mine : (frozen : Bool) → 0 < mine (Have (item_kind frozen) key v) → OwnsTarget rest (CellAt o i) → ⊥
  not_mine false has other = apart z w g all f mine rest parts (CellAt o i) (inr (v, has)) other
  not_mine true has (inl (u, other)) =
      let a = parts (Have kind.FrozenItem key v) in
      let b = parts (Have kind.Cell key u) in
      (excludes_law z w g all f).one_form kind.Cell kind.FrozenItem o i i u v (inl refl) (inr refl) (omega arith) (omega arith)
  not_mine true has (inr (u, other)) =
      let a = parts (Have kind.FrozenItem key v) in
      let b = parts (Have kind.Item key u) in
      (excludes_law z w g all f).items key u v (omega arith) (omega arith)
