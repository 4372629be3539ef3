-- Pieces that own the cells of slices, when one of the cells changes.
use Rattle.std.proofs.Common.{◌≡◌, ◌≢◌, ℕ, zero, suc, ◌+◌, ◌-◌, ◌<◌, List, [], ◌∷◌, ◌++◌, length, Some, refl, sym, subst, inl, inr, arith}
use Rattle.std.specs.Prelude.{slice_get, slice_set}
use Rattle.gv_base.specs.declared.slice_val.SliceVal.{SliceVal}
use Rattle.gv_terms.specs.declared.value.Value.{Value}
use Rattle.gv_world.specs.Slices.{longer}
use Rattle.gv_resources.specs.Kinds as kind
use Rattle.gv_resources.specs.Kinds.{Kind}
use Rattle.gv_resources.specs.Pieces.{Resource, Have, Piece, single}
use Rattle.gv_resources.proofs.Equality.{single_test, single_same}
use Rattle.gv_assertions.specs.Standing.{OwnsItems, OwnsSpare, cell_key}

-- the resource of a slice's cell
abbrev pub cell : SliceVal → ℕ → Value → Resource
cell s place v = Have kind.Item (cell_key s place) (v ∷ [])

-- who owns each cell owns them all
pub owns_all : (s : SliceVal) (place : ℕ) (items : List Value) (p : Piece) → ((i : ℕ) (x : Value) → slice_get items i ≡ Some x → 0 < p (cell s (place + i) x))
    → OwnsItems kind.Item s place items p
owns_all s place [] p each = tt
owns_all s place (v ∷ items) p each = (
  subst (λ (n : ℕ). 0 < p (cell s n v)) (omega arith) (each 0 v refl),
  owns_all s (place + 1) items p (λ i x e. subst (λ (n : ℕ). 0 < p (cell s n x)) (omega arith) (each (suc i) x e)),
)

-- other cells of the slice are other resources
elsewhere : (s : SliceVal) (i j : ℕ) (x y : Value) → i ≢ j → single (cell s i x) (cell s j y) ≡ 0
elsewhere s i j x y ne = elim (single_test (cell s i x) (cell s j y)) [
  | inl (e, t) ↦ (let same : s.offset + j ≡ s.offset + i = at e in absurd (ne (omega arith)))
  | inr (e, t) ↦ t
]
  where
    at : cell s j y ≡ cell s i x → s.offset + j ≡ s.offset + i
    at e = cc

-- the piece where one cell has another value
abbrev pub with_value : SliceVal → ℕ → (old new : Value) → Piece → Piece
with_value s n old new p e = p e - single (cell s n old) e + single (cell s n new) e

-- the piece without the cell, and the one with a cell more
abbrev pub without_cell : SliceVal → ℕ → Value → Piece → Piece
without_cell s n old p e = p e - single (cell s n old) e

abbrev pub with_cell_too : SliceVal → ℕ → Value → Piece → Piece
with_cell_too s n new p e = p e + single (cell s n new) e

new_there : (s : SliceVal) (n : ℕ) (old new : Value) (p : Piece) → 0 < with_value s n old new p (cell s n new)
new_there s n old new p = let one = single_same (cell s n new) in omega arith

kept_elsewhere : (s : SliceVal) (n j : ℕ) (old new x : Value) (p : Piece) → n ≢ j → 0 < p (cell s j x) → 0 < with_value s n old new p (cell s j x)
kept_elsewhere s n j old new x p ne has = let none = elsewhere s n j old x ne in omega arith

kept_behind : (s : SliceVal) (place n : ℕ) (items : List Value) (old new : Value) (p : Piece) → n < place → OwnsItems kind.Item s place items p
    → OwnsItems kind.Item s place items (with_value s n old new p)
kept_behind s place n [] old new p l h = tt
kept_behind s place n (v ∷ items) old new p l h =
    (kept_elsewhere s n place old new v p (λ e. omega arith) h.0, kept_behind s (place + 1) n items old new p (omega arith) h.1)

-- the items with one of them set
pub items_set : (s : SliceVal) (place i : ℕ) (items : List Value) (old new : Value) (p : Piece) → OwnsItems kind.Item s place items p
    → OwnsItems kind.Item s place (slice_set items i new) (with_value s (place + i) old new p)
items_set s place i [] old new p h = tt
items_set s place zero (v ∷ items) old new p h =
    let same : place + 0 ≡ place = omega arith in
    subst (λ (n : ℕ). OwnsItems kind.Item s place (new ∷ items) (with_value s n old new p)) (sym same)
    (new_there s place old new p, kept_behind s (place + 1) place items old new p (omega arith) h.1)
items_set s place (suc i) (v ∷ items) old new p h =
    let same : place + 1 + i ≡ place + suc i = omega arith in (
      kept_elsewhere s (place + suc i) place old new v p (λ e. omega arith) h.0,
      subst (λ (n : ℕ). OwnsItems kind.Item s (place + 1) (slice_set items i new) (with_value s n old new p)) same (items_set s (place + 1) i items old new p h.1),
    )

-- the items and one more behind them
pub items_more : (s : SliceVal) (place : ℕ) (items : List Value) (new : Value) (p : Piece) → OwnsItems kind.Item s place items p
    → OwnsItems kind.Item s place (items ++ new ∷ []) (with_cell_too s (place + length items) new p)
items_more s place [] new p h =
    let same : place + 0 ≡ place = omega arith in
    let one = single_same (cell s place new) in
    (subst (λ (n : ℕ). 0 < with_cell_too s n new p (cell s place new)) (sym same) (omega arith), tt)
items_more s place (v ∷ items) new p h =
    let same : place + 1 + length items ≡ place + suc (length items) = omega arith in
    let first = h.0 in (
      omega arith,
      subst (λ (n : ℕ). OwnsItems kind.Item s (place + 1) (items ++ new ∷ []) (with_cell_too s n new p)) same (items_more s (place + 1) items new p h.1),
    )

-- the spare cells behind the first one
pub spare_less : (s : SliceVal) (old : Value) (p : Piece) → OwnsSpare s p → OwnsSpare (longer s) (without_cell s s.length old p)
spare_less s old p h at a b =
    let (v, has) = h at (omega (arith, a)) (omega (arith, b)) in
    let none = elsewhere s s.length at old v (λ e. omega (arith, e, a)) in
    (v, omega arith)
