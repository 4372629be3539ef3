-- The new object of an append without a spare cell: the old items and the new one, and spare cells behind them.
use Rattle.std.proofs.Common.{◌≡◌, ℕ, zero, suc, ◌+◌, ◌<◌, ◌≤◌, Bool, true, false, nat_lt, if◌then◌else◌, List, [], ◌∷◌, ◌++◌, length, replicate, Option, Some, None, refl, sym, ap, subst, ◌∙◌, inl, inr, arith}
use Rattle.std.specs.Prelude.{slice_get}
use Rattle.std.proofs.lemmas.List.{length-replicate}
use Rattle.gv_base.specs.declared.val.Val.{Val}
use Rattle.gv_base.specs.declared.slice_val.SliceVal.{SliceVal}
use Rattle.gv_terms.specs.declared.value.Value.{Value}
use Rattle.gv_terms.specs.declared.value.Value.TheVariants as val
use Rattle.gv_world.specs.declared.cell.Cell.{Cell}
use Rattle.gv_world.specs.Store.{Store as World}
use Rattle.gv_world.specs.Slices.{zero_like, new_cell, grown}
use Rattle.gv_resources.specs.Kinds as kind
use Rattle.gv_resources.specs.Pieces.{Resource, Have, Piece}
use Rattle.gv_resources.specs.Ghost.{Ghost}
use Rattle.gv_resources.specs.Told.{Shape, value_of, cell_of}
use Rattle.gv_resources.proofs.Sums.{below_test}
use Rattle.gv_assertions.specs.Standing.{OwnsItems, OwnsSpare}
use Rattle.gv_seats.specs.Seats.{IsUntouched}
use Rattle.gv_slicing.proofs.Fresh.{next_object, new_items, owns_new}
use Rattle.gv_slicing.proofs.Lists.{there_within}
use Rattle.gv_putting.proofs.Cells.{cell, owns_all}
use Rattle.gv_appending.proofs.SliceReads.{values_in}

-- ---- its cells

zeros_free : (v : Val) (n i : ℕ) (d : Cell) → slice_get (replicate n (new_cell v)) i ≡ Some d → d.marked ≡ false
zeros_free v zero i d e = absurd cc
zeros_free v (suc n) zero d e = let same : new_cell v ≡ d = cc in ap (λ (x : Cell). x.marked) (sym same)
zeros_free v (suc n) (suc i) d e = zeros_free v n i d e

-- no write of one has begun
pub grown_free : (cells : List Cell) (item : Val) (extra i : ℕ) (d : Cell) → slice_get (grown cells item extra) i ≡ Some d → d.marked ≡ false
grown_free [] item extra zero d e = let same : new_cell item ≡ d = cc in ap (λ (x : Cell). x.marked) (sym same)
grown_free [] item extra (suc i) d e = zeros_free (zero_like item) extra i d e
grown_free (c ∷ cells) item extra zero d e = let same : new_cell c.value ≡ d = cc in ap (λ (x : Cell). x.marked) (sym same)
grown_free (c ∷ cells) item extra (suc i) d e = grown_free cells item extra i d e

grown_long : (cells : List Cell) (item : Val) (extra : ℕ) → length (grown cells item extra) ≡ suc (length cells) + extra
grown_long [] item extra = let one : suc extra ≡ suc 0 + extra = omega arith in ap suc (length-replicate extra (new_cell (zero_like item))) ∙ one
grown_long (c ∷ cells) item extra =
    let more : suc (suc (length cells) + extra) ≡ suc (suc (length cells)) + extra = omega arith in
    ap suc (grown_long cells item extra) ∙ more

grown_at : (cells : List Cell) (item : Val) (extra i : ℕ) (x : Value) → slice_get (values_in cells ++ value_of item ∷ []) i ≡ Some x
    → (c : Cell) × (slice_get (grown cells item extra) i ≡ Some c) × (value_of c.value ≡ x) × (i < suc (length cells))
grown_at [] item extra zero x e = let same : value_of item ≡ x = cc in (new_cell item, refl, same, omega arith)
grown_at [] item extra (suc i) x e = absurd cc
grown_at (c ∷ cells) item extra zero x e = let same : value_of c.value ≡ x = cc in (new_cell c.value, refl, same, omega arith)
grown_at (c ∷ cells) item extra (suc i) x e = let (d, there, is, l) = grown_at cells item extra i x e in (d, there, is, omega arith)

-- ---- a piece in two parts, by the places of its cells

abbrev is_low : ℕ → Option (ℕ × ℕ) → Bool
is_low m None = false
is_low m (Some c) = nat_lt c.1 m

abbrev pub low : ℕ → Piece → Piece
low m p (Have k key v) = if is_low m (cell_of key) then p (Have k key v) else 0

abbrev pub high : ℕ → Piece → Piece
high m p (Have k key v) = if is_low m (cell_of key) then 0 else p (Have k key v)

pub low_high : (m : ℕ) (p : Piece) (e : Resource) → low m p e + high m p e ≤ p e
low_high m p (Have k key v) = at (is_low m (cell_of key)) (p (Have k key v))
  where
    at : (b : Bool) (n : ℕ) → (if b then n else 0) + (if b then 0 else n) ≤ n
    at true n = omega arith
    at false n = omega arith

has_low : (m place : ℕ) (s : SliceVal) (x : Value) (p : Piece) → s.offset + place < m → 0 < p (cell s place x) → 0 < low m p (cell s place x)
has_low m place s x p l has = elim (below_test (s.offset + place) m) [
  | inl (k, t) ↦ subst (λ (b : Bool). 0 < (if b then p (cell s place x) else 0)) (sym t) has
  | inr (k, t) ↦ absurd (omega (arith, k, l))
]

has_high : (m place : ℕ) (s : SliceVal) (x : Value) (p : Piece) → m ≤ s.offset + place → 0 < p (cell s place x) → 0 < high m p (cell s place x)
has_high m place s x p l has = elim (below_test (s.offset + place) m) [
  | inl (k, t) ↦ absurd (omega (arith, k, l))
  | inr (k, t) ↦ subst (λ (b : Bool). 0 < (if b then 0 else p (cell s place x))) (sym t) has
]

-- ---- who owns the object owns the slice and its spare cells

-- the slice that is the result, of the object under a number
abbrev pub new_slice : ℕ → SliceVal → ℕ → SliceVal
new_slice object s extra = record { object = object; offset = 0; length = s.length + 1; capacity = s.length + 1 + extra }

module _ (z : Shape) (w : World) (g : Ghost) (found : List Cell) (item : Val) (extra : ℕ) (s : SliceVal) (long : length found ≡ s.length) (untouched : IsUntouched g (next_object w)) where
  abbrev pub cells : List Cell
  cells = grown found item extra

  abbrev pub made : SliceVal
  made = new_slice (next_object w) s extra

  abbrev pub owned : Piece
  owned = new_items z w g cells untouched

  pub owns_low : OwnsItems kind.Item made 0 (values_in found ++ value_of item ∷ []) (low (s.length + 1) owned)
  owns_low = owns_all made 0 (values_in found ++ value_of item ∷ []) (low (s.length + 1) owned) (λ i x e.
      let (c, there, is, l) = grown_at found item extra i x e in
      has_low (s.length + 1) (0 + i) made x owned (omega (arith, l, long)) (at i x (subst (λ (y : Value). 0 < owned (Have kind.Item (val.Ref (next_object w) ∷ val.Word i ∷ []) (y ∷ []))) is
      (owns_new z w g cells untouched i c there))))
    where
      at : (i : ℕ) (x : Value) → 0 < owned (Have kind.Item (val.Ref (next_object w) ∷ val.Word i ∷ []) (x ∷ [])) → 0 < owned (cell made (0 + i) x)
      at i x has =
          let same : i ≡ 0 + (0 + i) = omega arith in
          subst (λ (n : ℕ). 0 < owned (Have kind.Item (val.Ref (next_object w) ∷ val.Word n ∷ []) (x ∷ []))) same has

  pub owns_high : OwnsSpare made (high (s.length + 1) owned)
  owns_high place a b =
      let (c, there) = there_within cells place (let n = grown_long found item extra in omega (arith, b, long, n)) in
      let same : place ≡ 0 + place = omega arith in (
        value_of c.value,
        has_high (s.length + 1) place made (value_of c.value) owned (omega (arith, a))
            (subst (λ (n : ℕ). 0 < owned (Have kind.Item (val.Ref (next_object w) ∷ val.Word n ∷ []) (value_of c.value ∷ []))) same (owns_new z w g cells untouched place c there)),
      )
