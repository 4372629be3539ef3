-- Nobody writes what a frame owns.
use Rattle.std.proofs.Common.{◌≡◌, ◌+◌, ◌≤◌, inl, inr, Bool, true, false, List, [], ◌∷◌, refl, arith}
use Rattle.gv_terms.specs.declared.value.Value.{Value}
use Rattle.gv_terms.specs.declared.value.Value.TheVariants as val
use Rattle.gv_world.specs.Store.{Store as World}
use Rattle.gv_resources.specs.Kinds as kind
use Rattle.gv_resources.specs.Ghost.{Ghost}
use Rattle.gv_resources.specs.Pieces.{Resource, Have, Piece, Fits}
use Rattle.gv_resources.specs.Told.{Shape, told}
use Rattle.gv_resources.proofs.Excluding.{excludes_law}
use Rattle.gv_seats.specs.Seats.{Target, CellAt, MapAt, OwnsTarget, mark_at, AreOwned, of_locks}
use Rattle.gv_seats.specs.Laws.{SeatsLaw, BegunLaw}

module _ (z : Shape) (w : World) (g : Ghost) (whole : Piece) (f : Fits whole (told z w g)) (one other : Piece) (parts : (e : Resource) → one e + other e ≤ whole e) where
  -- two parts don't both own a target
  pub apart : (t : Target) → OwnsTarget one t → OwnsTarget other t → ⊥
  apart (CellAt object place) (inl (v, has)) (inl (u, more)) = (excludes_law z w g whole f).alone kind.Cell (val.Ref object ∷ val.Word place ∷ []) v u one other refl parts has more
  apart (CellAt object place) (inr (v, has)) (inr (u, more)) = (excludes_law z w g whole f).alone kind.Item (val.Ref object ∷ val.Word place ∷ []) v u one other refl parts has more
  apart (CellAt object place) (inl (v, has)) (inr (u, more)) =
      let key : List Value = val.Ref object ∷ val.Word place ∷ [] in
      let a = parts (Have kind.Cell key v) in
      let b = parts (Have kind.Item key u) in
      (excludes_law z w g whole f).one_form kind.Cell kind.Item object place place v u (inl refl) (inl refl) (omega arith) (omega arith)
  apart (CellAt object place) (inr (v, has)) (inl (u, more)) =
      let key : List Value = val.Ref object ∷ val.Word place ∷ [] in
      let a = parts (Have kind.Item key v) in
      let b = parts (Have kind.Cell key u) in
      (excludes_law z w g whole f).one_form kind.Cell kind.Item object place place u v (inl refl) (inl refl) (omega arith) (omega arith)
  apart (MapAt object) (v, has) (u, more) = (excludes_law z w g whole f).alone kind.Map (val.Ref object ∷ []) v u one other refl parts has more

  pub unmarked : (t : Target) → OwnsTarget one t → AreOwned w other → mark_at w t ≡ false
  unmarked t own still = at (mark_at w t) refl
    where
      at : (b : Bool) → mark_at w t ≡ b → b ≡ false
      at true m = absurd (apart t own (still t m))
      at false m = refl

-- a target of one part is one of the whole
pub owned_more : (one whole : Piece) → ((e : Resource) → one e ≤ whole e) → (t : Target) → OwnsTarget one t → OwnsTarget whole t
owned_more one whole le (CellAt object place) (inl (v, has)) = inl (v, (let l = le (Have kind.Cell (val.Ref object ∷ val.Word place ∷ []) v) in omega arith))
owned_more one whole le (CellAt object place) (inr (v, has)) = inr (v, (let l = le (Have kind.Item (val.Ref object ∷ val.Word place ∷ []) v) in omega arith))
owned_more one whole le (MapAt object) (v, has) = (v, (let l = le (Have kind.Map (val.Ref object ∷ []) v) in omega arith))

pub seats_law : SeatsLaw
seats_law o w g start f h rest s = record {
  unmarked = λ t own. unmarked _ w g (λ e. s.piece e + (s.pool e + (of_locks w s.locks e + rest e))) s.base.fits s.piece rest (λ e. omega arith) t own s.still;
  invariant = s.base.crash;
  guarded = s.base.free;
}

pub begun_law : BegunLaw
begun_law o w g start f h rest s t m = elim (s.still t m) [
  | inl writes ↦ owned_more s.piece (λ e. s.piece e + rest e) (λ e. omega arith) t (s.mine t writes)
  | inr owned ↦ owned_more rest (λ e. s.piece e + rest e) (λ e. omega arith) t owned
]
