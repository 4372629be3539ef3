-- A spare cell that is owned stays one while others step.
use Rattle.std.proofs.Common.{◌≡◌, ℕ, ◌<◌, Bool, true, false, ◌&&◌, List, [], ◌∷◌, Option, Some, None, refl, sym, ap, ◌∙◌, inl, inr}
use Rattle.std.specs.Prelude.{slice_get, nat_eq, nat_lt, length}
use Rattle.gv_base.specs.declared.slice_val.SliceVal.{SliceVal}
use Rattle.gv_base.specs.declared.answer.Answer.{Answer}
use Rattle.gv_base.specs.declared.val.Val.{Val}
use Rattle.gv_base.specs.declared.val.Val.TheVariants as stored
use Rattle.gv_terms.specs.declared.value.Value.{Value}
use Rattle.gv_terms.specs.declared.value.Value.TheVariants as val
use Rattle.gv_world.specs.declared.cell.Cell.{Cell}
use Rattle.gv_world.specs.Cells.{as_cells, cells_of, are_bytes, byte_at, is_byte, byte_in}
use Rattle.gv_world.specs.Slices.{has_spare, spare_place, same_truth}
use Rattle.gv_world.specs.Store.{Store as World}
use Rattle.gv_lang.specs.Threads.{Frame}
use Rattle.gv_resources.specs.Kinds as kind
use Rattle.gv_resources.specs.Ghost.{Ghost}
use Rattle.gv_resources.specs.Pieces.{Piece, Fits}
use Rattle.gv_resources.specs.Told.{Shape, told, value_of, object_at, cells_in, in_cell}
use Rattle.gv_seats.specs.Seats.{Target, CellAt, Writes, appends, OwnsTarget}
use Rattle.gv_seats.proofs.Objects.{HasCell, has_cell, cells_are, one_run}
use Rattle.gv_rules.proofs.Loads.{only_if_is}
use Rattle.gv_invariant.specs.Stacks.{HasRoom}

-- a cell that is there holds a byte or not, whatever its mark
byte_here : (w : World) (object place : ℕ) (c : Cell) → HasCell w object place c → is_byte w object place ≡ byte_in c.value
byte_here w object place c h =
    ap (λ (a : Answer (List Cell)). byte_at a place) (ap (cells_of w) h.number ∙ cells_are w h.index ∙ ap as_cells h.there)
    ∙ ap (λ (cs : List Cell). nat_eq (length cs) 1 && are_bytes cs) (one_run h.cells place c h.cell) ∙ and_true (byte_in c.value)
  where
    and_true : (b : Bool) → (b && true) ≡ b
    and_true true = refl
    and_true false = refl

is_bytes : Value → Bool
is_bytes (val.Bytes x) = true
is_bytes _ = false

byte_value : (v : Val) → byte_in v ≡ is_bytes (value_of v)
unfolding is_bytes
byte_value (stored.Word n) = refl
byte_value (stored.Byte b) = refl
byte_value (stored.Bool b) = refl
byte_value (stored.Ref r) = refl
byte_value (stored.Slice s) = refl
byte_value stored.Unit = refl

first_of : List Value → Value
first_of [] = val.Unit
first_of (v ∷ vs) = v

byte_told : (w : World) (object place : ℕ) (v : List Value) (found : Option Cell) → found ≡ slice_get (cells_in (object_at w object)) place → in_cell found ≡ Some v
    → is_byte w object place ≡ is_bytes (first_of v)
unfolding first_of
byte_told w object place v None is e = absurd cc
byte_told w object place v (Some c) is e =
    let same : value_of c.value ∷ [] ≡ v = cc in
    byte_here w object place c (has_cell w object place c (sym is)) ∙ byte_value c.value ∙ ap (λ xs. is_bytes (first_of xs)) same

byte_same : (z : Shape) (w after : World) (g now : Ghost) (p : Piece) → Fits p (told z w g) → Fits p (told z after now) → (object place : ℕ) → OwnsTarget p (CellAt object place)
    → is_byte w object place ≡ is_byte after object place
byte_same z w after g now p f h object place (inl (v, has)) =
    byte_told w object place v _ refl (only_if_is _ _ v (f.says kind.Cell _ v has)) ∙ sym (byte_told after object place v _ refl (only_if_is _ _ v (h.says kind.Cell _ v has)))
byte_same z w after g now p f h object place (inr (v, has)) =
    byte_told w object place v _ refl (only_if_is _ _ v (f.says kind.Item _ v has)) ∙ sym (byte_told after object place v _ refl (only_if_is _ _ v (h.says kind.Item _ v has)))

pub room_kept : (z : Shape) (w after : World) (g now : Ghost) (f : Frame) (p : Piece) → Fits p (told z w g) → Fits p (told z after now) → ((t : Target) → Writes f t → OwnsTarget p t)
    → HasRoom w f → HasRoom after f
room_kept z w after g now f p before fits mine room x item s v at next slice kept todo s_is kept_is =
    let own = mine (CellAt slice.object (spare_place slice)) (appends x item s v at next slice todo s_is) in
    ap (λ (b : Bool). nat_lt slice.length slice.capacity && same_truth b (byte_in kept)) (sym (byte_same z w after g now p before fits slice.object (spare_place slice) own))
    ∙ room x item s v at next slice kept todo s_is kept_is
