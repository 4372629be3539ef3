-- Spare cells, and the steps of an append.
use Rattle.std.proofs.Common.{◌≡◌, ℕ, ◌+◌, ◌<◌, Bool, true, false, ◌&&◌, nat_eq, nat_lt, nat_le, if◌then◌else◌, List, [], ◌∷◌, length, Option, Some, refl, sym, ap, subst, ◌∙◌, arith}
use Rattle.gv_base.specs.declared.answers.Place.{Place}
use Rattle.gv_base.specs.declared.answer.Answer.{Answer}
use Rattle.gv_base.specs.declared.answer.Answer.TheVariants.{Next, Blocked}
use Rattle.gv_base.specs.declared.reason.Reason.TheVariants.{OutOfRange}
use Rattle.gv_base.specs.declared.val.Val.{Val}
use Rattle.gv_base.specs.declared.val.Val.TheVariants as stored
use Rattle.gv_base.specs.declared.slice_val.SliceVal.{SliceVal}
use Rattle.gv_terms.proofs.ValueSorts.{left, right}
use Rattle.gv_world.specs.declared.cell.Cell.{Cell}
use Rattle.gv_world.specs.Answers.{and_then, undefined_if}
use Rattle.gv_world.specs.Store as world
use Rattle.gv_world.specs.Store.{Store as World, with_new}
use Rattle.gv_world.specs.Cells.{as_cells, cells_of, as_written, begin_write, end_write, byte_in, byte_at, are_bytes, is_byte}
use Rattle.gv_world.specs.Slices.{too_long, same_truth, spare_place, has_spare, longer, is_too_roomy, slice_cells, grown, grown_slice, append_grow}
use Rattle.gv_lang.specs.declared.program.ItemKind.{ItemKind}
use Rattle.gv_lang.specs.Tree.{Expr, Append, Do, Program}
use Rattle.gv_lang.specs.Todo.{Todo, Run}
use Rattle.gv_lang.specs.Threads.{Frame, Thread}
use Rattle.gv_lang.specs.Table.{Begins, as_slice, as_item, sets}
use Rattle.gv_lang.specs.Table as table
use Rattle.gv_lang.specs.Values.{value}
use Rattle.gv_lang.specs.Step.{Stepped, GoesOn, stepped, settled}
use Rattle.gv_seats.specs.Soundness.{at_rest}
use Rattle.gv_seats.proofs.Objects.{HasCell, one_run, cells_are}
use Rattle.gv_rules.proofs.Steps.{with_local}
use Rattle.gv_slicing.proofs.Lists.{below_is}

-- ---- spare cells

pub spare_within : (w : World) (s : SliceVal) (item : Val) → has_spare w s item ≡ true → s.length < s.capacity
spare_within w s item e =
    below_is s.length s.capacity (left (nat_lt s.length s.capacity) (same_truth (is_byte w s.object (spare_place s)) (byte_in item)) e)

and_true : (b : Bool) → (b && true) ≡ b
and_true true = refl
and_true false = refl

-- a cell that is there holds a byte or not, whatever its mark
pub byte_here : (w : World) (object place : ℕ) (c : Cell) → HasCell w object place c → is_byte w object place ≡ byte_in c.value
byte_here w object place c h =
    ap (λ (a : Answer (List Cell)). byte_at a place) (ap (cells_of w) h.number ∙ cells_are w h.index ∙ ap as_cells h.there)
    ∙ ap (λ (cs : List Cell). nat_eq (length cs) 1 && are_bytes cs) (one_run h.cells place c h.cell) ∙ and_true (byte_in c.value)

same_written : (old v : Val) → same_truth (byte_in old) (byte_in v) ≡ true → as_written old v ≡ v
same_written (stored.Byte b) (stored.Byte d) e = refl
same_written (stored.Byte b) (stored.Word n) e = absurd cc
same_written (stored.Byte b) (stored.Bool t) e = absurd cc
same_written (stored.Byte b) (stored.Ref r) e = absurd cc
same_written (stored.Byte b) (stored.Slice s) e = absurd cc
same_written (stored.Byte b) stored.Unit e = absurd cc
same_written (stored.Word n) v e = refl
same_written (stored.Bool t) v e = refl
same_written (stored.Ref r) v e = refl
same_written (stored.Slice s) v e = refl
same_written stored.Unit v e = refl

-- the item stands in the spare cell as it is
pub kept_written : (w : World) (s : SliceVal) (item : Val) (c : Cell) → HasCell w s.object (spare_place s) c → has_spare w s item ≡ true → as_written c.value item ≡ item
kept_written w s item c h e =
    same_written c.value item (ap (λ (b : Bool). same_truth b (byte_in item)) (sym (byte_here w s.object (spare_place s) c h))
    ∙ right (nat_lt s.length s.capacity) (same_truth (is_byte w s.object (spare_place s)) (byte_in item)) e)

-- ---- without one

pub grows_to : (w : World) (s : SliceVal) (item : Val) (extra : ℕ) (cells : List Cell) → is_too_roomy s extra ≡ false → s.length + 1 < too_long → slice_cells w s ≡ Next cells
    → append_grow w s item extra ≡ Next (with_new w (world.Cells (grown cells item extra)), grown_slice w s extra)
grows_to w s item extra cells roomy l read =
    let short : nat_le too_long (s.length + 1) ≡ false = not_over (s.length + 1) l in
    ap (λ (b : Bool). if b then Blocked else undefined_if (nat_le too_long (s.length + 1)) OutOfRange
    (and_then (slice_cells w s) (λ found. Next (with_new w (world.Cells (grown found item extra)), grown_slice w s extra)))) roomy
    ∙ ap (λ (b : Bool). undefined_if b OutOfRange (and_then (slice_cells w s) (λ found. Next (with_new w (world.Cells (grown found item extra)), grown_slice w s extra)))) short
    ∙ ap (λ (a : Answer (List Cell)). and_then a (λ found. Next (with_new w (world.Cells (grown found item extra)), grown_slice w s extra))) read
  where
    not_over : (n : ℕ) → n < too_long → nat_le too_long n ≡ false
    not_over n l = grind arith

pub has_room : (s : SliceVal) (extra : ℕ) → is_too_roomy s extra ≡ false → s.length + 1 < too_long → s.length + 1 + extra < too_long
has_room s extra roomy l = at (s.length + 1) (s.length + 1 + extra) l roomy
  where
    at : (m n : ℕ) → m < too_long → (nat_lt m too_long && nat_le too_long n) ≡ false → n < too_long
    at m n l e = grind arith

pub no_room : (w : World) (s : SliceVal) (item : Val) (extra : ℕ) → is_too_roomy s extra ≡ true → append_grow w s item extra ≡ Blocked
no_room w s item extra roomy =
    ap (λ (b : Bool). if b then Blocked else undefined_if (nat_le too_long (s.length + 1)) OutOfRange
    (and_then (slice_cells w s) (λ found. Next (with_new w (world.Cells (grown found item extra)), grown_slice w s extra)))) roomy

-- ---- the steps

module _ (program : Program) (extra : ℕ) (w : World) (f : Frame) (below : List Frame) (x : ℕ) (k : ItemKind) (e y : Expr) (place : Place) (next : Todo) (sl : SliceVal) (kept : Val)
    (is : f.todo ≡ Run (Do (Append x k e y) place) ∷ next) (s_value : value f.locals e ≡ Some (stored.Slice sl)) (kept_is : as_item k (value f.locals y) ≡ Next kept) where
  abbrev at : Todo → Frame
  at todo = record f { todo = todo }

  abbrev thread : Bool → Frame → Thread
  thread begun top = record { top = top; below = below; begun = begun }

  abbrev left_to : Bool → Answer Stepped
  left_to begun = and_then (table.appends extra begun w f.locals x sl kept) (settled (thread begun (at (Run (Do (Append x k e y) place) ∷ next))) w (Some next))

  abbrev row : Bool → Option Val → Answer Val → Answer Stepped
  row begun a b = and_then (and_then (as_slice a) (λ t. and_then b (λ u. table.appends extra begun w f.locals x t u)))
      (settled (thread begun (at (Run (Do (Append x k e y) place) ∷ next))) w (Some next))

  to_row : (begun : Bool) (answer : Answer Stepped) → left_to begun ≡ answer → stepped program extra (thread begun f) w ≡ answer
  to_row begun answer so =
      subst (λ (todo : Todo). stepped program extra (thread begun (at todo)) w ≡ answer) (sym is)
      (subst (λ (a : Option Val). row begun a (as_item k (value f.locals y)) ≡ answer) (sym s_value)
      (subst (λ (b : Answer Val). row begun (Some (stored.Slice sl)) b ≡ answer) (sym kept_is) so))

  abbrev first : Todo → Bool → Answer Stepped
  first todo b = and_then (if b then and_then (begin_write w sl.object (spare_place sl) 1) (λ after. Next (Begins after))
      else and_then (append_grow w sl kept extra) (λ made. sets made.0 f.locals x (stored.Slice made.1))) (settled (thread false (at todo)) w (Some next))

  pub first_step : (after : World) → has_spare w sl kept ≡ true → begin_write w sl.object (spare_place sl) 1 ≡ Next after
      → stepped program extra (thread false f) w ≡ Next (GoesOn after (thread true f) [])
  first_step after spare begun = to_row false (Next (GoesOn after (thread true f) []))
      (subst (λ (todo : Todo). first todo (has_spare w sl kept) ≡ Next (GoesOn after (thread true f) [])) is
      (ap (λ (b : Bool). first f.todo b) spare
      ∙ ap (λ (a : Answer World). and_then (and_then a (λ z. Next (Begins z))) (settled (thread false f) w (Some next))) begun))

  pub second_step : (after : World) → end_write w sl.object (spare_place sl) (kept ∷ []) ≡ Next after
      → stepped program extra (thread true f) w ≡ Next (GoesOn after (at_rest (with_local f x (stored.Slice (longer sl)) next) below) [])
  second_step after ended = to_row true (Next (GoesOn after (at_rest (with_local f x (stored.Slice (longer sl)) next) below) []))
      (ap (λ (a : Answer World). and_then (and_then a (λ z. sets z f.locals x (stored.Slice (longer sl))))
      (settled (thread true (at (Run (Do (Append x k e y) place) ∷ next))) w (Some next))) ended)

  pub grow_waits : has_spare w sl kept ≡ false → append_grow w sl kept extra ≡ Blocked → stepped program extra (thread false f) w ≡ Blocked
  grow_waits spare waits = to_row false Blocked
      (ap (λ (b : Bool). first (Run (Do (Append x k e y) place) ∷ next) b) spare
      ∙ ap (λ (a : Answer (World × SliceVal)). and_then (and_then a (λ made. sets made.0 f.locals x (stored.Slice made.1)))
      (settled (thread false (at (Run (Do (Append x k e y) place) ∷ next))) w (Some next))) waits)

  pub grow_step : (after : World × SliceVal) → has_spare w sl kept ≡ false → append_grow w sl kept extra ≡ Next after
      → stepped program extra (thread false f) w ≡ Next (GoesOn after.0 (at_rest (with_local f x (stored.Slice after.1) next) below) [])
  grow_step after spare made_is = to_row false (Next (GoesOn after.0 (at_rest (with_local f x (stored.Slice after.1) next) below) []))
      (ap (λ (b : Bool). first (Run (Do (Append x k e y) place) ∷ next) b) spare
      ∙ ap (λ (a : Answer (World × SliceVal)). and_then (and_then a (λ made. sets made.0 f.locals x (stored.Slice made.1)))
      (settled (thread false (at (Run (Do (Append x k e y) place) ∷ next))) w (Some next))) made_is)
