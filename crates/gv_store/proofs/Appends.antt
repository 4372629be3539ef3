-- Calls that make an object and give something, by what their definitions go on with.
use Rattle.std.proofs.Common.{◌≡◌, ◌∙◌, ℕ, max, ◌+◌, ◌^◌, ◌<◌, ◌≤◌, Bool, true, false, List, ◌∷◌, Option, Some, length, map, replicate, refl, ap, sym, arith}
use Rattle.std.specs.Prelude.{◌&&◌, nat_le, nat_lt, not, if◌then◌else◌, Ok, Err}
use Rattle.std.proofs.lemmas.List.{length-append, length-map, length-replicate}
use Rattle.std.proofs.lemmas.Bool.{le-leb, lt-leb, le-ltb, lt-ltb}
use Rattle.gv_base.specs.declared.reason.Reason.{Reason}
use Rattle.gv_base.specs.declared.reason.Reason.TheVariants.{OutOfRange}
use Rattle.gv_base.specs.declared.answer.Answer.{Answer}
use Rattle.gv_base.specs.declared.answer.Answer.TheVariants.{Next, Blocked, Undefined}
use Rattle.gv_base.specs.declared.slice_val.SliceVal.{SliceVal}
use Rattle.gv_base.specs.declared.val.Val.{Val}
use Rattle.gv_base.specs.declared.val.Val.TheVariants as val
use Rattle.gv_world.specs.declared.cell.Cell.{Cell}
use Rattle.gv_world.specs.Answers.{and_then, undefined_if}
use Rattle.gv_world.specs.Store.{Object, Cells, Store, live_cells, most_cells, is_within_limit, with_new, fresh}
use Rattle.gv_world.specs.Disks.{byte_cells}
use Rattle.gv_world.specs.Slices.{new_cell, zero_like, too_long, is_too_roomy, slice_cells, grown, grown_slice, append_grow}
use Rattle.gv_store.specs.declared.grow.Grow.{Grow}
use Rattle.gv_store.specs.declared.grow.Grow.TheVariants as grow
use Rattle.gv_store.specs.Growing.{is_over_with, GivesWithin, Makes}
use Rattle.gv_store.proofs.Rooms.{room_cells}

-- ---- what a call answers whose definition goes on with a fresh object, or doesn't go on

module _ {A : Type 0} where
  pub refused : (s : Store) (wanted : Answer (Store × A)) (reason : Reason) → wanted ≡ Undefined reason → GivesWithin wanted s (Ok (Undefined reason)) s
  refused s wanted reason e = ((e, refl), ap is_over_with e)

  pub blocked : (s : Store) (wanted : Answer (Store × A)) → wanted ≡ Blocked → GivesWithin wanted s (Ok Blocked) s
  blocked s wanted e = ((e, refl), ap is_over_with e)

  pub gives_old : (s : Store) (wanted : Answer (Store × A)) (a : A) → wanted ≡ Next (s, a) → is_within_limit s ≡ true → GivesWithin wanted s (Ok (Next a)) s
  gives_old s wanted a e within = (e, ap is_over_with e ∙ ap not within)

  pub gives_new : (s new : Store) (o : Object) (number : ℕ) (wanted : Answer (Store × A)) (a : A)
      → wanted ≡ Next (with_new s o, a) → Makes o s (Ok number) new → GivesWithin wanted s (Ok (Next a)) new
  gives_new s new o number wanted a e made = (
    e ∙ ap (λ (x : Store). Next (x, a)) (sym made.1),
    ap is_over_with e ∙ ap not (ap is_within_limit (sym made.1) ∙ made.2),
  )

  pub gives_none : (s new : Store) (o : Object) (wanted : Answer (Store × A)) (a : A) (why : Grow)
      → wanted ≡ Next (with_new s o, a) → Makes o s (Err why) new → GivesWithin wanted s (Err why) new
  gives_none s new o wanted a grow.TooMany e made = (ap is_over_with e ∙ ap not made.0, made.1)
  gives_none s new o wanted a grow.NoMemory e made = (ap is_over_with e ∙ ap not made.0, made.1)

-- ---- an append without a spare cell

abbrev append_from : Store → SliceVal → Val → ℕ → (roomy long : Bool) → Answer (List Cell) → Answer (Store × SliceVal)
append_from s slice item extra roomy long found =
    if roomy
    then Blocked
    else undefined_if long OutOfRange
    (and_then found (λ cells. Next (with_new s (Cells (grown cells item extra)), grown_slice s slice extra)))

appended : (s : Store) (slice : SliceVal) (item : Val) (extra : ℕ) (roomy long : Bool) (found : Answer (List Cell))
    → is_too_roomy slice extra ≡ roomy → nat_le too_long (slice.length + 1) ≡ long → slice_cells s slice ≡ found
    → append_grow s slice item extra ≡ append_from s slice item extra roomy long found
appended s slice item extra roomy long found e f g =
    ap (λ r. append_from s slice item extra r (nat_le too_long (slice.length + 1)) (slice_cells s slice)) e
    ∙ ap (λ l. append_from s slice item extra roomy l (slice_cells s slice)) f
    ∙ ap (λ a. append_from s slice item extra roomy long a) g

first_false : (a b : Bool) → a ≡ false → (a && b) ≡ false
first_false true b e = absurd (cc)
first_false false b e = refl

second_false : (a b : Bool) → b ≡ false → (a && b) ≡ false
second_false true b e = e
second_false false b e = refl

both_true : (a b : Bool) → a ≡ true → b ≡ true → (a && b) ≡ true
both_true true b e f = f
both_true false b e f = absurd (cc)

pub append_too_long : (s : Store) (slice : SliceVal) (item : Val) (extra : ℕ) → 2 ^ 63 ≤ slice.length + 1 → append_grow s slice item extra ≡ Undefined OutOfRange
append_too_long s slice item extra le =
    appended s slice item extra false true (slice_cells s slice)
    (first_false (nat_lt (slice.length + 1) too_long) (nat_le too_long (slice.length + 1 + extra)) (le-ltb (slice.length + 1) too_long le))
    (le-leb too_long (slice.length + 1) le) refl

pub append_too_roomy : (s : Store) (slice : SliceVal) (item : Val) (extra : ℕ) → slice.length + 1 < 2 ^ 63 → 2 ^ 63 ≤ slice.length + 1 + extra
    → append_grow s slice item extra ≡ Blocked
append_too_roomy s slice item extra lt le =
    appended s slice item extra true false (slice_cells s slice)
    (both_true (nat_lt (slice.length + 1) too_long) (nat_le too_long (slice.length + 1 + extra)) (lt-ltb (slice.length + 1) too_long lt) (le-leb too_long (slice.length + 1 + extra) le))
    (lt-leb too_long (slice.length + 1) lt) refl

-- what it is once the length and the room are no reason
pub append_of : (s : Store) (slice : SliceVal) (item : Val) (extra : ℕ) (found : Answer (List Cell)) → slice.length + 1 + extra < 2 ^ 63 → slice_cells s slice ≡ found
    → append_grow s slice item extra ≡ and_then found (λ cells. Next (with_new s (Cells (grown cells item extra)), grown_slice s slice extra))
append_of s slice item extra found lt e =
    appended s slice item extra false false found
    (second_false (nat_lt (slice.length + 1) too_long) (nat_le too_long (slice.length + 1 + extra)) (lt-leb too_long (slice.length + 1 + extra) lt))
    (lt-leb too_long (slice.length + 1) (omega arith)) e

length_grown : (cells : List Cell) (item : Val) (extra : ℕ) → length (grown cells item extra) ≡ length cells + 1 + extra
length_grown cells item extra =
    omega (
      arith,
      length-append (map (λ c. new_cell c.value) cells) (new_cell item ∷ replicate extra (new_cell (zero_like item))),
      length-map cells (λ (c : Cell). new_cell c.value),
      length-replicate extra (new_cell (zero_like item)),
    )

pub append_over : (s : Store) (slice : SliceVal) (item : Val) (extra : ℕ) (cells : List Cell) (room : Bool) → slice.length + 1 + extra < 2 ^ 63
    → slice_cells s slice ≡ Next cells → length cells ≡ slice.length → nat_le (live_cells s + max (slice.length + 1 + extra) 1) most_cells ≡ room
    → is_over_with (append_grow s slice item extra) ≡ not room
append_over s slice item extra cells room lt e len f =
    ap is_over_with (append_of s slice item extra (Next cells) lt e)
    ∙ ap not (room_cells s (grown cells item extra) (slice.length + 1 + extra) room (length_grown cells item extra ∙ ap (λ k. k + 1 + extra) len) (sym f))

-- ---- a read of a disk

pub read_over : (s : Store) (wanted : Answer (Store × Option ℕ)) (block : List ℕ) (room : Bool) → wanted ≡ Next (with_new s (Cells (byte_cells block)), Some (fresh s))
    → nat_le (live_cells s + max (length block) 1) most_cells ≡ room → is_over_with wanted ≡ not room
read_over s wanted block room e f =
    ap is_over_with e ∙ ap not (room_cells s (byte_cells block) (length block) room (length-map block (λ (b : ℕ). record { value = val.Byte b; marked = false })) (sym f))
