-- Whether there is room for more live cells.
use Rattle.std.proofs.Common.{◌≡◌, ◌∙◌, ℕ, max, ◌+◌, ◌-◌, ◌^◌, ◌<◌, ◌≤◌, Bool, true, false, List, Option, length, set, get_or, map, refl, replicate, ap, sym, subst, arith}
use Rattle.std.specs.Prelude.{nat_le, not, sum, Result, Err}
use Rattle.std.proofs.lemmas.Bool.{le-leb, lt-leb}
use Rattle.std.proofs.lemmas.List.{length-replicate, get_or_default, set-get_or}
use Rattle.std.proofs.lemmas.List.Sums.{get_or-le-sum_by, sum-map}
use Rattle.gv_base.specs.declared.answer.Answer.TheVariants.{Next}
use Rattle.gv_world.specs.declared.cell.Cell.{Cell}
use Rattle.gv_world.specs.Answers.{and_then}
use Rattle.gv_world.specs.Store.{Object, Cells, Map, Mutex, Store, counted, live_cells, most_cells, is_within_limit, with_new, with_object}
use Rattle.gv_world.specs.FiniteMaps.{map_end, changed}
use Rattle.gv_cells.specs.Objects as one
use Rattle.gv_store.specs.declared.grow.Grow.{Grow}
use Rattle.gv_store.specs.declared.grow.Grow.TheVariants as grow
use Rattle.gv_store.specs.Counting.{IsCounted}
use Rattle.gv_store.specs.Growing.{is_over, Makes}
use Rattle.gv_store.proofs.Counts.{sum_push, sum_set, counted_cells}
use Rattle.gv_store.proofs.Reached.{found_at, map_end_at}

-- room for an object is room for what it counts
pub room_object : (s : Store) (o : Object) (n : ℕ) (b : Bool) → counted o ≡ max n 1 → b ≡ nat_le (live_cells s + max n 1) most_cells
    → is_within_limit (with_new s o) ≡ b
room_object s o n b counts is = ap (λ k. nat_le k most_cells) (sum_push s.objects o ∙ ap (λ k. live_cells s + k) counts) ∙ sym is

pub room_cells : (s : Store) (cells : List Cell) (n : ℕ) (b : Bool) → length cells ≡ n → b ≡ nat_le (live_cells s + max n 1) most_cells
    → is_within_limit (with_new s (Cells cells)) ≡ b
room_cells s cells n b len is = room_object s (Cells cells) n b (counted_cells cells n len) is

-- ---- what a call that makes an object answers

pub too_many : (s : Store) (o : Object) → is_within_limit (with_new s o) ≡ false → Makes o s (Err grow.TooMany) s
too_many s o e = (e, refl)

pub no_memory : (s : Store) (o : Object) → is_within_limit (with_new s o) ≡ true → Makes o s (Err grow.NoMemory) s
no_memory s o e = (e, refl)

pub made_of : (s new : Store) (o p : Object) (result : Result ℕ Grow) → o ≡ p → Makes o s result new → Makes p s result new
made_of s new o p result e made = subst (λ (x : Object). Makes x s result new) e made

-- ---- the end of a write of a map

over_by : (s : Store) (number at key : ℕ) (item : Option ℕ) (o : Object) (live : ℕ) → at < length s.objects → number ≡ at + 1 → o ≡ get_or s.objects at o
    → live + counted o ≡ live_cells s + one.counted_after o key item → live_cells s ≤ 2 ^ 24
    → is_over (and_then (one.map_ended o key item) (λ c. Next (with_object s number c))) ≡ not (nat_le live most_cells)
over_by s number at key item (Cells cells) live lt e is after le =
    sym (ap not (le-leb live most_cells (omega (arith, after, le))))
over_by s number at key item (Mutex locked) live lt e is after le =
    sym (ap not (le-leb live most_cells (omega (arith, after, le))))
over_by s number at key item (Map entries marked) live lt e is after le =
    let before : number - 1 ≡ at = omega arith in
    let total = sum_set s.objects at (Map (changed entries key item) false) (Map entries marked) lt in
    let same = ap counted is in
    let left : sum (map counted (set s.objects at (Map (changed entries key item) false))) ≡ live = omega (arith, total, same, after) in
    ap (λ i. not (nat_le (sum (map counted (set s.objects i (Map (changed entries key item) false)))) most_cells)) before
    ∙ ap (λ k. not (nat_le k most_cells)) left

-- whether there would be too many live cells, as the code counts them
pub map_over : (s : Store) (number at key : ℕ) (item : Option ℕ) (o : Object) (live : ℕ) → at < length s.objects → number ≡ at + 1 → o ≡ get_or s.objects at o
    → live + counted o ≡ live_cells s + one.counted_after o key item → live_cells s ≤ 2 ^ 24
    → is_over (map_end s number key item) ≡ not (nat_le live most_cells)
map_over s number at key item o live lt e is after le =
    ap is_over (map_end_at s number key item
    ∙ ap (λ a. and_then a (λ o. and_then (one.map_ended o key item) (λ c. Next (with_object s number c)))) (found_at s number at o lt e is))
    ∙ over_by s number at key item o live lt e is after le

pub room_equal : (s : Store) (c : Cell) (n : ℕ) → nat_le (live_cells s + max n 1) most_cells ≡ true → is_within_limit (with_new s (Cells (replicate n c))) ≡ true
room_equal s c n e = room_cells s (replicate n c) n true (length-replicate n c) (sym e)

-- ---- the end of a write of a map, as the code finds it: `s` is what the fields show, `w` the store, and `o`, `p`
-- and `q` are the object at three looks

module _ (s w : Store) (number at key : ℕ) (item : Option ℕ) (live a b : ℕ) (o p : Object) (e : s ≡ w) (held : IsCounted s.objects live)
    (place : (at < length w.objects) × (number ≡ at + 1)) (io : o ≡ get_or s.objects at o) (ip : p ≡ get_or s.objects at p)
    (counts : a ≡ counted o) (after : b ≡ one.counted_after p key item) where
  within : at < length s.objects
  within = subst (λ (x : Store). at < length x.objects) (sym e) place.0

  same_look : (q : Object) → q ≡ get_or s.objects at q → o ≡ q
  same_look q iq = io ∙ get_or_default s.objects at o q within ∙ sym iq

  pub counted_in : a ≤ live
  counted_in = omega (arith, counts, ap counted io, held.count, get_or-le-sum_by counted s.objects at o within, sum-map counted s.objects)

  over_is : is_over (map_end w number key item) ≡ not (nat_le (live - a + b) most_cells)
  over_is =
      subst (λ (x : Store). is_over (map_end x number key item) ≡ not (nat_le (live - a + b) most_cells)) e
      (map_over s number at key item o (live - a + b) within place.1 io
      (omega (arith, counts, after, ap (λ x. one.counted_after x key item) (same_look p ip), held.count, counted_in)) (omega (arith, held.count, held.within)))

  pub over_now : 2 ^ 24 < live - a + b → is_over (map_end w number key item) ≡ true
  over_now lt = over_is ∙ ap not (lt-leb (live - a + b) most_cells lt)

  pub not_over : live - a + b ≤ 2 ^ 24 → is_over (map_end w number key item) ≡ false
  not_over le = over_is ∙ ap not (le-leb (live - a + b) most_cells le)

  pub counts_after : (q new : Object) → q ≡ get_or s.objects at q → counted new ≡ one.counted_after q key item → live - a + b ≤ 2 ^ 24
      → IsCounted (set s.objects at new) (live - a + b)
  counts_after q new iq is le = record {
    count = omega (arith, counts, after, is, ap (λ x. one.counted_after x key item) (same_look p ip), ap (λ x. one.counted_after x key item) (same_look q iq), ap counted io, sum_set s.objects at new o within, held.count, counted_in);
    within = le;
  }

-- a store whose object was found again is as it was
pub found_again : (s w : Store) (at : ℕ) (o new : Object) → s ≡ w → o ≡ get_or s.objects at o → new ≡ o → record s { objects = set s.objects at new } ≡ w
found_again s w at o new e is same =
    ap (λ l. record s { objects = l }) (ap (λ x. set s.objects at x) (same ∙ is) ∙ set-get_or s.objects at o) ∙ e
