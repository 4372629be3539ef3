-- The arguments of a call come into the world one after another: bytes as an object of new cells, which is a slice's.
use Rattle.std.proofs.Common.{◌≡◌, ◌≢◌, ℕ, zero, suc, ◌+◌, ◌<◌, ◌≤◌, Bool, true, false, ◌&&◌, if◌then◌else◌, List, [], ◌∷◌, map, length, Option, Some, None, refl, sym, ap, subst, ◌∙◌, inl, inr, arith}
use Rattle.std.specs.Prelude.{slice_get, get_or, nat_lt, option_map, option_and_then}
use Rattle.std.specs.List.{All, list_all}
use Rattle.gv_base.specs.declared.val.Val.{Val}
use Rattle.gv_base.specs.declared.val.Val.TheVariants as stored
use Rattle.gv_base.specs.declared.slice_val.SliceVal.{SliceVal}
use Rattle.gv_terms.specs.declared.value.Value.{Value}
use Rattle.gv_terms.specs.declared.value.Value.TheVariants as val
use Rattle.gv_terms.specs.Ranges.{IsInRange, AreBytes}
use Rattle.gv_words.specs.Words.{words}
use Rattle.gv_world.specs.declared.cell.Cell.{Cell}
use Rattle.gv_world.specs.Disks.{byte_cells}
use Rattle.gv_world.specs.Store as world
use Rattle.gv_world.specs.Store.{Store as World, fresh, with_new}
use Rattle.gv_world.specs.Slices.{whole_of, too_long}
use Rattle.gv_lang.specs.Calls as given
use Rattle.gv_lang.specs.Calls.{Given, placed, all_placed, buffered, is_buffer}
use Rattle.gv_runs.specs.Machine.{all_given, given_of}
use Rattle.gv_resources.specs.Ghost.{Ghost, Mode}
use Rattle.gv_resources.specs.Pieces.{Resource, Piece}
use Rattle.gv_resources.specs.Told.{value_of, object_at, cells_in}
use Rattle.gv_resources.proofs.Fitting.{fits_less}
use Rattle.gv_resources.proofs.Sums.{number_test, changed, with_piece}
use Rattle.gv_assertions.specs.Standing.{AreParts, OwnsSlice, items_of}
use Rattle.gv_seats.specs.Paths.{Closed}
use Rattle.gv_seats.specs.Seats.{Proof, shape_of, Base, Target, CellAt, MapAt, IsMarked, is_marked, map_mark}
use Rattle.gv_slicing.proofs.Fresh.{next_object, fresh_is, new_there, new_elsewhere, new_items, owns_slice, untouched_is, base_grown}
use Rattle.gv_invariant.specs.Justified.{HasArguments, no_argument, plain_argument, a_buffer}

-- ---- what gave an answer

some_same : {A : Type 0} (a b : A) → Some a ≡ Some b → a ≡ b
some_same a b e = cc

pub then_some : {A B : Type 0} (f : A → Option B) (x : Option A) (y : B) → option_and_then f x ≡ Some y → (a : A) × (x ≡ Some a) × (f a ≡ Some y)
then_some f None y e = absurd cc
then_some f (Some a) y e = (a, refl, e)

pub mapped_some : {A B : Type 0} (f : A → B) (x : Option A) (y : B) → option_map f x ≡ Some y → (a : A) × (x ≡ Some a) × (f a ≡ y)
mapped_some f None y e = absurd cc
mapped_some f (Some a) y e = (a, refl, some_same (f a) y e)

-- a test that let something through
passed : {A : Type 0} (test : Bool) (x y : A) → (if test then Some x else None) ≡ Some y → (test ≡ true) × (x ≡ y)
passed true x y e = (refl, cc)
passed false x y e = absurd cc

both_true : (a b : Bool) → (a && b) ≡ true → (a ≡ true) × (b ≡ true)
both_true true b e = (refl, e)
both_true false b e = absurd cc

below : (a b : ℕ) → nat_lt a b ≡ true → a < b
below a b e = grind (arith, e)

-- ---- bytes

all_bytes : (bytes : List ℕ) → list_all (λ b. nat_lt b 256) bytes ≡ true → (k d : ℕ) → k < length bytes → get_or bytes k d < 256
all_bytes [] e k d l = absurd (omega (arith, l))
all_bytes (b ∷ bytes) e zero d l = below b 256 (both_true (nat_lt b 256) (list_all (λ b. nat_lt b 256) bytes) e).0
all_bytes (b ∷ bytes) e (suc k) d l = all_bytes bytes (both_true (nat_lt b 256) (list_all (λ b. nat_lt b 256) bytes) e).1 k d (omega (arith, l))

in_range : (bytes : List ℕ) → is_buffer bytes ≡ true → IsInRange (val.Bytes bytes)
in_range bytes e = let both = both_true (list_all (λ b. nat_lt b 256) bytes) (nat_lt (length bytes) too_long) e in (below (length bytes) too_long both.1, λ k d l. all_bytes bytes both.0 k d l)

cells_long : (bytes : List ℕ) → length (byte_cells bytes) ≡ length bytes
cells_long [] = refl
cells_long (b ∷ bytes) = ap suc (cells_long bytes)

kept_values : (bytes : List ℕ) → map (λ b. val.Bytes (b ∷ [])) bytes ≡ map (λ (c : Cell). value_of c.value) (byte_cells bytes)
kept_values [] = refl
kept_values (b ∷ bytes) = ap (λ (vs : List Value). val.Bytes (b ∷ []) ∷ vs) (kept_values bytes)

unmarked_bytes : (bytes : List ℕ) (place : ℕ) → is_marked (slice_get (byte_cells bytes) place) ≡ false
unmarked_bytes [] place = refl
unmarked_bytes (b ∷ bytes) zero = refl
unmarked_bytes (b ∷ bytes) (suc place) = unmarked_bytes bytes place

-- ---- arguments

pub arguments_more : {args : List Value} {vs : List Val} {p q : Piece} → ((e : Resource) → p e ≤ q e) → HasArguments args vs p → HasArguments args vs q
arguments_more le no_argument = no_argument
arguments_more le (plain_argument is range more) = plain_argument is range (arguments_more le more)
arguments_more le (a_buffer q r parts owns range more) = a_buffer q r (λ e. let a = parts e in let b = le e in omega arith) owns range more

-- one argument in its place, and any others behind it
record OnePlaced (o : Proof) (w : World) (g : Ghost) (m : Mode) (p pool rest : Piece) (arg : Value) (v : Val) (later : World) : Type 0 where
  sliced : ℕ → Bool
  buffer : Piece
  locks : ℕ → Piece
  base : Base o later (record g { sliced = sliced }) m Closed (λ e. p e + buffer e) pool locks rest
  marks : (t : Target) → IsMarked later t → IsMarked w t
  before : (args : List Value) (vs : List Val) (q : Piece) → HasArguments args vs q → HasArguments (arg ∷ args) (v ∷ vs) (λ e. buffer e + q e)

pub record Placed (o : Proof) (w : World) (g : Ghost) (m : Mode) (p pool rest : Piece) (args : List Value) (vs : List Val) (later : World) : Type 0 where
  pub sliced : ℕ → Bool
  pub buffers : Piece
  pub locks : ℕ → Piece
  pub base : Base o later (record g { sliced = sliced }) m Closed (λ e. p e + buffers e) pool locks rest
  pub marks : (t : Target) → IsMarked later t → IsMarked w t
  pub arguments : HasArguments args vs buffers

-- the same base for a piece that is no greater
lesser : {o : Proof} {w : World} {g : Ghost} {m : Mode} {p pool rest : Piece} {locks : ℕ → Piece} (q : Piece) → ((e : Resource) → q e ≤ p e) → Base o w g m Closed p pool locks rest
    → Base o w g m Closed q pool locks rest
lesser q le base = record {
  fits = fits_less (λ e. let a = le e in omega arith) base.fits;
  mode = base.mode;
  crash = base.crash;
  free = base.free;
  consistent = base.consistent;
}

module _ (o : Proof) (w : World) (g : Ghost) (m : Mode) (p pool rest : Piece) (locks : ℕ → Piece) (base : Base o w g m Closed p pool locks rest) where
  -- what stays as it is
  plain_placed : (arg : Value) (v : Val) → ((args : List Value) (vs : List Val) (q : Piece) → HasArguments args vs q → HasArguments (arg ∷ args) (v ∷ vs) q) → OnePlaced o w g m p pool rest arg v w
  plain_placed arg v before = record {
    sliced = g.sliced;
    buffer = λ e. 0;
    locks = locks;
    base = lesser (λ e. p e + 0) (λ e. omega arith) base;
    marks = λ t marked. marked;
    before = λ args vs q have. arguments_more (λ e. omega arith) (before args vs q have);
  }

  -- bytes
  module _ (bytes : List ℕ) where
    abbrev grown : World
    grown = with_new w (world.Cells (byte_cells bytes))

    abbrev items : Piece
    items = new_items (shape_of o) w g (byte_cells bytes) (untouched_is o w g (byte_cells bytes) base.consistent)

    whole_is : whole_of (next_object w) (length (byte_cells bytes)) ≡ whole_of (fresh w) (length bytes)
    whole_is = ap (λ n. whole_of (next_object w) n) (cells_long bytes) ∙ ap (λ object. whole_of object (length bytes)) (sym (fresh_is w))

    owned : OwnsSlice false (whole_of (fresh w) (length bytes)) (val.Bytes bytes) items
    owned = subst (λ (s : SliceVal). OwnsSlice false s (val.Bytes bytes) items) whole_is
        (owns_slice (shape_of o) w g (byte_cells bytes) (untouched_is o w g (byte_cells bytes) base.consistent) (val.Bytes bytes) (ap (λ (vs : List Value). Some vs) (kept_values bytes)))

    there : object_at grown (next_object w) ≡ Some (world.Cells (byte_cells bytes))
    there = new_there (shape_of o) w g (byte_cells bytes) (untouched_is o w g (byte_cells bytes) base.consistent)

    elsewhere : (object : ℕ) → object ≢ next_object w → object_at grown object ≡ object_at w object
    elsewhere object ne = new_elsewhere (shape_of o) w g (byte_cells bytes) (untouched_is o w g (byte_cells bytes) base.consistent) object ne

    never : {A : Type 0} → false ≡ true → A
    never e = absurd cc

    marks : (t : Target) → IsMarked grown t → IsMarked w t
    marks (CellAt object place) marked = elim (number_test object (next_object w)) [
      | inl (e, t) ↦ never (sym (ap (λ x. is_marked (slice_get (cells_in x) place)) (ap (object_at grown) e ∙ there) ∙ unmarked_bytes bytes place) ∙ marked)
      | inr (ne, t) ↦ sym (ap (λ x. is_marked (slice_get (cells_in x) place)) (elsewhere object ne)) ∙ marked
    ]
    marks (MapAt object) marked = elim (number_test object (next_object w)) [
      | inl (e, t) ↦ never (sym (ap map_mark (ap (object_at grown) e ∙ there)) ∙ marked)
      | inr (ne, t) ↦ sym (ap map_mark (elsewhere object ne)) ∙ marked
    ]

    bytes_placed : is_buffer bytes ≡ true → OnePlaced o w g m p pool rest (val.Bytes bytes) (stored.Slice (whole_of (fresh w) (length bytes))) grown
    bytes_placed buffer = record {
      sliced = changed g.sliced (next_object w) true;
      buffer = items;
      locks = with_piece locks (next_object w) (λ e. 0);
      base = base_grown o w g (byte_cells bytes) base.consistent m Closed p pool locks rest base;
      marks = marks;
      before = λ args vs q have. a_buffer items q (λ e. omega arith) owned (in_range bytes buffer) have;
    }

  one_placed : (arg : Value) (one : Given) (first : World × Val) → given_of arg ≡ Some one → placed w one ≡ Some first → OnePlaced o w g m p pool rest arg first.1 first.0
  one_placed (val.Word n) one first is there =
      let a : given.Word n ≡ one = cc in
      let b : (if nat_lt n words then Some (w, stored.Word n) else None) ≡ Some first = ap (λ (x : Given). placed w x) a ∙ there in
      let (test, same) = passed (nat_lt n words) (w, stored.Word n) first b in
      subst (λ (x : World × Val). OnePlaced o w g m p pool rest (val.Word n) x.1 x.0) same (plain_placed (val.Word n) (stored.Word n) (λ args vs q have. plain_argument refl (below n words test) have))
  one_placed (val.Bool t) one first is there =
      let a : given.Truth t ≡ one = cc in
      let b : Some (w, stored.Bool t) ≡ Some first = ap (λ (x : Given). placed w x) a ∙ there in
      let same : (w, stored.Bool t) ≡ first = cc in
      subst (λ (x : World × Val). OnePlaced o w g m p pool rest (val.Bool t) x.1 x.0) same (plain_placed (val.Bool t) (stored.Bool t) (λ args vs q have. plain_argument refl tt have))
  one_placed (val.Bytes bytes) one first is there =
      let a : given.Bytes bytes ≡ one = cc in
      let b : (if is_buffer bytes then Some (buffered w bytes) else None) ≡ Some first = ap (λ (x : Given). placed w x) a ∙ there in
      let (test, same) = passed (is_buffer bytes) (buffered w bytes) first b in
      subst (λ (x : World × Val). OnePlaced o w g m p pool rest (val.Bytes bytes) x.1 x.0) same (bytes_placed bytes test)
  one_placed _ one first is there = absurd cc

-- all of them, in their order
pub placing : (o : Proof) (m : Mode) (pool rest : Piece) (args : List Value) (givens : List Given) (w later : World) (g : Ghost) (p : Piece) (locks : ℕ → Piece) (vs : List Val)
    → all_given args ≡ Some givens → all_placed w givens ≡ Some (later, vs) → Base o w g m Closed p pool locks rest → Placed o w g m p pool rest args vs later
placing o m pool rest [] givens w later g p locks vs given_is placed_is base =
    let none : [] ≡ givens = some_same [] givens given_is in
    let pair : (w, []) ≡ (later, vs) = some_same (w, []) (later, vs) (ap (λ (gs : List Given). all_placed w gs) none ∙ placed_is) in
    let here : w ≡ later = ap (λ (x : World × List Val). x.0) pair in
    let empty : [] ≡ vs = ap (λ (x : World × List Val). x.1) pair in
    subst (λ (x : World). Placed o w g m p pool rest [] vs x) here (subst (λ (x : List Val). Placed o w g m p pool rest [] x w) empty (record {
      sliced = g.sliced;
      buffers = λ e. 0;
      locks = locks;
      base = lesser (λ e. p e + 0) (λ e. omega arith) base;
      marks = λ t marked. marked;
      arguments = no_argument;
    }))
placing o m pool rest (arg ∷ args) givens w later g p locks vs given_is placed_is base =
    let (one, one_is, more_is) = then_some (λ one. option_map (λ rest. one ∷ rest) (all_given args)) (given_of arg) givens given_is in
    let (more, rest_is, list_is) = mapped_some (λ rest. one ∷ rest) (all_given args) givens more_is in
    let found : all_placed w (one ∷ more) ≡ Some (later, vs) = ap (λ (gs : List Given). all_placed w gs) list_is ∙ placed_is in
    let (head, head_is, tail_is) = then_some (λ one. option_map (λ rest. (rest.0, one.1 ∷ rest.1)) (all_placed one.0 more)) (placed w one) (later, vs) found in
    let (tail, last_is, pair_is) = mapped_some (λ rest. (rest.0, head.1 ∷ rest.1)) (all_placed head.0 more) (later, vs) tail_is in
    let a = one_placed o w g m p pool rest locks base arg one head one_is head_is in
    let b = placing o m pool rest args more head.0 tail.0 (record g { sliced = a.sliced }) (λ e. p e + a.buffer e) a.locks tail.1 rest_is last_is a.base in
    subst (λ (x : World × List Val). Placed o w g m p pool rest (arg ∷ args) x.1 x.0) pair_is (record {
      sliced = b.sliced;
      buffers = λ e. a.buffer e + b.buffers e;
      locks = b.locks;
      base = lesser (λ e. p e + (a.buffer e + b.buffers e)) (λ e. omega arith) b.base;
      marks = λ t marked. a.marks t (b.marks t marked);
      arguments = a.before args tail.1 b.buffers b.arguments;
    })
