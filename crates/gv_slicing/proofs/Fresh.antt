-- An object of new cells, which a slice is made of.
use Rattle.std.proofs.Common.{◌≡◌, ◌≢◌, ℕ, zero, suc, ◌+◌, ◌<◌, ◌≤◌, inl, inr, Bool, true, false, ◌&&◌, nat_eq, List, [], ◌∷◌, ◌++◌, map, length, Option, Some, None, refl, sym, ap, subst, ◌∙◌, arith}
use Rattle.std.specs.Prelude.{slice_get}
use Rattle.gv_terms.specs.declared.value.Value.{Value}
use Rattle.gv_terms.specs.declared.value.Value.TheVariants as val
use Rattle.gv_terms.specs.Values.{bool_eq}
use Rattle.gv_world.specs.declared.cell.Cell.{Cell}
use Rattle.gv_world.specs.Store as world
use Rattle.gv_world.specs.Store.{Object, Store as World, fresh, with_new}
use Rattle.gv_world.specs.Slices.{whole_of}
use Rattle.gv_resources.specs.Kinds as kind
use Rattle.gv_resources.specs.Kinds.{Kind, kind_eq}
use Rattle.gv_resources.specs.Pieces.{Resource, Have, Piece, sum_below}
use Rattle.gv_resources.specs.Ghost.{Ghost, Mode}
use Rattle.gv_resources.specs.Told.{Shape, told, under, only_if, value_of, object_at, cells_in, in_cell, cell_at, map_in, locked_in, free_mutex, held_mutex, guarded_by, cell_of, object_of}
use Rattle.gv_resources.proofs.Equality.{kind_tells}
use Rattle.gv_resources.proofs.Many.{all_told, all_told_has, fits_renewed, none_of_fresh}
use Rattle.gv_resources.proofs.Sums.{number_test, changed, changed_there, changed_elsewhere, sum_agree, with_piece, piece_there, piece_elsewhere}
use Rattle.gv_assertions.specs.Standing.{OwnsItems, OwnsSlice, OwnsSpare, cell_key, items_of}
use Rattle.gv_assertions.proofs.Lists.{more_for}
use Rattle.gv_seats.specs.Paths.{Bracket, after_step}
use Rattle.gv_seats.specs.Seats.{Proof, shape_of, Base, IsConsistent, CellAt, MapAt, AreOwned, is_marked, map_mark, IsInstance, IsUntouched, of_locks}
use Rattle.gv_seats.specs.Changes.{Nothing, Changed}
use Rattle.gv_seats.proofs.Bases.{still_closed}
use Rattle.gv_seats.proofs.Telling.{under_same}

-- ---- one item more

last_there : {A : Type 0} (xs : List A) (x : A) → slice_get (xs ++ x ∷ []) (length xs) ≡ Some x
last_there [] x = refl
last_there (y ∷ xs) x = last_there xs x

last_elsewhere : {A : Type 0} (xs : List A) (x : A) (n : ℕ) → n ≢ length xs → slice_get (xs ++ x ∷ []) n ≡ slice_get xs n
last_elsewhere [] x zero ne = absurd (ne refl)
last_elsewhere [] x (suc n) ne = refl
last_elsewhere (y ∷ xs) x zero ne = refl
last_elsewhere (y ∷ xs) x (suc n) ne = last_elsewhere xs x n (λ e. ne (ap suc e))

none_behind : {A : Type 0} (xs : List A) → slice_get xs (length xs) ≡ None
none_behind [] = refl
none_behind (y ∷ xs) = none_behind xs

one_longer : {A : Type 0} (xs : List A) (x : A) → length (xs ++ x ∷ []) ≡ suc (length xs)
one_longer [] x = refl
one_longer (y ∷ xs) x = ap suc (one_longer xs x)

no_answer : {A : Type 0} (test : Bool) (x : Option A) → x ≡ None → only_if test x ≡ None
no_answer true x e = e
no_answer false x e = refl

failed_test : {A : Type 0} (test : Bool) (x : Option A) → test ≡ false → only_if test x ≡ None
failed_test true x e = absurd cc
failed_test false x e = refl

passed_test : {A : Type 0} (test : Bool) (x : Option A) → test ≡ true → only_if test x ≡ x
passed_test true x e = refl
passed_test false x e = absurd cc

-- the number of the object that comes next
abbrev pub next_object : World → ℕ
next_object w = suc (length w.objects)

pub fresh_is : (w : World) → fresh w ≡ next_object w
fresh_is w = omega arith

-- the record beside the state, where the object is a slice's
abbrev pub sliced_too : Ghost → ℕ → Ghost
sliced_too g object = record g { sliced = changed g.sliced object true }

pub sliced_changes : (g : Ghost) (object : ℕ) → Changed Nothing g (sliced_too g object)
sliced_changes g object = record {
  history = refl;
  moves = refl;
  walk = λ never. refl;
  kept = λ call never. refl;
  book = λ book place never. refl;
  halves = λ never. refl;
  named = λ never. refl;
  shadow = λ disk address never. refl;
  mode = λ never. refl;
  booted = refl;
  calls = refl;
  since = refl;
  gone = refl;
}

-- the cells of the object, as a slice's
abbrev is_of : ℕ → Option (ℕ × ℕ) → Bool
is_of object None = false
is_of object (Some c) = nat_eq c.0 object

abbrev pub items_at : ℕ → Kind → List Value → Bool
items_at object k key = kind_eq k kind.Item && is_of object (cell_of key)

both_true : (a b : Bool) → (a && b) ≡ true → (a ≡ true) × (b ≡ true)
both_true true b e = (refl, e)
both_true false b e = absurd cc

items_at_is : (object : ℕ) (k : Kind) (key : List Value) → items_at object k key ≡ true → (k ≡ kind.Item) × (is_of object (cell_of key) ≡ true)
items_at_is object k key e =
    let both = both_true (kind_eq k kind.Item) (is_of object (cell_of key)) e in
    elim (kind_tells k kind.Item) [
      | inl (same, t) ↦ (same, both.1)
      | inr (ne, t) ↦ (let never : true ≡ false = sym both.0 ∙ t in absurd cc)
    ]

module _ (z : Shape) (w : World) (g : Ghost) (cells : List Cell) (untouched : IsUntouched g (next_object w)) where
  abbrev pub object : ℕ
  object = next_object w

  abbrev pub grown : World
  grown = with_new w (world.Cells cells)

  abbrev pub after : Ghost
  after = sliced_too g object

  pub new_there : object_at grown object ≡ Some (world.Cells cells)
  new_there = last_there w.objects (world.Cells cells)

  pub none_before : object_at w object ≡ None
  none_before = none_behind w.objects

  pub new_elsewhere : (o : ℕ) → o ≢ object → object_at grown o ≡ object_at w o
  new_elsewhere zero ne = refl
  new_elsewhere (suc n) ne = last_elsewhere w.objects (world.Cells cells) n (λ e. ne (ap suc e))

  -- ---- what is told

  cell_same : (frozen sliced : Bool) → ((i : ℕ) → (bool_eq (g.frozen object i) frozen && bool_eq true sliced) ≡ false) → (o i : ℕ) → cell_at grown after frozen sliced o i ≡ cell_at w g frozen sliced o i
  cell_same frozen sliced never o i = elim (number_test o object) [
    | inl (e, t) ↦
        (let now : cell_at grown after frozen sliced object i ≡ cell_at w g frozen sliced object i =
        ap (λ (b : Bool). only_if (bool_eq (g.frozen object i) frozen && bool_eq b sliced) (in_cell (slice_get (cells_in (object_at grown object)) i))) (changed_there g.sliced object true)
        ∙ failed_test (bool_eq (g.frozen object i) frozen && bool_eq true sliced) (in_cell (slice_get (cells_in (object_at grown object)) i)) (never i)
        ∙ sym (no_answer (bool_eq (g.frozen object i) frozen && bool_eq (g.sliced object) sliced) _ (ap (λ x. in_cell (slice_get (cells_in x) i)) none_before)) in rw e now)
    | inr (ne, t) ↦
        ap (λ (b : Bool). only_if (bool_eq (g.frozen o i) frozen && bool_eq b sliced) (in_cell (slice_get (cells_in (object_at grown o)) i))) (changed_elsewhere g.sliced object o true ne)
        ∙ ap (λ x. only_if (bool_eq (g.frozen o i) frozen && bool_eq (g.sliced o) sliced) (in_cell (slice_get (cells_in x) i))) (new_elsewhere o ne)
  ]

  item_same : (found : Option (ℕ × ℕ)) → is_of object found ≡ false → under found (λ c. cell_at grown after false true c.0 c.1) ≡ under found (λ c. cell_at w g false true c.0 c.1)
  item_same None e = refl
  item_same (Some c) e = elim (number_test c.0 object) [
    | inl (same, t) ↦ (let never : true ≡ false = sym t ∙ e in absurd cc)
    | inr (ne, t) ↦
        ap (λ (b : Bool). only_if (bool_eq (g.frozen c.0 c.1) false && bool_eq b true) (in_cell (slice_get (cells_in (object_at grown c.0)) c.1))) (changed_elsewhere g.sliced object c.0 true ne)
        ∙ ap (λ x. only_if (bool_eq (g.frozen c.0 c.1) false && bool_eq (g.sliced c.0) true) (in_cell (slice_get (cells_in x) c.1))) (new_elsewhere c.0 ne)
  ]

  of_same : {A : Type 0} (of : Option Object → A) → of (Some (world.Cells cells)) ≡ of None → (o : ℕ) → of (object_at grown o) ≡ of (object_at w o)
  of_same of same o = elim (number_test o object) [
    | inl (e, t) ↦ (let now : of (object_at grown object) ≡ of (object_at w object) = ap of new_there ∙ same ∙ sym (ap of none_before) in rw e now)
    | inr (ne, t) ↦ ap of (new_elsewhere o ne)
  ]

  not_frozen : (sliced : Bool) (i : ℕ) → (bool_eq (g.frozen object i) true && sliced) ≡ false
  not_frozen sliced i = ap (λ (b : Bool). bool_eq b true && sliced) (untouched.frozen i)

  not_plain : (i : ℕ) → (bool_eq (g.frozen object i) false && bool_eq true false) ≡ false
  not_plain i = at (bool_eq (g.frozen object i) false)
    where
      at : (b : Bool) → (b && bool_eq true false) ≡ false
      at true = refl
      at false = refl

  pub told_elsewhere : (k : Kind) (key : List Value) → items_at object k key ≡ false → told z grown after k key ≡ told z w g k key
  told_elsewhere kind.Cell key e = under_same (cell_of key) _ _ (λ c. cell_same false false not_plain c.0 c.1)
  told_elsewhere kind.FrozenCell key e = under_same (cell_of key) _ _ (λ c. cell_same true false (λ i. not_frozen false i) c.0 c.1)
  told_elsewhere kind.Item key e = item_same (cell_of key) e
  told_elsewhere kind.FrozenItem key e = under_same (cell_of key) _ _ (λ c. cell_same true true (λ i. not_frozen true i) c.0 c.1)
  told_elsewhere kind.Map key e = under_same (object_of key) _ _ (λ o. of_same map_in refl o)
  told_elsewhere kind.Mutex key e = under_same (object_of key) _ _ (λ o. ap (λ x. free_mutex x (g.guards o)) (of_same locked_in refl o))
  told_elsewhere kind.Held key e = under_same (object_of key) _ _ (λ o. ap (λ x. held_mutex x (g.guards o)) (of_same locked_in refl o))
  told_elsewhere kind.Lock key e = under_same (object_of key) _ _ (λ o. ap (λ x. guarded_by x (g.guards o)) (of_same locked_in refl o))
  told_elsewhere _ key e = refl

  none_told : (found : Option (ℕ × ℕ)) → is_of object found ≡ true → under found (λ c. cell_at w g false true c.0 c.1) ≡ None
  none_told None e = absurd cc
  none_told (Some c) e = elim (number_test c.0 object) [
    | inl (same, t) ↦ no_answer (bool_eq (g.frozen c.0 c.1) false && bool_eq (g.sliced c.0) true) _ (ap (λ x. in_cell (slice_get (cells_in x) c.1)) (ap (object_at w) same ∙ none_before))
    | inr (ne, t) ↦ (let never : true ≡ false = sym e ∙ t in absurd cc)
  ]

  pub none_told_before : (k : Kind) (key : List Value) → items_at object k key ≡ true → told z w g k key ≡ None
  none_told_before k key e =
      let is = items_at_is object k key e in
      subst (λ (x : Kind). told z w g x key ≡ None) (sym is.0) (none_told (cell_of key) is.1)

  -- the piece of the object's cells
  abbrev pub new_items : Piece
  new_items = all_told (items_at object) (told z grown after)

  item_told : (i : ℕ) (c : Cell) → slice_get cells i ≡ Some c → told z grown after kind.Item (val.Ref object ∷ val.Word i ∷ []) ≡ Some (value_of c.value ∷ [])
  item_told i c there =
      ap (λ (b : Bool). only_if (bool_eq (g.frozen object i) false && bool_eq b true) (in_cell (slice_get (cells_in (object_at grown object)) i))) (changed_there g.sliced object true)
      ∙ ap (λ (b : Bool). only_if (bool_eq b false && bool_eq true true) (in_cell (slice_get (cells_in (object_at grown object)) i))) (untouched.frozen i)
      ∙ ap (λ x. in_cell (slice_get (cells_in x) i)) new_there ∙ ap in_cell there

  own_items : (i : ℕ) → is_of object (Some (object, i)) ≡ true
  own_items i = elim (number_test object object) [ inl (e, t) ↦ t | inr (ne, t) ↦ absurd (ne refl) ]

  -- each cell of the object is its
  pub owns_new : (i : ℕ) (c : Cell) → slice_get cells i ≡ Some c → 0 < new_items (Have kind.Item (val.Ref object ∷ val.Word i ∷ []) (value_of c.value ∷ []))
  owns_new i c there =
      all_told_has (items_at object) (told z grown after) kind.Item (val.Ref object ∷ val.Word i ∷ []) (value_of c.value ∷ []) (own_items i) (item_told i c there)

  owns_items : (place : ℕ) (others : List Cell) → ((i : ℕ) (c : Cell) → slice_get others i ≡ Some c → slice_get cells (place + i) ≡ Some c)
      → OwnsItems kind.Item (whole_of object (length cells)) place (map (λ c. value_of c.value) others) new_items
  owns_items place [] there = tt
  owns_items place (c ∷ others) there =
      let here : slice_get cells (0 + place) ≡ Some c = subst (λ (n : ℕ). slice_get cells n ≡ Some c) (omega arith) (there 0 c refl) in (
        owns_new (0 + place) c here,
        owns_items (place + 1) others (λ i d e. subst (λ (n : ℕ). slice_get cells n ≡ Some d) (omega arith) (there (suc i) d e)),
      )

  pub owns_slice : (list : Value) → items_of list ≡ Some (map (λ c. value_of c.value) cells) → OwnsSlice false (whole_of object (length cells)) list new_items
  owns_slice list is = record {
    items = map (λ c. value_of c.value) cells;
    of_list = is;
    as_many = as_many cells;
    cells = owns_items 0 cells (λ i c e. subst (λ (n : ℕ). slice_get cells n ≡ Some c) (omega arith) e);
  }
    where
      as_many : (cells : List Cell) → length (map (λ c. value_of c.value) cells) ≡ length cells
      as_many [] = refl
      as_many (c ∷ cells) = ap suc (as_many cells)

-- no cell is spare in a slice that is all of its object
pub no_spare : (object count : ℕ) (p : Piece) → OwnsSpare (whole_of object count) p
no_spare object count p place a b = absurd (omega (arith, a, b))

-- ---- what else holds

module _ (o : Proof) (w : World) (g : Ghost) (cells : List Cell) (c : IsConsistent o w g) where
  abbrev pub new : ℕ
  new = next_object w

  pub untouched_is : IsUntouched g (next_object w)
  untouched_is = c.fresh (next_object w) (omega arith)

  pub consistent_grown : IsConsistent o (with_new w (world.Cells cells)) (sliced_too g (next_object w))
  consistent_grown = record {
    fresh = λ object l. (let k = one_longer w.objects (world.Cells cells) in let u = c.fresh object (omega arith) in record {
      guards = u.guards;
      sliced = changed_elsewhere g.sliced (next_object w) object true (λ e. omega (arith, e, k, l)) ∙ u.sliced;
      frozen = u.frozen;
    });
    blocks = record { as_many = c.blocks.as_many; sized = c.blocks.sized; same = c.blocks.same; long = c.blocks.long; whole = c.blocks.whole };
    failures = record { one = c.failures.one; of_two = c.failures.of_two };
    fields = c.fields;
    names = c.names;
    unguarded = c.unguarded;
    walked = record {
      entries = c.walked.entries;
      passes = c.walked.passes;
      later = c.walked.later;
      unacted = c.walked.unacted;
      acted = c.walked.acted;
      since = c.walked.since;
      gone = c.walked.gone;
    };
  }

  locks_less : (locks : ℕ → Piece) (e : Resource) → of_locks (with_new w (world.Cells cells)) (with_piece locks new (λ e. 0)) e ≤ of_locks w locks e
  locks_less locks e =
      let longer = ap (λ k. sum_below (suc k) (λ j. with_piece locks new (λ e. 0) j e)) (one_longer w.objects (world.Cells cells)) in
      let none = piece_there locks new (λ e. 0) e in
      let same = sum_agree new (λ j. with_piece locks new (λ e. 0) j e) (λ j. locks j e) (λ k l. piece_elsewhere locks new k (λ e. 0) e (λ q. omega (arith, q, l))) in
      omega arith

  pub base_grown : (m : Mode) (b : Bracket) (p pool : Piece) (locks : ℕ → Piece) (rest : Piece) → Base o w g m b p pool locks rest
      → Base o (with_new w (world.Cells cells)) (sliced_too g (next_object w)) m (after_step b) (λ e. p e + new_items (shape_of o) w g cells untouched_is e) pool (with_piece locks new (λ e. 0)) rest
  base_grown m b p pool locks rest base = record {
    fits = fits_renewed {frame = λ e. p e + (pool e + (of_locks w locks e + rest e))} (items_at new) base.fits (λ e. omega arith)
        (λ k key v chosen has. none_of_fresh {frame = λ e. p e + (pool e + (of_locks w locks e + rest e))} k key v base.fits (λ e. omega arith) (none_told_before (shape_of o) w g cells untouched_is k key chosen) has)
        (told_elsewhere (shape_of o) w g cells untouched_is) (λ e. let l = locks_less locks e in omega arith);
    mode = base.mode;
    crash = λ shared closed. base.crash shared (still_closed b closed);
    free = free;
    consistent = consistent_grown;
  }
    where
      free : (object : ℕ) (guard : ℕ × List Value) → g.guards object ≡ Some guard → locked_in (object_at (with_new w (world.Cells cells)) object) ≡ Some false
          → IsInstance o.preds guard.0 guard.1 (with_piece locks new (λ e. 0) object)
      free object guard is unlocked env args values = elim (number_test object new) [
        | inl (e, t) ↦ (let none : g.guards object ≡ None = ap g.guards e ∙ untouched_is.guards in let never : None ≡ Some guard = sym none ∙ is in absurd cc)
        | inr (ne, t) ↦
            let before = base.free object guard is (sym (ap locked_in (new_elsewhere (shape_of o) w g cells untouched_is object ne)) ∙ unlocked) env args values in
            more_for (λ r. let q = piece_elsewhere locks new object (λ e. 0) r ne in omega arith) before
      ]

  -- no write of the new cells has begun
  pub still_grown : (rest : Piece) → ((i : ℕ) (d : Cell) → slice_get cells i ≡ Some d → d.marked ≡ false) → AreOwned w rest → AreOwned (with_new w (world.Cells cells)) rest
  still_grown rest free still (CellAt object place) m = elim (number_test object new) [
    | inl (e, t) ↦ absurd (no_mark (slice_get cells place) (λ d there. free place d there)
        (sym (ap (λ x. is_marked (slice_get (cells_in x) place)) (ap (object_at (with_new w (world.Cells cells))) e ∙ new_there (shape_of o) w g cells untouched_is)) ∙ m))
    | inr (ne, t) ↦ still (CellAt object place) (sym (ap (λ x. is_marked (slice_get (cells_in x) place)) (new_elsewhere (shape_of o) w g cells untouched_is object ne)) ∙ m)
  ]
    where
      no_mark : (found : Option Cell) → ((d : Cell) → found ≡ Some d → d.marked ≡ false) → is_marked found ≡ true → ⊥
      no_mark None free m = cc
      no_mark (Some d) free m = let a = free d refl in let never : false ≡ true = sym a ∙ m in cc
  still_grown rest free still (MapAt object) m = still (MapAt object) (sym (of_same (shape_of o) w g cells untouched_is map_mark refl object) ∙ m)
