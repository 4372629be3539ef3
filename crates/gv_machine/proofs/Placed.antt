-- Arguments of calls, as the definition places them and one after another.
use Rattle.std.proofs.Common.{◌≡◌, ℕ, ◌+◌, ◌-◌, ◌≤◌, ◌^◌, Bool, true, false, List, [], ◌∷◌, ◌++◌, Option, Some, None, Result, Ok, Err, length, map, take, drop, get_or, sum, refl, sym, ap, subst, ◌∙◌, arith, append_assoc, append-nil, length-append}
use Rattle.std.specs.declared.alloc.Global.{Global}
use Rattle.std.specs.Prelude.{◌&&◌, not, Vec, if◌then◌else◌, nat_lt, nat_le, option_map, option_and_then, slice_get}
use Rattle.std.proofs.lemmas.List.{take-append-le}
use Rattle.std.proofs.lemmas.List.Sums.{sum-map, sum_by_push}
use Rattle.std.proofs.lemmas.Bool.{and_parts, leb-true, le-leb}
use Rattle.gv_base.specs.declared.val.Val.{Val}
use Rattle.gv_base.specs.declared.val.Val.TheVariants as val
use Rattle.gv_words.specs.Words.{words}
use Rattle.gv_world.specs.Disks.{byte_cells}
use Rattle.gv_world.specs.Store.{Object, Cells, Disk, Store as World, fresh, with_new, counted, live_cells, most_cells, is_within_limit}
use Rattle.gv_lang.specs.Calls as given
use Rattle.gv_lang.specs.Calls.{Given, is_buffer, placed, all_placed, started_in, called}
use Rattle.gv_lang.specs.Threads.{Thread, new_frame, thread_of}
use Rattle.gv_lang.specs.Tree.{Proc, Program}
use Rattle.gv_store.specs.declared.grow.Grow.{Grow}
use Rattle.gv_store.specs.declared.grow.Grow.TheVariants as grow
use Rattle.gv_thread.specs.declared.frame.Thread.{Thread as Held}
use Rattle.gv_thread.specs.Frames.{thread_of as held_thread_of}
use Rattle.gv_terms.specs.declared.value.Value.{Value}
use Rattle.gv_terms.specs.declared.value.Value.TheVariants as value
use Rattle.gv_runs.specs.Machine.{Setting, given_of, all_given, procedure, call_of}
use Rattle.gv_machine.specs.Placing.{is_argument, are_arguments, with_argument, argument_in, with_arguments, arguments_in, placed_in, Places, IsGrown, PlacesEach, PlacesAll}
use Rattle.gv_machine.specs.Outcomes.{is_over, Starts}

-- what is given where all may be given
abbrev only_if : {A : Type 0} → Bool → A → Option A
only_if b a = if b then Some a else None

abbrev with_first : Val → World × List Val → World × List Val
with_first x others = (others.0, x ∷ others.1)

abbrev placing : List Given → World × Val → Option (World × List Val)
placing gs one = option_map (with_first one.1) (all_placed one.0 gs)

one_more : (w after world : World) (g : Given) (x : Val) (vs : List Val) (ok rest : Bool) (gs : Option (List Given))
    → placed w g ≡ only_if ok (after, x)
    → option_and_then (λ givens. all_placed after givens) gs ≡ only_if rest (world, vs)
    → option_and_then (λ givens. all_placed w givens) (option_map (λ others. g ∷ others) gs) ≡ only_if (ok && rest) (world, x ∷ vs)
one_more w after world g x vs true rest (Some gs) p q =
    ap (option_and_then (placing gs)) p ∙ ap (option_map (with_first x)) q ∙ mapped rest
  where
    mapped : (b : Bool) → option_map (with_first x) (only_if b (world, vs)) ≡ only_if b (world, x ∷ vs)
    mapped true = refl
    mapped false = refl
one_more w after world g x vs false rest (Some gs) p q = ap (option_and_then (placing gs)) p
one_more w after world g x vs false rest None p q = refl
one_more w after world g x vs true true None p q = absurd cc
one_more w after world g x vs true false None p q = refl

pub placed_is : (w : World) (args : List Value) → placed_in w args ≡ only_if (are_arguments args) (with_arguments w args, arguments_in w args)
placed_is w [] = refl
placed_is w (value.Word n ∷ vs) = one_more w w _ (given.Word n) (val.Word n) _ (nat_lt n words) _ (all_given vs) refl (placed_is w vs)
placed_is w (value.Bool b ∷ vs) = one_more w w _ (given.Truth b) (val.Bool b) _ true _ (all_given vs) refl (placed_is w vs)
placed_is w (value.Bytes x ∷ vs) =
    one_more w (with_argument w (value.Bytes x)) _ (given.Bytes x) (argument_in w (value.Bytes x)) _ (is_buffer x) _ (all_given vs) refl
    (placed_is (with_argument w (value.Bytes x)) vs)
placed_is w (_ ∷ vs) = refl

-- ---- the thread of a call

module _ (g : Program) (s : Setting) (receiver : List Val) (op : ℕ) (args : List Value) (w : World) where
  by_placed : (f : ℕ) (gs : Option (List Given))
      → option_and_then (λ givens. called g f receiver givens w) gs ≡ option_and_then (λ found. started_in g f receiver found) (option_and_then (λ givens. all_placed w givens) gs)
  by_placed f None = refl
  by_placed f (Some gs) = refl

  abbrev starting : ℕ → Option (World × List Val) → Option (World × Thread)
  starting f found = option_and_then (λ placed. started_in g f receiver placed) found

  at_place : (f : ℕ) → procedure g s op ≡ Some f
      → call_of g s receiver op args w ≡ starting f (only_if (are_arguments args) (with_arguments w args, arguments_in w args))
  at_place f e =
      ap (λ found. option_and_then (λ place. option_and_then (λ givens. called g place receiver givens w) (all_given args)) found) e
      ∙ by_placed f (all_given args) ∙ ap (starting f) (placed_is w args)

  pub no_procedure : procedure g s op ≡ None → call_of g s receiver op args w ≡ None
  no_procedure e = ap (λ found. option_and_then (λ place. option_and_then (λ givens. called g place receiver givens w) (all_given args)) found) e

  no_start : (f : ℕ) (found : Option (World × List Val)) → slice_get g.procs f ≡ None → starting f found ≡ None
  no_start f None e = refl
  no_start f (Some found) e = ap (λ p. option_map (λ thread. (found.0, thread)) (option_map (λ p. thread_of (new_frame f p (receiver ++ found.1) [])) p)) e

  pub no_proc : (f : ℕ) → procedure g s op ≡ Some f → slice_get g.procs f ≡ None → call_of g s receiver op args w ≡ None
  no_proc f e n = at_place f e ∙ no_start f (only_if (are_arguments args) (with_arguments w args, arguments_in w args)) n

  pub no_arguments : (f : ℕ) → procedure g s op ≡ Some f → are_arguments args ≡ false → call_of g s receiver op args w ≡ None
  no_arguments f e n = at_place f e ∙ ap (λ b. starting f (only_if b (with_arguments w args, arguments_in w args))) n

  pub call_starts : (f : ℕ) (p : Proc) → procedure g s op ≡ Some f → slice_get g.procs f ≡ Some p → are_arguments args ≡ true
      → call_of g s receiver op args w ≡ Some (with_arguments w args, thread_of (new_frame f p (receiver ++ arguments_in w args) []))
  call_starts f p e there n =
      at_place f e ∙ ap (λ b. starting f (only_if b (with_arguments w args, arguments_in w args))) n
      ∙ ap (λ q. option_map (λ thread. (with_arguments w args, thread)) (option_map (λ q. thread_of (new_frame f q (receiver ++ arguments_in w args) [])) q)) there

-- ---- the store grows

live_more : (w : World) (object : Object) → live_cells w ≤ live_cells (with_new w object)
live_more w object =
    omega (arith, sum_by_push counted w.objects object, sum-map counted w.objects, sum-map counted (w.objects ++ object ∷ []))

live_argument : (w : World) (v : Value) → live_cells w ≤ live_cells (with_argument w v)
live_argument w (value.Bytes x) = live_more w (Cells (byte_cells x))
live_argument w _ = omega arith

live_arguments : (w : World) (args : List Value) → live_cells w ≤ live_cells (with_arguments w args)
live_arguments w [] = omega arith
live_arguments w (v ∷ vs) = omega (arith, live_argument w v, live_arguments (with_argument w v) vs)

under : (b : Bool) (m n : ℕ) → nat_le m most_cells ≡ false → m ≤ n → nat_le n most_cells ≡ b → b ≡ false
under false m n h le e = refl
under true m n h le e =
    let within : n ≤ 2 ^ 24 = leb-true n most_cells e in
    let lower : m ≤ 2 ^ 24 = omega (arith, within, le) in
    let yes : nat_le m most_cells ≡ true = le-leb m most_cells lower in
    cc

-- where one argument is too many, so are all
pub stays_over : (w : World) (args : List Value) → is_within_limit w ≡ false → is_within_limit (with_arguments w args) ≡ false
stays_over w args h =
    let lower = live_arguments w args in
    under (is_within_limit (with_arguments w args)) (live_cells w) (live_cells (with_arguments w args)) h lower refl

pub grown_none : (w : World) → IsGrown w w
grown_none w = record { kept = take_whole w.objects; longer = omega arith; disks = refl }
  where
    take_whole : (xs : List Object) → take (length xs) xs ≡ xs
    take_whole [] = refl
    take_whole (x ∷ xs) = ap (λ ys. x ∷ ys) (take_whole xs)

grown_new : (w now : World) (object : Object) → IsGrown w now → IsGrown w (with_new now object)
grown_new w now object h = record {
  kept = take-append-le (length w.objects) now.objects (object ∷ []) h.longer ∙ h.kept;
  longer = omega (arith, h.longer, length-append now.objects (object ∷ []));
  disks = h.disks;
}

pub grown_argument : (w now : World) (v : Value) → IsGrown w now → IsGrown w (with_argument now v)
grown_argument w now (value.Bytes x) h = grown_new w now (Cells (byte_cells x)) h
grown_argument w now _ h = h

pub grown_arguments : (w now : World) (args : List Value) → IsGrown w now → IsGrown w (with_arguments now args)
grown_arguments w now [] h = h
grown_arguments w now (v ∷ vs) h = grown_arguments w (with_argument now v) vs (grown_argument w now v h)

abbrev store_of : List Object → List Disk → World
store_of objects disks = record { objects = objects; disks = disks }

-- what was placed is taken back
pub taken_back : (w now : World) → IsGrown w now → record now { objects = take (length w.objects + 1 - 1) now.objects } ≡ w
taken_back w now h =
    let same : length w.objects + 1 - 1 ≡ length w.objects = omega arith in
    let objects : take (length w.objects + 1 - 1) now.objects ≡ w.objects = ap (λ n. take n now.objects) same ∙ h.kept in
    ap (λ os. store_of os now.disks) objects ∙ ap (λ ds. store_of w.objects ds) h.disks

-- ---- one argument after another

-- some arguments were placed, and the rest is left
pub record IsPlacing (old : World) (args : List Value) (before : List Val) (now : World) (rest : List Value) (values : List Val) : Type 0 where
  pub valid : are_arguments rest ≡ true
  pub within : is_within_limit now ≡ true
  pub world : with_arguments now rest ≡ with_arguments old args
  pub placed : values ++ arguments_in now rest ≡ before ++ arguments_in old args
  pub grown : IsGrown old now

pub placing_none : (old : World) (args : List Value) (before : List Val) → are_arguments args ≡ true → is_within_limit old ≡ true
    → IsPlacing old args before old args before
placing_none old args before valid within = record { valid = valid; within = within; world = refl; placed = refl; grown = grown_none old }

module _ (old now next : World) (args rest : List Value) (v : Value) (before values : List Val) where
  pub placing_more : (value : Val) → IsPlacing old args before now (v ∷ rest) values
      → Places (with_argument now v) (argument_in now v) now (Ok value) next → IsPlacing old args before next rest (values ++ value ∷ [])
  placing_more value h p = record {
    valid = (and_parts (is_argument v) (are_arguments rest) h.valid).1;
    within = p.2;
    world = ap (λ w. with_arguments w rest) p.1 ∙ h.world;
    placed = append_assoc values (value ∷ []) (arguments_in next rest) ∙ ap (λ x. values ++ x ∷ arguments_in next rest) p.0
        ∙ ap (λ w. values ++ argument_in now v ∷ arguments_in w rest) p.1 ∙ h.placed;
    grown = subst (IsGrown old) (sym p.1) (grown_argument old now v h.grown);
  }

  pub placing_full : (value : Val) → IsPlacing old args before now (v ∷ rest) values
      → Places (with_argument now v) (argument_in now v) now (Ok value) next → IsGrown old next
  placing_full value h p = subst (IsGrown old) (sym p.1) (grown_argument old now v h.grown)

  pub placing_refused : (e : Grow) → IsPlacing old args before now (v ∷ rest) values
      → Places (with_argument now v) (argument_in now v) now (Err e) next → PlacesEach old args before (Err e) next values
  placing_refused grow.TooMany h p =
      (ap is_within_limit (sym h.world) ∙ stays_over (with_argument now v) rest p.0, subst (IsGrown old) (sym p.1) h.grown)
  placing_refused grow.NoMemory h p = subst (IsGrown old) (sym p) h.grown

pub placing_done : (old now : World) (args : List Value) (before values : List Val) → IsPlacing old args before now [] values
    → PlacesEach old args before (Ok tt) now values
placing_done old now args before values h = (sym (append-nil values) ∙ h.placed, h.world, h.within)

pub split_first : (xs : List Value) (x : Value) → 1 ≤ length xs → x ≡ get_or xs 0 x → xs ≡ x ∷ take (length xs - 1) (drop 1 xs)
split_first [] x long e = absurd (omega (arith, long))
split_first (y ∷ ys) x long e =
    let size : length (y ∷ ys) - 1 ≡ length ys = omega arith in
    ap (λ z. z ∷ ys) (sym e) ∙ ap (λ zs. x ∷ zs) (sym (ap (λ n. take n ys) size ∙ whole ys))
  where
    whole : (zs : List Value) → take (length zs) zs ≡ zs
    whole [] = refl
    whole (z ∷ zs) = ap (λ us. z ∷ us) (whole zs)

-- ---- all of them, or none

abbrev pub back_to : World → World → World
back_to old now = record now { objects = take (fresh old - 1) now.objects }

pub all_refused : (old now : World) (args : List Value) (before values : List Val) (e : Grow) → PlacesEach old args before (Err e) now values
    → PlacesAll old args before (Err e) (back_to old now)
all_refused old now args before values grow.TooMany h = (h.0, taken_back old now h.1)
all_refused old now args before values grow.NoMemory h = taken_back old now h

module _ (g : Program) (s : Setting) (receiver : List Val) (op : ℕ) (args : List Value) (old : World) (f : ℕ) (p : Proc)
    (named : procedure g s op ≡ Some f) (there : slice_get g.procs f ≡ Some p) (valid : are_arguments args ≡ true) where
  abbrev wanted : Option (World × Thread)
  wanted = call_of g s receiver op args old

  is : wanted ≡ Some (with_arguments old args, thread_of (new_frame f p (receiver ++ arguments_in old args) []))
  is = call_starts g s receiver op args old f p named there valid

  pub starts_refused : (e : Grow) (now : World) → PlacesAll old args receiver (Err e) now → Starts wanted old (Err e) now
  starts_refused grow.TooMany now h = (ap is_over is ∙ ap not h.0, h.1)
  starts_refused grow.NoMemory now h = h

  pub starts_full : (now : World) (values : Vec Val Global) → PlacesAll old args receiver (Ok values) now → Starts wanted old (Err grow.NoMemory) (back_to old now)
  starts_full now values h = taken_back old now (subst (IsGrown old) (sym h.1) (grown_arguments old old args (grown_none old)))

  pub starts_all : (now : World) (values : Vec Val Global) (thread : Held) → PlacesAll old args receiver (Ok values) now
      → held_thread_of thread ≡ thread_of (new_frame f p values.items []) → Starts wanted old (Ok (Some thread)) now
  starts_all now values thread h made = (
    is ∙ ap (λ w. Some (w, thread_of (new_frame f p (receiver ++ arguments_in old args) []))) (sym h.1)
        ∙ ap (λ vs. Some (now, thread_of (new_frame f p vs []))) (sym h.0) ∙ ap (λ th. Some (now, th)) (sym made),
    ap is_over is ∙ ap (λ w. not (is_within_limit w)) (sym h.1) ∙ ap not h.2,
  )
