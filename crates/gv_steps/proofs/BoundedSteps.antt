-- Steps and starts of threads whose slices are bounded.
use Rattle.std.proofs.Common.{◌≡◌, ℕ, Bool, true, false, List, [], ◌∷◌, ◌++◌, Option, Some, None, length, refl, subst, arith}
use Rattle.std.specs.Prelude.{◌&&◌, slice_get, option_map, nat_lt, if◌then◌else◌}
use Rattle.std.specs.Option.{unwrap_or}
use Rattle.std.specs.List.{list_all}
use Rattle.std.proofs.lemmas.Bool.{and_parts, and_from, ltb-true}
use Rattle.gv_base.specs.declared.answer.Answer.{Answer}
use Rattle.gv_base.specs.declared.answer.Answer.TheVariants.{Next}
use Rattle.gv_base.specs.declared.val.Val.{Val}
use Rattle.gv_base.specs.declared.val.Val.TheVariants as val
use Rattle.gv_world.specs.Store.{Cells, Store as World, fresh}
use Rattle.gv_world.specs.Disks.{byte_cells, fail_disk}
use Rattle.gv_world.specs.Slices.{too_long, whole_of}
use Rattle.gv_lang.specs.Tree.{Program}
use Rattle.gv_lang.specs.Todo.{Todo, head, onward}
use Rattle.gv_lang.specs.Threads.{Frame, Thread, new_frame, thread_of}
use Rattle.gv_lang.specs.Calls as calls
use Rattle.gv_lang.specs.Calls.{Given, started, idle, recovery, is_buffer, buffered, placed, all_placed, started_in, called}
use Rattle.gv_lang.specs.Table.{Effect, Goes, Begins, Pushes, Starts, Pops, effect}
use Rattle.gv_lang.specs.Step.{Stepped, GoesOn, truth, assigned, returned, moved, with_todo, settled, stepped}
use Rattle.gv_steps.specs.Bounds.{is_bounded_value, are_bounded_values, is_bounded_cell, is_bounded_store, is_bounded_frame, has_spare_cell, is_begun_well, is_bounded_thread, is_bounded_left}
use Rattle.gv_steps.specs.Keeping.{BoundsAreKept}
use Rattle.gv_steps.proofs.Passing.{set_passes, both_pass, map_passes, if_there, then_there, mapped_there, if_next, then_next}
use Rattle.gv_steps.proofs.BoundedCells.{new_bounded, fail_bounded, slice_from}
use Rattle.gv_steps.proofs.BoundedRows.{new_frame_bounded, is_bounded_effect, effect_bounded}

-- ---- threads

record Parts (th : Thread) : Type 0 where
  pub top : are_bounded_values th.top.locals ≡ true
  pub below : list_all is_bounded_frame th.below ≡ true
  pub well : is_begun_well th.begun th.top.locals (head th.top.todo) ≡ true

parts_of : (th : Thread) → is_bounded_thread th ≡ true → Parts th
parts_of th h =
    let last = and_parts (is_bounded_frame th.top && list_all is_bounded_frame th.below) (is_begun_well th.begun th.top.locals (head th.top.todo)) h in
    let first = and_parts (is_bounded_frame th.top) (list_all is_bounded_frame th.below) last.0 in
    record { top = first.0; below = first.1; well = last.1 }

from_parts : (th : Thread) → Parts th → is_bounded_thread th ≡ true
from_parts th p =
    and_from (is_bounded_frame th.top && list_all is_bounded_frame th.below) (is_begun_well th.begun th.top.locals (head th.top.todo))
    (and_from (is_bounded_frame th.top) (list_all is_bounded_frame th.below) p.top p.below) p.well

goes_on_bounded : (w : World) (th : Thread) (started : List Thread) → is_bounded_store w ≡ true → Parts th → list_all is_bounded_thread started ≡ true
    → is_bounded_left (GoesOn w th started) ≡ true
goes_on_bounded w th started hw p hs =
    and_from (is_bounded_store w && is_bounded_thread th) (list_all is_bounded_thread started)
    (and_from (is_bounded_store w) (is_bounded_thread th) hw (from_parts th p)) hs

assigned_bounded : (locals : List Val) (xs : List ℕ) (vs : List Val) → are_bounded_values locals ≡ true → are_bounded_values vs ≡ true
    → are_bounded_values (assigned locals xs vs) ≡ true
assigned_bounded locals [] vs h k = h
assigned_bounded locals (x ∷ xs) [] h k = h
assigned_bounded locals (x ∷ xs) (v ∷ vs) h k =
    let values = and_parts (is_bounded_value v) (are_bounded_values vs) k in
    assigned_bounded _ xs vs (set_passes is_bounded_value locals x v h values.0) values.1

returned_bounded : (below : List Frame) (w : World) (xs : List ℕ) (vs : List Val) → list_all is_bounded_frame below ≡ true → is_bounded_store w ≡ true
    → are_bounded_values vs ≡ true → is_bounded_left (returned below w xs vs) ≡ true
returned_bounded [] w xs vs h hw hv = and_from (is_bounded_store w) (are_bounded_values vs) hw hv
returned_bounded (f ∷ below) w xs vs h hw hv =
    let frames = and_parts (is_bounded_frame f) (list_all is_bounded_frame below) h in
    goes_on_bounded w (record { top = record f { locals = assigned f.locals xs vs }; below = below; begun = false }) [] hw
    (record { top = assigned_bounded f.locals xs vs frames.0 hv; below = frames.1; well = refl }) refl

fresh_bounded : (f : Frame) → is_bounded_frame f ≡ true → is_bounded_thread (thread_of f) ≡ true
fresh_bounded f h = from_parts (thread_of f) (record { top = h; below = refl; well = refl })

settled_bounded : (th : Thread) (w : World) (rest : Option Todo) (e : Effect) → Parts th → is_bounded_store w ≡ true
    → is_bounded_effect (has_spare_cell th.top.locals (head th.top.todo)) e ≡ true → if_next is_bounded_left (settled th w rest e) ≡ true
settled_bounded th w rest (Pops vs) p hw h = returned_bounded th.below w th.top.results vs p.below hw h
settled_bounded th w rest (Begins after) p hw h =
    let parts = and_parts (is_bounded_store after) (has_spare_cell th.top.locals (head th.top.todo)) h in
    goes_on_bounded after (record th { begun = true }) [] parts.0 (record { top = p.top; below = p.below; well = parts.1 }) refl
settled_bounded th w (Some rest) (Goes after locals) p hw h =
    let parts = and_parts (is_bounded_store after) (are_bounded_values locals) h in
    goes_on_bounded after (record { top = moved th.top locals rest; below = th.below; begun = false }) [] parts.0
    (record { top = parts.1; below = p.below; well = refl }) refl
settled_bounded th w (Some rest) (Pushes f) p hw h =
    goes_on_bounded w (record { top = f; below = with_todo th.top rest ∷ th.below; begun = false }) [] hw
    (record { top = h; below = and_from (are_bounded_values th.top.locals) (list_all is_bounded_frame th.below) p.top p.below; well = refl }) refl
settled_bounded th w (Some rest) (Starts f) p hw h =
    goes_on_bounded w (record { top = with_todo th.top rest; below = th.below; begun = false }) (thread_of f ∷ []) hw
    (record { top = p.top; below = p.below; well = refl }) (and_from (is_bounded_thread (thread_of f)) true (fresh_bounded f h) refl)
settled_bounded th w None (Goes after locals) p hw h = refl
settled_bounded th w None (Pushes f) p hw h = refl
settled_bounded th w None (Starts f) p hw h = refl

-- what is next passes, as the answer is that
next_passes : {A : Type 0} (p : A → Bool) (answer : Answer A) (a : A) → answer ≡ Next a → if_next p answer ≡ true → p a ≡ true
next_passes p answer a e h = subst (λ x. if_next p x ≡ true) e h

steps : (g : Program) (extra : ℕ) (th : Thread) (w : World) (left : Stepped) → is_bounded_thread th ≡ true → is_bounded_store w ≡ true
    → stepped g extra th w ≡ Next left → is_bounded_left left ≡ true
steps g extra th w left ht hw e =
    let p = parts_of th ht in
    next_passes is_bounded_left (stepped g extra th w) left e
    (then_next (is_bounded_effect (has_spare_cell th.top.locals (head th.top.todo))) is_bounded_left
    (effect g extra th.begun th.top.locals w (head th.top.todo))
    (settled th w (onward (truth th.top.locals (head th.top.todo)) th.top.todo))
    (effect_bounded g extra th.begun th.top.locals w p.top hw (head th.top.todo) p.well)
    (λ effect h. settled_bounded th w (onward (truth th.top.locals (head th.top.todo)) th.top.todo) effect p hw h))

-- ---- starts

started_bounded : (g : Program) (f : ℕ) (args : List Val) → are_bounded_values args ≡ true → if_there is_bounded_thread (started g f args) ≡ true
started_bounded g f args h =
    mapped_there (λ p. true) is_bounded_thread (λ p. thread_of (new_frame f p args [])) (slice_get g.procs f) (any_there (slice_get g.procs f))
    (λ p k. fresh_bounded (new_frame f p args []) (new_frame_bounded f p args [] h))
  where
    any_there : {A : Type 0} (found : Option A) → if_there (λ a. true) found ≡ true
    any_there None = refl
    any_there (Some a) = refl

recoveries : (g : Program) → is_bounded_thread (recovery g) ≡ true
recoveries g = or_idle (started g g.recover []) (started_bounded g g.recover [] refl)
  where
    or_idle : (found : Option Thread) → if_there is_bounded_thread found ≡ true → is_bounded_thread (unwrap_or found idle) ≡ true
    or_idle None h = refl
    or_idle (Some th) h = h

abbrev is_bounded_placing : World × List Val → Bool
is_bounded_placing pair = is_bounded_store pair.0 && are_bounded_values pair.1

abbrev is_bounded_one : World × Val → Bool
is_bounded_one pair = is_bounded_store pair.0 && is_bounded_value pair.1

buffered_bounded : (w : World) (bytes : List ℕ) → is_bounded_store w ≡ true → nat_lt (length bytes) too_long ≡ true → is_bounded_one (buffered w bytes) ≡ true
buffered_bounded w bytes hw e =
    let less = ltb-true (length bytes) too_long e in
    and_from _ _ (new_bounded w (Cells (byte_cells bytes)) hw
    (map_passes is_bounded_cell (λ b. record { value = val.Byte b; marked = false }) bytes (λ b. refl)))
    (slice_from (whole_of (fresh w) (length bytes)) (omega arith) (omega (arith, less)))

if_small : {A : Type 0} (p : A → Bool) (test : Bool) (a : A) → (test ≡ true → p a ≡ true) → if_there p (if test then Some a else None) ≡ true
if_small p true a h = h refl
if_small p false a h = refl

placed_bounded : (w : World) (arg : Given) → is_bounded_store w ≡ true → if_there is_bounded_one (placed w arg) ≡ true
placed_bounded w (calls.Word n) hw = if_small is_bounded_one _ (w, val.Word n) (λ e. and_from (is_bounded_store w) true hw refl)
placed_bounded w (calls.Truth b) hw = and_from (is_bounded_store w) true hw refl
placed_bounded w (calls.Bytes bytes) hw =
    if_small is_bounded_one (is_buffer bytes) (buffered w bytes) (λ e. buffered_bounded w bytes hw (and_parts _ _ e).1)
placed_bounded w calls.Nothing hw = refl

all_placed_bounded : (w : World) (args : List Given) → is_bounded_store w ≡ true → if_there is_bounded_placing (all_placed w args) ≡ true
all_placed_bounded w [] hw = and_from (is_bounded_store w) true hw refl
all_placed_bounded w (arg ∷ args) hw =
    then_there is_bounded_one is_bounded_placing (λ one. option_map (λ rest. (rest.0, one.1 ∷ rest.1)) (all_placed one.0 args)) (placed w arg)
    (placed_bounded w arg hw)
    (λ one h. let first = and_parts (is_bounded_store one.0) (is_bounded_value one.1) h in
    mapped_there is_bounded_placing is_bounded_placing (λ rest. (rest.0, one.1 ∷ rest.1)) (all_placed one.0 args) (all_placed_bounded one.0 args first.0)
    (λ rest k. let others = and_parts (is_bounded_store rest.0) (are_bounded_values rest.1) k in
    and_from (is_bounded_store rest.0) (are_bounded_values (one.1 ∷ rest.1)) others.0
    (and_from (is_bounded_value one.1) (are_bounded_values rest.1) first.1 others.1)))

abbrev is_bounded_start : World × Thread → Bool
is_bounded_start pair = is_bounded_store pair.0 && is_bounded_thread pair.1

called_bounded : (g : Program) (f : ℕ) (receiver : List Val) (args : List Given) (w : World) → are_bounded_values receiver ≡ true → is_bounded_store w ≡ true
    → if_there is_bounded_start (called g f receiver args w) ≡ true
called_bounded g f receiver args w hr hw =
    then_there is_bounded_placing is_bounded_start (λ found. started_in g f receiver found) (all_placed w args) (all_placed_bounded w args hw)
    (λ found h. let parts = and_parts (is_bounded_store found.0) (are_bounded_values found.1) h in
    mapped_there is_bounded_thread is_bounded_start (λ thread. (found.0, thread)) (started g f (receiver ++ found.1))
    (started_bounded g f (receiver ++ found.1) (both_pass is_bounded_value receiver found.1 hr parts.1))
    (λ thread k. and_from (is_bounded_store found.0) (is_bounded_thread thread) parts.0 k))

calls_kept : (g : Program) (f : ℕ) (receiver : List Val) (args : List Given) (w after : World) (th : Thread) → are_bounded_values receiver ≡ true
    → is_bounded_store w ≡ true → called g f receiver args w ≡ Some (after, th) → (is_bounded_store after ≡ true) × (is_bounded_thread th ≡ true)
calls_kept g f receiver args w after th hr hw e =
    and_parts (is_bounded_store after) (is_bounded_thread th)
    (subst (λ found. if_there is_bounded_start found ≡ true) e (called_bounded g f receiver args w hr hw))

pub bounds_are_kept : BoundsAreKept
bounds_are_kept = record {
  steps = steps;
  calls = calls_kept;
  recoveries = recoveries;
  first_stores = λ disks blocks. refl;
  crashes = λ w. refl;
  failures = λ w after d hw e. next_passes is_bounded_store (fail_disk w d) after e (fail_bounded w d hw);
}
