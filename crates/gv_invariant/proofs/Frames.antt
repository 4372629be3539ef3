-- What a step of the machine leaves of frames: where a frame goes on its results are for the same locals.
use Rattle.std.proofs.Common.{◌≡◌, ℕ, suc, ◌+◌, Bool, true, false, List, [], ◌∷◌, length, Option, Some, None, refl, sym, ap, ◌∙◌, arith}
use Rattle.std.specs.Prelude.{slice_get}
use Rattle.gv_base.specs.declared.answers.Place.{Place}
use Rattle.gv_base.specs.declared.answer.Answer.{Answer}
use Rattle.gv_base.specs.declared.answer.Answer.TheVariants.{Next, Blocked, Undefined}
use Rattle.gv_base.specs.declared.val.Val.{Val}
use Rattle.gv_world.specs.Answers.{and_then}
use Rattle.gv_world.specs.Store.{Store as World}
use Rattle.gv_lang.specs.Tree as lang
use Rattle.gv_lang.specs.Tree.{Expr, Do, Proc, Program}
use Rattle.gv_lang.specs.Todo.{Todo, Run, head, onward}
use Rattle.gv_lang.specs.Table.{Effect, Goes, Begins, Pushes, Starts, Pops, effect, as_values, enters}
use Rattle.gv_lang.specs.Threads.{Frame, Thread, new_frame}
use Rattle.gv_lang.specs.Values.{values}
use Rattle.gv_lang.specs.Step.{Stepped, GoesOn, Returns, stepped, settled, returned, truth, with_todo, moved}
use Rattle.gv_marks.proofs.Worlds.{then_next, next_same}

abbrev pub thread : Frame → List Frame → Bool → Thread
thread f below begun = record { top = f; below = below; begun = begun }

on_same : (w after : World) (th other : Thread) (started more : List Thread) → GoesOn w th started ≡ GoesOn after other more → th ≡ other
on_same w after th other started more e = cc

started_same : (w after : World) (th other : Thread) (started more : List Thread) → GoesOn w th started ≡ GoesOn after other more → started ≡ more
started_same w after th other started more e = cc

longer : (f : Frame) (below : List Frame) → below ≡ f ∷ below → ⊥
longer f below e = let l : length below ≡ suc (length below) = ap (λ (x : List Frame). length x) e in omega arith

module _ (program : Program) (extra : ℕ) (f : Frame) (below : List Frame) (begun : Bool) (w : World) where
  abbrev th : Thread
  th = thread f below begun

  -- what a step that goes on in its frame leaves
  pub results_kept : (after : World) (later : Frame) (still : Bool) → stepped program extra th w ≡ Next (GoesOn after (thread later below still) []) → later.results ≡ f.results
  results_kept after later still e =
      let (x, made, rest) = then_next (effect program extra begun f.locals w (head f.todo)) _ _ e in
      at (onward (truth f.locals (head f.todo)) f.todo) x rest
    where
      popped : (frames : List Frame) (xs : List ℕ) (vs : List Val) → returned frames w xs vs ≡ GoesOn after (thread later frames still) [] → ⊥
      popped [] xs vs e = cc
      popped (g ∷ frames) xs vs e = longer g frames (ap (λ (t : Thread). t.below) (on_same _ _ _ _ _ _ e))

      at : (rest : Option Todo) (x : Effect) → settled th w rest x ≡ Next (GoesOn after (thread later below still) []) → later.results ≡ f.results
      at rest (Pops vs) e = absurd (popped below f.results vs (next_same _ _ e))
      at rest (Begins new) e = ap (λ (t : Thread). t.top.results) (sym (on_same _ _ _ _ _ _ (next_same _ _ e)))
      at (Some rest) (Goes new locals) e = ap (λ (t : Thread). t.top.results) (sym (on_same _ _ _ _ _ _ (next_same _ _ e)))
      at (Some rest) (Pushes g) e = absurd (longer (with_todo f rest) below (sym (ap (λ (t : Thread). t.below) (on_same _ _ _ _ _ _ (next_same _ _ e)))))
      at (Some rest) (Starts g) e = let none = started_same _ _ _ _ _ _ (next_same _ _ e) in absurd cc
      at None (Goes new locals) e = absurd cc
      at None (Pushes g) e = absurd cc
      at None (Starts g) e = absurd cc

  -- where it has begun a write the frame stays as it was
  pub top_kept : (after : World) (later : Frame) → stepped program extra th w ≡ Next (GoesOn after (thread later below true) []) → later ≡ f
  top_kept after later e =
      let (x, made, rest) = then_next (effect program extra begun f.locals w (head f.todo)) _ _ e in
      at (onward (truth f.locals (head f.todo)) f.todo) x rest
    where
      not_begun : (t : Thread) → t.begun ≡ false → t ≡ thread later below true → ⊥
      not_begun t b same = let both : false ≡ true = sym b ∙ ap (λ (y : Thread). y.begun) same in cc

      popped : (frames : List Frame) (xs : List ℕ) (vs : List Val) → returned frames w xs vs ≡ GoesOn after (thread later below true) [] → ⊥
      popped [] xs vs e = cc
      popped (g ∷ frames) xs vs e = not_begun _ refl (on_same _ _ _ _ _ _ e)

      at : (rest : Option Todo) (x : Effect) → settled th w rest x ≡ Next (GoesOn after (thread later below true) []) → later ≡ f
      at rest (Pops vs) e = absurd (popped below f.results vs (next_same _ _ e))
      at rest (Begins new) e = ap (λ (t : Thread). t.top) (sym (on_same _ _ _ _ _ _ (next_same _ _ e)))
      at (Some rest) (Goes new locals) e = absurd (not_begun _ refl (on_same _ _ _ _ _ _ (next_same _ _ e)))
      at (Some rest) (Pushes g) e = absurd (not_begun _ refl (on_same _ _ _ _ _ _ (next_same _ _ e)))
      at (Some rest) (Starts g) e = absurd (not_begun _ refl (on_same _ _ _ _ _ _ (next_same _ _ e)))
      at None (Goes new locals) e = absurd cc
      at None (Pushes g) e = absurd cc
      at None (Starts g) e = absurd cc

  -- and of one that starts a thread
  pub results_kept_spawning : (after : World) (later : Frame) (new : Thread) → stepped program extra th w ≡ Next (GoesOn after (thread later below false) (new ∷ [])) → later.results ≡ f.results
  results_kept_spawning after later new e =
      let (x, made, rest) = then_next (effect program extra begun f.locals w (head f.todo)) _ _ e in
      at (onward (truth f.locals (head f.todo)) f.todo) x rest
    where
      popped : (frames : List Frame) (xs : List ℕ) (vs : List Val) → returned frames w xs vs ≡ GoesOn after (thread later below false) (new ∷ []) → ⊥
      popped [] xs vs e = cc
      popped (g ∷ frames) xs vs e = let none = started_same _ _ _ _ _ _ e in cc

      at : (rest : Option Todo) (x : Effect) → settled th w rest x ≡ Next (GoesOn after (thread later below false) (new ∷ [])) → later.results ≡ f.results
      at rest (Pops vs) e = absurd (popped below f.results vs (next_same _ _ e))
      at rest (Begins n) e = let none = started_same _ _ _ _ _ _ (next_same _ _ e) in absurd cc
      at (Some rest) (Goes n locals) e = let none = started_same _ _ _ _ _ _ (next_same _ _ e) in absurd cc
      at (Some rest) (Pushes g) e = let none = started_same _ _ _ _ _ _ (next_same _ _ e) in absurd cc
      at (Some rest) (Starts g) e = ap (λ (t : Thread). t.top.results) (sym (on_same _ _ _ _ _ _ (next_same _ _ e)))
      at None (Goes n locals) e = absurd cc
      at None (Pushes g) e = absurd cc
      at None (Starts g) e = absurd cc

abbrev first_results : List Frame → List ℕ
first_results [] = []
first_results (g ∷ gs) = g.results

-- a call's frame has its results for the locals that the call sets, and its caller's are for the same as before
pub record Called (f caller new : Frame) (xs : List ℕ) : Type 0 where
  pub targets : new.results ≡ xs
  pub results : caller.results ≡ f.results

module _ (program : Program) (extra : ℕ) (f : Frame) (below : List Frame) (w : World) where
  pub call_made : (xs : List ℕ) (number : ℕ) (es : List Expr) (place : Place) (next : Todo) → f.todo ≡ Run (Do (lang.Call xs number es) place) ∷ next → (after : World) (caller new : Frame)
      → stepped program extra (thread f below false) w ≡ Next (GoesOn after (thread new (caller ∷ below) false) []) → Called f caller new xs
  call_made xs number es place next todo after caller new e =
      of_todo f.todo todo e
    where
      frames_same : (p : Proc) (args : List Val) → Next (GoesOn w (thread (new_frame number p args xs) (with_todo f next ∷ below) false) []) ≡ Next (GoesOn after (thread new (caller ∷ below) false) []) → Called f caller new xs
      frames_same p args e =
          let same = on_same _ _ _ _ _ _ (next_same _ _ e) in
          record {
            targets = sym (ap (λ (t : Thread). t.top.results) same);
            results = sym (ap (λ (t : Thread). first_results t.below) same);
          }

      found : (p : Option Proc) (args : List Val) → and_then (enters Pushes number p args xs) (settled (thread f below false) w (Some next)) ≡ Next (GoesOn after (thread new (caller ∷ below) false) []) → Called f caller new xs
      found (Some p) args e = frames_same p args e
      found None args e = absurd cc

      of_values : (vs : Option (List Val)) → and_then (and_then (as_values vs) (λ args. enters Pushes number (slice_get program.procs number) args xs)) (settled (thread f below false) w (Some next))
          ≡ Next (GoesOn after (thread new (caller ∷ below) false) []) → Called f caller new xs
      of_values (Some args) e = found (slice_get program.procs number) args e
      of_values None e = absurd cc

      of_todo : (todo : Todo) → todo ≡ Run (Do (lang.Call xs number es) place) ∷ next
          → and_then (effect program extra false f.locals w (head todo)) (settled (thread f below false) w (onward (truth f.locals (head todo)) todo)) ≡ Next (GoesOn after (thread new (caller ∷ below) false) [])
          → Called f caller new xs
      of_todo todo is e =
          of_values (values f.locals es) (sym (ap (λ (t : Todo). and_then (effect program extra false f.locals w (head t)) (settled (thread f below false) w (onward (truth f.locals (head t)) t))) is) ∙ e)
