-- What holds of the runs of every program.
use Rattle.std.proofs.Common.{◌≡◌, ℕ, zero, suc, ◌<◌, ◌-◌, ◌^◌, nat_eq, not, Bool, true, false, ◌&&◌, cond, List, [], ◌∷◌, ◌++◌, length, map, Option, Some, None, option_map, option_and_then, refl, sym, ap, subst, ◌∙◌, arith}
use Rattle.std.specs.List.{slice_get, AllByRecursion}
use Rattle.std.proofs.lemmas.Option.{slice_get-map}
use Rattle.std.proofs.lemmas.Bool.Decides.{nat_tests}
use Rattle.gv_base.specs.declared.reason.Reason.{Reason}
use Rattle.gv_base.specs.declared.reason.Reason.TheVariants.{NilUse, Kind, OutOfRange, Race}
use Rattle.gv_base.specs.declared.answer.Answer.{Answer}
use Rattle.gv_base.specs.declared.answer.Answer.TheVariants.{Next, Blocked, Undefined}
use Rattle.gv_base.specs.declared.val.Val.{Val}
use Rattle.gv_base.specs.declared.val.Val.TheVariants as val
use Rattle.gv_base.specs.declared.slice_val.SliceVal.{SliceVal}
use Rattle.gv_world.specs.declared.cell.Cell.{Cell}
use Rattle.gv_world.specs.Answers.{and_then, undefined_if}
use Rattle.gv_world.specs.Store.{Object, Cells, Map, Mutex, Store as World}
use Rattle.gv_world.specs.Cells.{as_cells, cells_of, run, is_short, is_marked, unmarked, are_bytes, bytes_in, only_bytes, read_bytes}
use Rattle.gv_world.specs.Disks.{fail_disk, may_fail, with_failed}
use Rattle.gv_lang.specs.Tree.{Proc, Program}
use Rattle.gv_lang.specs.Threads.{Thread}
use Rattle.gv_lang.specs.Step as step
use Rattle.gv_lang.specs.Calls as given
use Rattle.gv_lang.specs.Calls.{Given, recovery, contents, reply, reply_of}
use Rattle.gv_spec.specs.Event as event
use Rattle.gv_spec.specs.Runs.{Role, Recovers, living, unless_undefined, settled, crash_made, step_taken, step_made, event_made, outcome_of, after}
use Rattle.gv_runs.specs.Machine.{Setting, left_by, machine_of}
use Rattle.gv_runs.specs.Laws.{State, Allows, RepliesNeverWait, FailuresAreDefined, IsCrashed, CrashLeaves, IsStepOf, StepsAreOfThreads}

-- ---- answers that are never Blocked

abbrev pub Settles : {A : Type 0} → Answer A → Type 0
Settles (Next a) = Unit {0}
Settles Blocked = ⊥
Settles (Undefined reason) = Unit {0}

then_settles : {A B : Type 0} (a : Answer A) (f : A → Answer B) → Settles a → ((x : A) → Settles (f x)) → Settles (and_then a f)
then_settles (Next x) f h hs = hs x
then_settles Blocked f h hs = h
then_settles (Undefined reason) f h hs = tt

if_settles : {A : Type 0} (b : Bool) (reason : Reason) (a : Answer A) → Settles a → Settles (undefined_if b reason a)
if_settles true reason a h = tt
if_settles false reason a h = h

not_blocked : {A : Type 0} (a : Answer A) → Settles a → a ≡ Blocked → ⊥
not_blocked (Next x) h e = absurd cc
not_blocked Blocked h e = h
not_blocked (Undefined reason) h e = absurd cc

object_settles : (o : Option Object) → Settles (as_cells o)
object_settles None = tt
object_settles (Some (Cells cells)) = tt
object_settles (Some (Map entries marked)) = tt
object_settles (Some (Mutex locked)) = tt

cells_settle : (w : World) (object : ℕ) → Settles (cells_of w object)
cells_settle w object =
    if_settles (nat_eq object 0) NilUse (as_cells (slice_get w.objects (object - 1))) (object_settles (slice_get w.objects (object - 1)))

two_tests : (short marked : Bool) (cells : List Cell) → Settles (undefined_if short OutOfRange (undefined_if marked Race (Next cells)))
two_tests true marked cells = tt
two_tests false true cells = tt
two_tests false false cells = tt

unmarked_settle : (cells : List Cell) (count : ℕ) → Settles (unmarked cells count)
unmarked_settle cells count = two_tests (is_short cells count) (is_marked cells) cells

run_settles : (cells : List Cell) (count : ℕ) → Settles (only_bytes cells (and_then (unmarked cells count) (λ found. Next (bytes_in found))))
run_settles cells count =
    if_settles (not (are_bytes cells)) Kind (and_then (unmarked cells count) (λ found. Next (bytes_in found)))
    (then_settles (unmarked cells count) (λ found. Next (bytes_in found)) (unmarked_settle cells count) (λ found. tt))

bytes_settle : (w : World) (object index count : ℕ) → Settles (read_bytes w object index count)
bytes_settle w object index count =
    then_settles (cells_of w object)
    (λ cells. only_bytes (run cells index count) (and_then (unmarked (run cells index count) count) (λ found. Next (bytes_in found))))
    (cells_settle w object) (λ cells. run_settles (run cells index count) count)

contents_settle : (w : World) (s : SliceVal) → Settles (contents w s)
contents_settle w s = go (nat_eq s.length 0)
  where
    go : (b : Bool) → Settles (cond b (Next []) (read_bytes w s.object s.offset s.length))
    go true = tt
    go false = bytes_settle w s.object s.offset s.length

reply_settles : (w : World) (vs : List Val) → Settles (reply w vs)
reply_settles w [] = tt
reply_settles w (val.Word n ∷ []) = tt
reply_settles w (val.Bool b ∷ []) = tt
reply_settles w (val.Slice s ∷ []) = then_settles (contents w s) (λ bytes. Next (given.Bytes bytes)) (contents_settle w s) (λ bytes. tt)
reply_settles w (_ ∷ []) = tt
reply_settles w (v ∷ u ∷ more) = tt

pub replies_never_wait : RepliesNeverWait
replies_never_wait w vs e = not_blocked (reply w vs) (reply_settles w vs) e

possible_or_not : (b : Bool) (w : World) (reason : Reason) → cond b (Next w) Blocked ≡ Undefined reason → ⊥
possible_or_not true w reason e = absurd cc
possible_or_not false w reason e = absurd cc

pub failures_are_defined : FailuresAreDefined
failures_are_defined w disk reason e = possible_or_not (may_fail w disk) (with_failed w disk) reason e

-- ---- a crash

seam : {A : Type 0} (B : Type 0) (ts : List A) (t : Option B) → living (map {B = Option B} (λ x. None) ts ++ t ∷ []) (suc (length ts)) ≡ t
seam B [] None = refl
seam B [] (Some t) = refl
seam B (x ∷ xs) t = seam B xs t

pub crash_leaves : CrashLeaves
crash_leaves g setting allows s e = go s.fault e
  where
    crashed : IsCrashed g s (crash_made (machine_of g setting) s)
    crashed = record {
      disks = refl;
      objects = refl;
      receiver = refl;
      recovers = seam (Role × Thread) s.threads (Some (Recovers, recovery g));
      calls = refl;
    }

    go : (o : Option Reason) → o ≡ None → IsCrashed g s (settled s (unless_undefined o (event_made (machine_of g setting) allows s event.Crash)))
    go None d = crashed
    go (Some reason) d = absurd cc

-- ---- a step

pub steps_are_of_threads : StepsAreOfThreads
steps_are_of_threads g setting allows s number extra role th none there = record {
  waits = λ e. made ∙ ap (λ a. step_taken (machine_of g setting) s number role (left_by a)) e;
  undefined = λ reason e. made ∙ ap (λ a. step_taken (machine_of g setting) s number role (left_by a)) e;
}
  where
    made : outcome_of (machine_of g setting) allows s (event.Step number extra)
        ≡ step_taken (machine_of g setting) s number role (left_by (step.stepped g extra th s.world))
    made = ap (λ o. unless_undefined o (step_made (machine_of g setting) s number extra (living s.threads number))) none
        ∙ ap (step_made (machine_of g setting) s number extra) there
