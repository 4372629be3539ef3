-- Locking and unlocking.
use Rattle.std.specs.Prelude.{ℕ, ◌-◌, Bool, true, false, not, Option, Some, None, slice_get, nat_eq, if◌then◌else◌}
use Rattle.gv_base.specs.declared.reason.Reason.TheVariants.{NilUse, Kind, UnlockFree}
use Rattle.gv_base.specs.declared.answer.Answer.{Answer}
use Rattle.gv_base.specs.declared.answer.Answer.TheVariants.{Next, Blocked, Undefined}
use Rattle.gv_world.specs.Answers.{and_then, undefined_if}
use Rattle.gv_world.specs.Store.{Object, Cells, Map, Mutex, Store, with_object}

abbrev pub as_mutex : Option Object → Answer Bool
as_mutex (Some (Mutex locked)) = Next locked
as_mutex (Some (Cells cells)) = Undefined Kind
as_mutex (Some (Map entries marked)) = Undefined Kind
as_mutex None = Undefined Kind

-- whether the mutex under a number is locked
abbrev pub mutex_of : Store → ℕ → Answer Bool
mutex_of s object = undefined_if (nat_eq object 0) NilUse (as_mutex (slice_get s.objects (object - 1)))

-- waits where it is locked, whoever locked it
abbrev pub lock : Store → ℕ → Answer Store
lock s object = and_then (mutex_of s object) (λ locked. if locked then Blocked else Next (with_object s object (Mutex true)))

-- whoever locked it may be another thread
abbrev pub unlock : Store → ℕ → Answer Store
unlock s object = and_then (mutex_of s object) (λ locked. undefined_if (not locked) UnlockFree (Next (with_object s object (Mutex false))))
