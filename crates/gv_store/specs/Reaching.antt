-- The object under a number, or the reason why an access of any kind finds none.
use Rattle.std.specs.Prelude.{ℕ, ◌-◌, List, [], Option, Some, None, slice_get, nat_eq}
use Rattle.gv_base.specs.declared.reason.Reason.TheVariants.{NilUse, Kind}
use Rattle.gv_base.specs.declared.answer.Answer.{Answer}
use Rattle.gv_base.specs.declared.answer.Answer.TheVariants.{Next, Undefined}
use Rattle.gv_world.specs.Answers.{and_then, undefined_if}
use Rattle.gv_world.specs.declared.cell.Cell.{Cell}
use Rattle.gv_world.specs.Store.{Object, Store, with_object}
use Rattle.gv_world.specs.Cells.{run, unmarked, only_bytes}

-- a store of these objects alone
abbrev pub of_objects : List Object → Store
of_objects objects = record { objects = objects; disks = [] }

abbrev pub there : Option Object → Answer Object
there (Some object) = Next object
there None = Undefined Kind

abbrev pub object_at : Store → ℕ → Answer Object
object_at s number = undefined_if (nat_eq number 0) NilUse (there (slice_get s.objects (number - 1)))

-- the store in which an access changes the object under a number
abbrev pub changed_at : Store → ℕ → (Object → Answer Object) → Answer Store
changed_at s number change =
    and_then (object_at s number) (λ object. and_then (change object) (λ changed. Next (with_object s number changed)))

-- so many cells from a place on, which are to hold bytes
abbrev pub found_bytes : List Cell → (index count : ℕ) → Answer (List Cell)
found_bytes cells index count = only_bytes (run cells index count) (unmarked (run cells index count) count)
