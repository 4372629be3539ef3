-- Bounded slices stay bounded.
use Rattle.std.specs.Prelude.{◌≡◌, ℕ, true, List, Some}
use Rattle.gv_base.specs.declared.answer.Answer.TheVariants.{Next}
use Rattle.gv_base.specs.declared.val.Val.{Val}
use Rattle.gv_world.specs.Store.{Store as World, zero_store, crashed}
use Rattle.gv_world.specs.Disks.{fail_disk}
use Rattle.gv_lang.specs.Tree.{Program}
use Rattle.gv_lang.specs.Threads.{Thread}
use Rattle.gv_lang.specs.Calls.{Given, recovery, called}
use Rattle.gv_lang.specs.Step.{Stepped, stepped}
use Rattle.gv_steps.specs.Bounds.{are_bounded_values, is_bounded_store, is_bounded_thread, is_bounded_left}

-- what each event of a machine makes of bounded threads and a bounded store
pub record BoundsAreKept : Type 0 where
  pub steps : (g : Program) (extra : ℕ) (th : Thread) (w : World) (left : Stepped)
      → is_bounded_thread th ≡ true → is_bounded_store w ≡ true → stepped g extra th w ≡ Next left → is_bounded_left left ≡ true
  pub calls : (g : Program) (f : ℕ) (receiver : List Val) (args : List Given) (w after : World) (th : Thread)
      → are_bounded_values receiver ≡ true → is_bounded_store w ≡ true → called g f receiver args w ≡ Some (after, th)
      → (is_bounded_store after ≡ true) × (is_bounded_thread th ≡ true)
  pub recoveries : (g : Program) → is_bounded_thread (recovery g) ≡ true
  pub first_stores : (disks blocks : ℕ) → is_bounded_store (zero_store disks blocks) ≡ true
  pub crashes : (w : World) → is_bounded_store (crashed w) ≡ true
  pub failures : (w after : World) (d : ℕ) → is_bounded_store w ≡ true → fail_disk w d ≡ Next after → is_bounded_store after ≡ true
