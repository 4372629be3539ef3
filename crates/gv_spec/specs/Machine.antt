-- What a machine has to be for its runs to be told: what one step of a thread does, what a call
-- starts, and what a crash leaves. W is its world (heap, locks, disks), T a thread, R what a
-- thread's first frame returns, V the values that calls take and give.
use Rattle.std.specs.Prelude.{ℕ, List, Option, Result}
use Rattle.gv_base.specs.declared.answer.Answer.{Answer}
use Rattle.gv_base.specs.declared.reason.Reason.{Reason}

-- what a thread's step leaves
pub data Stepped (W T R : Type 0) : Type 0 where
  -- the world, the thread, which goes on, and the threads that it started
  GoesOn : W → T → List T → Stepped W T R
  -- the world, and what the first frame returned: the thread has ended
  Returns : W → R → Stepped W T R

pub record Machine (W T R V : Type 0) : Type 0 where
  -- before anything happened
  pub first_world : W
  -- a thread that is about to run the package's recovery
  pub recovery : T
  -- one step of a thread, with so much extra room for the slice that it makes larger, if it makes one
  pub stepped : ℕ → T → W → Answer (Stepped W T R)
  -- the thread of a call on the receiver that recovery returned, and the world with fresh buffers
  -- for its arguments; none where the machine has no such call
  pub called : R → ℕ → List V → W → Option (W × T)
  -- the reply of a call whose first frame returned this, read in this world
  pub reply : R → W → Result V Reason
  -- what a crash keeps
  pub crashed : W → W
  -- the world once this disk has failed, where it may fail
  pub failed : ℕ → W → Option W
