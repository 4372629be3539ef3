-- The invariant of whole runs: all that all threads, the free locks and the crash invariant own fits, and each thread stands at a path that leads on.
use Rattle.std.specs.Prelude.{◌≡◌, ◌≢◌, ℕ, suc, ◌+◌, ◌<◌, Bool, true, false, List, [], ◌∷◌, length, Option, Some, None, is_some}
use Rattle.gv_base.specs.declared.val.Val.{Val}
use Rattle.gv_base.specs.declared.val.Val.TheVariants as stored
use Rattle.gv_terms.specs.declared.value.Value.{Value}
use Rattle.gv_terms.specs.declared.value.Value.TheVariants as val
use Rattle.gv_world.specs.Store.{Store as World}
use Rattle.gv_lang.specs.Threads.{Thread}
use Rattle.gv_spec.specs.Runs.{Role, Recovers, Answers, Spawned, RunState, living}
use Rattle.gv_resources.specs.Kinds as kind
use Rattle.gv_resources.specs.Kinds.{Kind, is_persistent}
use Rattle.gv_resources.specs.Ghost.{Ghost, Owned, Sharing, Shared}
use Rattle.gv_resources.specs.Pieces.{Resource, Have, Piece, single, sum_below}
use Rattle.gv_seats.specs.Paths.{Closed}
use Rattle.gv_seats.specs.Seats.{Base, IsInstance, Target, IsMarked, Writes}
use Rattle.gv_invariant.specs.Outlines.{Outline}
use Rattle.gv_invariant.specs.Stacks.{IsReady}

abbrev pub Run : Type 0
Run = RunState World Thread (List Val) Value

abbrev pub Threads : Type 0
Threads = List (Option (Role × Thread))

-- ---- what threads own

-- recovery's thread, and each call's, have one resource each for what they are there for
abbrev pub badge_of : Role → Piece
badge_of Recovers = single (Have kind.Recovering [] [])
badge_of (Answers call) = single (Have kind.OpenCall (val.Call call ∷ []) [])
badge_of Spawned = λ e. 0

abbrev pub badge : Option (Role × Thread) → Piece
badge None e = 0
badge (Some thread) e = badge_of thread.0 e

-- all threads together, counted from place 0, where thread 1 is
abbrev pub of_threads : Threads → (ℕ → Piece) → Piece
of_threads threads owns e = sum_below (length threads) (λ n. owns n e + badge (living threads (suc n)) e)

-- ---- what holds of threads

-- the write that has begun is of a thread in the middle of it
pub record IsWritten (threads : Threads) (t : Target) : Type 0 where
  pub place : ℕ
  pub thread : Role × Thread
  pub is : living threads (suc place) ≡ Some thread
  pub begun : thread.1.begun ≡ true
  pub writes : Writes thread.1.top t

-- recovery's is the only thread, and owns all that any thread owns
pub record IsAlone (threads : Threads) (owns : ℕ → Piece) : Type 0 where
  pub place : ℕ
  pub thread : Thread
  pub is : living threads (suc place) ≡ Some (Recovers, thread)
  pub only : (n : ℕ) (x : Role × Thread) → living threads (suc n) ≡ Some x → n ≡ place
  pub none : (n : ℕ) (e : Resource) → n ≢ place → owns n e ≡ 0

-- what is kept beside the state tells the run's history, and how far it has come
pub record Tells (s : Run) (g : Ghost) : Type 0 where
  pub history : g.history ≡ s.history
  pub calls : g.calls ≡ s.calls
  pub booted : g.booted ≡ is_some s.receiver
  -- until recovery has returned no call starts; once it shares, no call of before may act; what calls are made on is shared
  pub since : g.booted ≡ false → g.since ≡ g.calls
  pub gone : g.booted ≡ false → g.mode ≢ Owned → g.gone ≡ g.calls
  pub shared : g.booted ≡ true → g.mode ≡ Shared

-- what calls are made on: the root's instance of what recovery returned, which any number may have
pub record IsHandle (o : Outline) (receiver : List Val) (p : Piece) : Type 0 where
  pub object : ℕ
  pub is : receiver ≡ stored.Ref object ∷ []
  pub stands : IsInstance o.proof.preds o.proof.root (val.Ref object ∷ []) p

-- The invariant of whole runs, beside a piece that no thread has yet.
pub record InvariantBeside (o : Outline) (s : Run) (extra : Piece) : Type 0 where
  pub ghost : Ghost
  -- what the crash invariant, the free locks, the handle of calls, and each thread own
  pub pool : Piece
  pub locks : ℕ → Piece
  pub handle : Piece
  pub owns : ℕ → Piece
  -- their sum fits; the crash invariant stands where it is shared, and what a free mutex guards
  pub base : Base o.proof s.world ghost ghost.mode Closed extra pool locks (λ e. handle e + of_threads s.threads owns e)
  -- each thread is ready to go on
  pub ready : (n : ℕ) (x : Role × Thread) → living s.threads (suc n) ≡ Some x → IsReady o s.world ghost.mode x.0 (owns n) x.1
  -- each write that has begun is some thread's
  pub written : (t : Target) → IsMarked s.world t → IsWritten s.threads t
  -- until recovery shares it is alone
  pub settled : ghost.mode ≢ Sharing
  pub alone : ghost.mode ≡ Owned → IsAlone s.threads owns
  pub tells : Tells s ghost
  pub root : (receiver : List Val) → s.receiver ≡ Some receiver → IsHandle o receiver handle
  pub copied : (k : Kind) (key v : List Value) → is_persistent k ≡ false → handle (Have k key v) ≡ 0
  pub fault : s.fault ≡ None

abbrev pub Invariant : Outline → Run → Type 0
Invariant o s = InvariantBeside o s (λ e. 0)
