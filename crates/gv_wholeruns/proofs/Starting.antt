-- A call that starts: its thread is one more, with a token, a badge, the buffers of its arguments and the handle.
use Rattle.std.proofs.Common.{◌≡◌, ◌≢◌, ℕ, zero, suc, ◌+◌, ◌<◌, ◌≤◌, Bool, true, false, List, [], ◌∷◌, ◌++◌, length, Option, Some, None, refl, sym, ap, subst, ◌∙◌, arith}
use Rattle.std.specs.Prelude.{slice_get, option_map, option_and_then, is_some}
use Rattle.gv_base.specs.declared.answer.Answer.TheVariants.{Next}
use Rattle.gv_base.specs.declared.val.Val.{Val}
use Rattle.gv_base.specs.declared.val.Val.TheVariants as stored
use Rattle.gv_terms.specs.declared.value.Value.{Value}
use Rattle.gv_terms.specs.declared.value.Value.TheVariants as val
use Rattle.gv_world.specs.Store.{Store as World}
use Rattle.gv_lang.specs.Calls.{Given, all_placed, started, started_in, called}
use Rattle.gv_lang.specs.Threads.{Frame, Thread, new_frame, thread_of}
use Rattle.gv_lang.specs.Tree.{Proc}
use Rattle.gv_spec.specs.Entry as entry
use Rattle.gv_spec.specs.Entry.{Entry}
use Rattle.gv_spec.specs.Event as event
use Rattle.gv_spec.specs.Runs.{Role, Answers, living, call_made, call_started, unless_undefined}
use Rattle.gv_runs.specs.Machine.{machine_of, call_of, all_given, procedure}
use Rattle.gv_resources.specs.Kinds as kind
use Rattle.gv_resources.specs.Kinds.{Kind, is_persistent, most}
use Rattle.gv_resources.specs.Ghost.{Ghost, Mode, Owned, Sharing, Shared}
use Rattle.gv_resources.specs.Pieces.{Resource, Have, Piece, Telling, Fits, single}
use Rattle.gv_resources.specs.Told.{told}
use Rattle.gv_resources.proofs.Equality.{single_same}
use Rattle.gv_resources.proofs.Fitting.{fits_less}
use Rattle.gv_seats.specs.Seats.{shape_of, Target, IsMarked, of_locks}
use Rattle.gv_invariant.specs.Outlines.{Outline}
use Rattle.gv_invariant.specs.Stacks.{first, IsReady, at_rest}
use Rattle.gv_invariant.specs.Invariant.{Run, badge_of, of_threads, IsHandle, InvariantBeside, Invariant}
use Rattle.gv_invariant.specs.Justified.{IsJustified, HasCall, BeginsCall}
use Rattle.gv_invariant.specs.Laws.{Keeps, waits, goes_on}
use Rattle.gv_invariant.proofs.Adding.{added}
use Rattle.gv_invariant.proofs.Calling.{called_from, consistent_now, fits_called}
use Rattle.gv_invariant.proofs.Sums.{threads_split}
use Rattle.gv_invariant.proofs.Rebuild.{ready_again}
use Rattle.gv_wholeruns.specs.Laws.{CallLaw}
use Rattle.gv_wholeruns.proofs.Placing.{Placed, placing}

-- ---- what may be copied fits once more

persistent_or_bounded : (k : Kind) (n : ℕ) → most k ≡ Some n → is_persistent k ≡ false
persistent_or_bounded kind.FrozenCell n e = absurd cc
persistent_or_bounded kind.FrozenItem n e = absurd cc
persistent_or_bounded kind.Lock n e = absurd cc
persistent_or_bounded kind.Down n e = absurd cc
persistent_or_bounded _ n e = refl

fits_copied : {p q : Piece} {tells : Telling} (copy : Piece) → Fits p tells → ((e : Resource) → copy e ≤ p e) → ((k : Kind) (key v : List Value) → is_persistent k ≡ false → copy (Have k key v) ≡ 0)
    → ((e : Resource) → q e ≤ p e + copy e) → Fits q tells
fits_copied {p} {q} copy fits less persistent le = record {
  says = λ k key v owned. fits.says k key v (let a = le (Have k key v) in let b = less (Have k key v) in omega arith);
  few = λ k key v n is. (let a = le (Have k key v) in let b = persistent k key v (persistent_or_bounded k n is) in let c = fits.few k key v n is in omega arith);
}

module _ (o : Outline) (s : Run) (j : IsJustified o) (i : Invariant o s) (op : ℕ) (args : List Value) (receiver : List Val) (here : s.receiver ≡ Some receiver) (allowed : o.proof.atomic.allows op args ≡ true) where
  shared : i.ghost.mode ≡ Shared
  shared = i.tells.shared (i.tells.booted ∙ ap is_some here)

  handle : IsHandle o receiver i.handle
  handle = i.root receiver here

  module _ (later : World) (vs : List Val) (f : ℕ) (proc : Proc) (procedure_is : procedure o.program o.setting op ≡ Some f) (there : slice_get o.program.procs f ≡ Some proc)
      (x : Placed o.proof s.world i.ghost i.ghost.mode (λ e. 0) i.pool (λ e. i.handle e + of_threads s.threads i.owns e) args vs later) where
    abbrev placed_ghost : Ghost
    placed_ghost = record i.ghost { sliced = x.sliced }

    abbrev now : Ghost
    now = called_from placed_ghost op args

    abbrev call : ℕ
    call = suc i.ghost.calls

    abbrev token : Piece
    token = single (Have kind.Token (val.Call call ∷ []) (val.Word op ∷ args))

    abbrev badge : Piece
    badge = single (Have kind.OpenCall (val.Call call ∷ []) [])

    -- what the new thread owns
    abbrev mine : Piece
    mine e = i.handle e + (token e + x.buffers e)

    abbrev others : Piece
    others e = i.handle e + of_threads s.threads i.owns e

    abbrev top : Frame
    top = new_frame f proc (stored.Ref handle.object ∷ vs) []

    -- the state with the arguments and the call's entry, and no thread more yet
    abbrev entered : Run
    entered = record s { world = later; calls = call; history = s.history ++ entry.Call call op args ∷ [] }

    all_fits : Fits (λ e. (mine e + badge e) + (i.pool e + (of_locks later x.locks e + others e))) (told (shape_of o.proof) later now)
    all_fits =
        fits_called o.proof later placed_ghost op args x.base.consistent allowed (λ e. ((0 + x.buffers e) + (i.pool e + (of_locks later x.locks e + others e))) + i.handle e)
        (λ e. (mine e + badge e) + (i.pool e + (of_locks later x.locks e + others e)))
        (fits_copied i.handle x.base.fits (λ e. omega arith) i.copied (λ e. omega arith))
        (λ e. omega arith)

    begins : BeginsCall o op call top mine
    begins = j.calls op call handle.object f proc args vs mine allowed procedure_is there (record {
      handle = i.handle;
      token = token;
      buffers = x.buffers;
      parts = λ e. refl;
      stands = handle.stands;
      may_act = (let one = single_same (Have kind.Token (val.Call call ∷ []) (val.Word op ∷ args)) in omega arith);
      arguments = x.arguments;
    })

    old_fits : (n : ℕ) (y : Role × Thread) → living s.threads (suc n) ≡ Some y → Fits (i.owns n) (told (shape_of o.proof) s.world i.ghost)
    old_fits n y lives = fits_less (λ e. let a = threads_split s.threads i.owns n y e lives in omega arith) i.base.fits

    new_fits : (n : ℕ) (y : Role × Thread) → living s.threads (suc n) ≡ Some y → Fits (i.owns n) (told (shape_of o.proof) later now)
    new_fits n y lives = fits_less (λ e. let a = threads_split s.threads i.owns n y e lives in omega arith) all_fits

    beside : InvariantBeside o entered (λ e. mine e + badge_of (Answers call) e)
    beside = record {
      ghost = now;
      pool = i.pool;
      locks = x.locks;
      handle = i.handle;
      owns = i.owns;
      base = record {
        fits = all_fits;
        mode = refl;
        crash = x.base.crash;
        free = x.base.free;
        consistent = consistent_now o.proof later placed_ghost op args x.base.consistent allowed;
      };
      ready = λ n y lives. ready_again o s.world later i.ghost now i.ghost.mode y.0 (i.owns n) (i.owns n) y.1 (λ e. omega arith) (old_fits n y lives) (new_fits n y lives) (i.ready n y lives);
      written = λ t m. i.written t (x.marks t m);
      settled = i.settled;
      alone = λ owned. absurd (not_owned (sym shared ∙ owned));
      tells = record {
        history = ap (λ (es : List (Entry Value)). es ++ entry.Call call op args ∷ []) i.tells.history;
        calls = refl;
        booted = i.tells.booted;
        since = λ booted. absurd (differ (sym (i.tells.booted ∙ ap is_some here) ∙ booted));
        gone = λ booted. absurd (differ (sym (i.tells.booted ∙ ap is_some here) ∙ booted));
        shared = i.tells.shared;
      };
      root = i.root;
      copied = i.copied;
      fault = i.fault;
    }
      where
        not_owned : Shared ≡ Owned → ⊥
        not_owned e = cc

        differ : true ≡ false → ⊥
        differ e = cc

    ready : IsReady o later now.mode (Answers call) mine (thread_of top)
    ready = at_rest false begins.path (record {
      start = begins.values;
      env = begins.values;
      mine = mine;
      lower = λ e. 0;
      parts = λ e. omega arith;
      bracket = (j.operation op begins.path begins.is).2;
      in_mode = (j.operation op begins.path begins.is).1 ∙ sym shared;
      described = begins.described;
      rest = first ((j.operation op begins.path begins.is).0, shared, begins.is_call, record { op = op; path = begins.path; there = begins.is; is = refl });
    }) (j.operates op begins.path begins.is)

    pub kept : Keeps o (call_started s op args (Some (later, thread_of (new_frame f proc (receiver ++ vs) []))))
    unfolding beside
    kept = subst (λ (r : List Val). Keeps o (call_started s op args (Some (later, thread_of (new_frame f proc (r ++ vs) []))))) (sym handle.is)
        (subst (λ k. Keeps o (Next (record s { world = later; threads = s.threads ++ Some (Answers (suc k), thread_of top) ∷ []; calls = suc k; history = s.history ++ entry.Call (suc k) op args ∷ [] })))
        i.tells.calls (goes_on (added o entered (Answers call) mine beside shared (thread_of top) ready)))

  -- ---- what becomes of the call

  of_procedure : (later : World) (vs : List Val) (f : ℕ) → procedure o.program o.setting op ≡ Some f
      → Placed o.proof s.world i.ghost i.ghost.mode (λ e. 0) i.pool (λ e. i.handle e + of_threads s.threads i.owns e) args vs later
      → Keeps o (call_started s op args (started_in o.program f receiver (later, vs)))
  of_procedure later vs f is x = at (slice_get o.program.procs f) refl
    where
      at : (found : Option Proc) → slice_get o.program.procs f ≡ found → Keeps o (call_started s op args (option_map (λ (th : Thread). (later, th)) (option_map (λ p. thread_of (new_frame f p (receiver ++ vs) [])) found)))
      at None there = waits
      at (Some proc) there = kept later vs f proc is there x

  of_givens : (f : ℕ) → procedure o.program o.setting op ≡ Some f → (givens : List Given) → all_given args ≡ Some givens → Keeps o (call_started s op args (called o.program f receiver givens s.world))
  of_givens f is givens given_is = at (all_placed s.world givens) refl
    where
      at : (found : Option (World × List Val)) → all_placed s.world givens ≡ found → Keeps o (call_started s op args (option_and_then (λ found. started_in o.program f receiver found) found))
      at None placed_is = waits
      at (Some (later, vs)) placed_is = of_procedure later vs f is
          (placing o.proof i.ghost.mode i.pool (λ e. i.handle e + of_threads s.threads i.owns e) args givens s.world later i.ghost (λ e. 0) i.locks vs given_is placed_is i.base)

  pub call_kept : Keeps o (call_started s op args (call_of o.program o.setting receiver op args s.world))
  call_kept = at (procedure o.program o.setting op) refl
    where
      with_givens : (f : ℕ) → procedure o.program o.setting op ≡ Some f → (found : Option (List Given)) → all_given args ≡ found
          → Keeps o (call_started s op args (option_and_then (λ givens. called o.program f receiver givens s.world) found))
      with_givens f is None given_is = waits
      with_givens f is (Some givens) given_is = of_givens f is givens given_is

      at : (found : Option ℕ) → procedure o.program o.setting op ≡ found
          → Keeps o (call_started s op args (option_and_then (λ f. option_and_then (λ givens. called o.program f receiver givens s.world) (all_given args)) found))
      at None is = waits
      at (Some f) is = with_givens f is (all_given args) refl

pub call_law : CallLaw
call_law o s j i op args = subst (λ f. Keeps o (unless_undefined f (call_made (machine_of o.program o.setting) s op args s.receiver (o.proof.atomic.allows op args)))) (sym i.fault)
    (at s.receiver refl (o.proof.atomic.allows op args) refl)
  where
    at : (found : Option (List Val)) → s.receiver ≡ found → (test : Bool) → o.proof.atomic.allows op args ≡ test → Keeps o (call_made (machine_of o.program o.setting) s op args found test)
    at None here test allowed = waits
    at (Some receiver) here false allowed = waits
    at (Some receiver) here true allowed = call_kept o s j i op args receiver here allowed
