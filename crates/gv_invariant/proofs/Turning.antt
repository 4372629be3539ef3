-- Whatever a thread does next, its step keeps the invariant.
use Rattle.std.proofs.Common.{◌≡◌, ◌≢◌, ℕ, zero, suc, Bool, true, false, List, [], ◌∷◌, Option, Some, None, refl, sym, ap, subst, ◌∙◌}
use Rattle.gv_base.specs.declared.answer.Answer.{Answer}
use Rattle.gv_terms.specs.declared.value.Env.{Env}
use Rattle.gv_lang.specs.Step.{stepped}
use Rattle.gv_lang.specs.Threads.{Frame, Thread}
use Rattle.gv_spec.specs.Runs as runs
use Rattle.gv_spec.specs.Runs.{Role, living, step_taken, step_made, unless_undefined}
use Rattle.gv_runs.specs.Machine.{machine_of, left_by}
use Rattle.gv_resources.specs.Pieces.{Piece}
use Rattle.gv_seats.specs.Paths as paths
use Rattle.gv_seats.specs.Paths.{Path, Procedure}
use Rattle.gv_invariant.specs.Outlines.{Outline, HandsOver}
use Rattle.gv_invariant.specs.Stacks.{Begins, Below, first, waits, IsReady, at_rest, in_write}
use Rattle.gv_invariant.specs.Invariant.{Run, Invariant}
use Rattle.gv_invariant.specs.Justified.{IsJustified}
use Rattle.gv_invariant.specs.Laws.{Keeps, StepLaw}
use Rattle.gv_invariant.specs.Laws as laws
use Rattle.gv_invariant.proofs.Frames.{thread}
use Rattle.gv_invariant.proofs.Reaching.{AtStep, step_at, write_at, call_at, spawn_at, return_at, boot_at, to_step}
use Rattle.gv_invariant.proofs.Stepping.{rest, Turn, turn, around, goes_on_kept, write_kept, write_ends}
use Rattle.gv_invariant.proofs.Returning.{return_kept}
use Rattle.gv_invariant.proofs.Entering.{call_kept, spawn_kept}
use Rattle.gv_invariant.proofs.Booting.{boot_kept}

module _ (o : Outline) (s : Run) (i : Invariant o s) (j : IsJustified o) (extra : ℕ) where
  abbrev Kept : ℕ → Role → Thread → Type 0
  Kept n role th = Keeps o (step_taken (machine_of o.program o.setting) s (suc n) role (left_by (stepped o.program extra th s.world)))

  -- recovery's frame is the only one of its thread
  booted : (n : ℕ) (role : Role) (f : Frame) (below : List Frame) (is : living s.threads (suc n) ≡ Some (role, thread f below false)) (h : Path) (start : Env) (lower : Piece)
      → (x : Turn o s i n role f below false is s.world f below h start lower) → h.procedure.role ≡ paths.Recovers
      → ((is : living s.threads (suc n) ≡ Some (runs.Recovers, thread f [] false)) → Turn o s i n runs.Recovers f [] false is s.world f [] h start lower → Kept n runs.Recovers (thread f [] false))
      → Below o x.g.mode role below h.procedure start f.results lower → Kept n role (thread f below false)
  booted n role f _ is h start lower x recovers kept (first b) = at role b is x
    where
      operates : paths.Operates ≡ paths.Recovers → ⊥
      operates e = cc

      serves : paths.Serves ≡ paths.Recovers → ⊥
      serves e = cc

      at : (role : Role) → Begins o x.g.mode role h.procedure start → (is : living s.threads (suc n) ≡ Some (role, thread f [] false)) → Turn o s i n role f [] false is s.world f [] h start lower
          → Kept n role (thread f [] false)
      at runs.Recovers b is x = kept is x
      at (runs.Answers call) b is x = absurd (operates (sym b.0 ∙ recovers))
      at runs.Spawned b is x = absurd (serves (sym b.0 ∙ recovers))
  booted n role f _ is h start lower x recovers kept (waits from mine under parts serves wa more) = absurd (not_recovers (sym serves ∙ recovers))
    where
      not_recovers : paths.Serves ≡ paths.Recovers → ⊥
      not_recovers e = cc

  no_truth : {A : Type 0} → false ≡ true → A
  no_truth e = absurd cc

  next_step : (n : ℕ) (role : Role) (f : Frame) (below : List Frame) (is : living s.threads (suc n) ≡ Some (role, thread f below false)) (h : Path) (start : Env) (lower : Piece)
      → (x : Turn o s i n role f below false is s.world f below h start lower) → AtStep o h → Kept n role (thread f below false)
  next_step n role f below is h start lower x (step_at c ks may sound follow) =
      goes_on_kept o s i n role f below false is extra h ks start lower (c x.seat.env) x.g (around o s i n role f below false is h start lower x) may.bracket may.mode follow (λ t own begun. no_truth begun)
      (stepped o.program extra (thread f below false) s.world) refl (sound o.program extra s.world x.g start f below (rest o s i n role f below false is lower) x.seat)
  next_step n role f below is h start lower x (write_at ks may sound follow) =
      write_kept o s i n role f below false is extra h ks start lower x.g (around o s i n role f below false is h start lower x) refl may sound follow
      (stepped o.program extra (thread f below false) s.world) refl (sound.begin o.program extra s.world x.g start f below (rest o s i n role f below false is lower) x.seat)
  next_step n role f below is h start lower x (call_at waiting callee behind given xs b may call block leads) =
      call_kept o s i n role f below is extra h start lower j x may waiting callee behind given xs call (j.blocks b callee block) leads
      (stepped o.program extra (thread f below false) s.world) refl (call.enters extra s.world x.g start f below (rest o s i n role f below false is lower) x.seat)
  next_step n role f below is h start lower x (spawn_at k callee given b may shared sound beside serves mode bracket block leads) =
      spawn_kept o s i n role f below is extra h start lower j x may k callee given shared beside serves mode bracket (j.blocks b callee block) leads
      (stepped o.program extra (thread f below false) s.world) refl (sound extra s.world x.g start f below (rest o s i n role f below false is lower) x.seat)
  next_step n role f below is h start lower x (return_at may not_recovers sound) =
      return_kept o s i n role f below is extra h start lower j x may not_recovers
      (stepped o.program extra (thread f below false) s.world) refl (sound o.program extra s.world x.g start f below (rest o s i n role f below false is lower) x.seat)
  next_step n role f below is h start lower x (boot_at e place next choices k todo shared opened recovers sound hands) =
      booted n role f below is h start lower x recovers (λ is_now y. boot_kept o s i n f is_now j extra h start lower y e place next choices k todo shared sound hands) x.waiting

  of_thread : (n : ℕ) (role : Role) (th : Thread) → living s.threads (suc n) ≡ Some (role, th) → IsReady o s.world i.ghost.mode role (i.owns n) th → Kept n role th
  of_thread n role _ is (at_rest {f = f} {below = below} b h st leads) =
      let (lower, x) = turn o s i n role f below false is refl h st in
      let r = to_step o s s.world role f below st.start lower (rest o s i n role f below false is lower) i.ghost.mode b h j leads x in
      next_step n role f below is r.path st.start lower r.held r.step
  of_thread n role _ is (in_write {f = f} {below = below} h ks st may sound follow mine room) = write_ends o s i n role f below true is extra h ks st refl may sound follow mine room

pub step_law : StepLaw
step_law o s j i number extra = subst (λ f. Keeps o (unless_undefined f (step_made (machine_of o.program o.setting) s number extra (living s.threads number)))) (sym i.fault) (at number)
  where
    thread_at : (n : ℕ) (found : Option (Role × Thread)) → living s.threads (suc n) ≡ found → Keeps o (step_made (machine_of o.program o.setting) s (suc n) extra found)
    thread_at n None is = laws.waits
    thread_at n (Some x) is = of_thread o s i j extra n x.0 x.1 is (i.ready n x is)

    at : (number : ℕ) → Keeps o (step_made (machine_of o.program o.setting) s number extra (living s.threads number))
    at zero = laws.waits
    at (suc n) = thread_at n (living s.threads (suc n)) refl
