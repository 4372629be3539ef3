-- A call's frame begins above its caller's, and a new thread beside the one that starts it.
use Rattle.std.proofs.Common.{◌≡◌, ◌≢◌, ℕ, zero, suc, ◌+◌, ◌<◌, ◌≤◌, Bool, true, false, List, [], ◌∷◌, ◌++◌, map, length, Option, Some, None, refl, sym, ap, subst, ◌∙◌, arith}
use Rattle.std.specs.Prelude.{slice_get}
use Rattle.gv_base.specs.declared.answer.Answer.{Answer}
use Rattle.gv_base.specs.declared.answer.Answer.TheVariants.{Next, Blocked, Undefined}
use Rattle.gv_terms.specs.declared.value.Env.{Env}
use Rattle.gv_terms.specs.declared.value.Value.{Value}
use Rattle.gv_world.specs.Store.{Store as World}
use Rattle.gv_lang.specs.Step.{Stepped, GoesOn, stepped}
use Rattle.gv_lang.specs.Threads.{Frame, Thread, thread_of}
use Rattle.gv_spec.specs.Runs as runs
use Rattle.gv_spec.specs.Runs.{Role, living, replaced, step_taken}
use Rattle.gv_runs.specs.Machine.{machine_of, left_by}
use Rattle.gv_resources.specs.Kinds as kind
use Rattle.gv_resources.specs.Ghost.{Ghost, Mode, Owned, Sharing, Shared}
use Rattle.gv_resources.specs.Pieces.{Resource, Have, Piece, Fits}
use Rattle.gv_resources.proofs.Fitting.{fits_less}
use Rattle.gv_seats.proofs.Owning.{owned_more}
use Rattle.gv_instances.specs.Instances.{Given, given_under}
use Rattle.gv_instances.specs.Agreeing.{AgreeOnVars}
use Rattle.gv_seats.specs.Paths as paths
use Rattle.gv_seats.specs.Paths.{Path, Procedure, Closed}
use Rattle.gv_seats.specs.Seats.{Seat, Pair, IsMarked, Target}
use Rattle.gv_seats.specs.Soundness as sound
use Rattle.gv_seats.specs.Soundness.{Calls, Spawns, IsSoundAnswer}
use Rattle.gv_invariant.specs.Outlines.{Outline, Leads, MayLeaveClosed, IsCall, IsBeside}
use Rattle.gv_invariant.specs.Stacks.{Waits, Below, first, waits, Stack, IsReady, at_rest}
use Rattle.gv_invariant.specs.Invariant.{Run, badge_of, Tells, InvariantBeside, Invariant}
use Rattle.gv_invariant.specs.Justified.{IsJustified}
use Rattle.gv_invariant.specs.Laws.{Keeps, goes_on}
use Rattle.gv_invariant.proofs.Adding.{added}
use Rattle.gv_invariant.proofs.Frames.{thread, call_made, results_kept_spawning}
use Rattle.gv_invariant.proofs.Held.{Held}
use Rattle.gv_invariant.proofs.Stepping.{whose, rest, Turn, gone, marks_on, marked_then, others_own, at_rest_again, at_rest_ghost, none_started}

module _ (o : Outline) (s : Run) (i : Invariant o s) (n : ℕ) (role : Role) (f : Frame) (below : List Frame) (is : living s.threads (suc n) ≡ Some (role, thread f below false)) where
  abbrev around : Piece → Piece
  around lower = rest o s i n role f below false is lower

  no_truth : {A : Type 0} → false ≡ true → A
  no_truth e = absurd cc

  module _ (extra : ℕ) (h : Path) (start : Env) (lower : Piece) (j : IsJustified o) (x : Turn o s i n role f below false is s.world f below h start lower) (may : MayLeaveClosed o h) where
    serves_only : paths.Serves ≡ paths.Recovers → ⊥
    serves_only e = cc

    -- ---- a call

    entered : (waiting callee behind : Path) (given : List Given) (xs : List ℕ) → IsCall o h waiting callee behind given xs → Leads o false callee → Leads o true behind
        → (w : World) (caller new : Frame) (values : Env)
        → (pair : Pair o.proof w x.g start caller waiting values new callee (around lower)) → AgreeOnVars values (given_under given pair.env) callee.procedure.start
        → stepped o.program extra (thread f below false) s.world ≡ Next (GoesOn w (thread new (caller ∷ below) false) [])
        → Invariant o (gone o s i n role f below false is w (thread new (caller ∷ below) false))
    entered waiting callee behind given xs call callee_leads behind_leads w caller new values pair agree made =
        let g = x.g in
        let frames = call_made o.program extra f below s.world xs call.f call.es call.place call.rest (x.seat.described.todo ∙ call.todo) w caller new made in
        let mode_is : g.mode ≡ callee.mode = x.seat.base.mode ∙ sym call.mode in
        let waiting_mode : waiting.mode ≡ g.mode = call.waits.mode ∙ sym x.seat.base.mode in
        let under : Piece = λ e. pair.piece e + lower e in
        let wa : Waits o g.mode caller start callee.procedure values new.results pair.piece = record {
          waiting = waiting;
          behind = behind;
          env = pair.env;
          given = given;
          described = pair.described;
          linked = agree;
          answers = subst (λ t. IsSoundAnswer o.proof waiting given callee.procedure t behind) (sym frames.targets) call.answers;
          bracket = call.waits.bracket;
          in_mode = waiting_mode;
          follows = record { mode = call.follows.mode ∙ sym call.waits.mode; bracket = call.follows.bracket; procedure = call.follows.procedure ∙ sym call.waits.procedure };
          meanwhile = λ owned. call.meanwhile (sym x.seat.base.mode ∙ owned);
          leads = behind_leads;
        } in
        let more : Below o g.mode role below waiting.procedure start caller.results lower = subst (λ t. Below o g.mode role below waiting.procedure start t lower) (sym frames.results)
        (subst (λ (p : Procedure). Below o g.mode role below p start f.results lower) (sym call.waits.procedure) x.waiting) in
        let step_left : Stepped = GoesOn w (thread new (caller ∷ below) false) [] in
        let held : Held o s w role new (caller ∷ below) callee values under (around under) i.ghost.mode = record {
          g = g;
          tells = x.tells;
          seat = record {
            env = pair.other_env;
            piece = pair.other_piece;
            pool = pair.pool;
            locks = pair.locks;
            described = pair.beside;
            base = record {
              fits = fits_less (λ e. omega arith) pair.base.fits;
              mode = mode_is;
              crash = λ shared closed. pair.base.crash (waiting_mode ∙ mode_is ∙ shared) call.waits.bracket;
              free = pair.base.free;
              consistent = pair.base.consistent;
            };
            still = λ t m. (let wr = marked_then o s i n role f below false is extra step_left refl made refl t m in others_own o s i n role f below false is under t wr.0 wr.1);
          };
          waiting = waits start pair.piece lower (λ e. omega arith) call.role wa more;
          shared = x.shared;
          quiet = λ recovers. absurd (serves_only (sym call.role ∙ recovers));
        } in
        none_started o s i n role f below false is w (thread new (caller ∷ below) false)
        (at_rest_again o s i n role f below false is w new (caller ∷ below) callee values under (around under) (λ e. 0) false (λ e. omega arith) held call.bracket
        (λ e. may.mode (sym call.mode ∙ e)) callee_leads
        (marks_on o s i n role f below false is extra step_left (Some (role, thread new (caller ∷ below) false)) made (λ t m begun. no_truth begun) (λ t begun. no_truth begun)))

    pub call_kept : (waiting callee behind : Path) (given : List Given) (xs : List ℕ) → IsCall o h waiting callee behind given xs → Leads o false callee → Leads o true behind
        → (answer : Answer Stepped) → stepped o.program extra (thread f below false) s.world ≡ answer → Calls o.proof x.g start below waiting callee given (around lower) answer
        → Keeps o (step_taken (machine_of o.program o.setting) s (suc n) role (left_by answer))
    call_kept waiting callee behind given xs call callee_leads behind_leads _ made (sound.calls {w = w} {caller = caller} {new = new} {values = values} pair agree) =
        goes_on (entered waiting callee behind given xs call callee_leads behind_leads w caller new values pair agree made)

    -- ---- a new thread

    spawned : (k callee : Path) (given : List Given) → h.mode ≡ Shared → IsBeside h k → callee.procedure.role ≡ paths.Serves → callee.mode ≡ Shared → callee.bracket ≡ Closed → Leads o false callee
        → Leads o true k → (w : World) (g new : Frame) (values : Env) → Pair o.proof w x.g start g k values new callee (around lower)
        → stepped o.program extra (thread f below false) s.world ≡ Next (GoesOn w (thread g below false) (thread_of new ∷ []))
        → Invariant o (record s { world = w; threads = replaced s.threads (suc n) (Some (role, thread g below false)) ++ Some (runs.Spawned, thread_of new) ∷ [] })
    spawned k callee given shared beside serves callee_mode callee_closed callee_leads leads w g new values pair made =
        let ghost = x.g in
        let results = results_kept_spawning o.program extra f below false s.world w g (thread_of new) made in
        let mode_is : ghost.mode ≡ k.mode = x.seat.base.mode ∙ sym beside.mode in
        let ghost_shared : ghost.mode ≡ Shared = x.seat.base.mode ∙ shared in
        let step_left : Stepped = GoesOn w (thread g below false) (thread_of new ∷ []) in
        let more : Piece = λ e. pair.other_piece e + around lower e in
        let held : Held o s w role g below k start lower more i.ghost.mode = record {
          g = ghost;
          tells = x.tells;
          seat = record {
            env = pair.env;
            piece = pair.piece;
            pool = pair.pool;
            locks = pair.locks;
            described = pair.described;
            base = record {
              fits = fits_less (λ e. omega arith) pair.base.fits;
              mode = mode_is;
              crash = pair.base.crash;
              free = pair.base.free;
              consistent = pair.base.consistent;
            };
            still = λ t m. owned_more (around lower) more (λ e. omega arith) t (let wr = marked_then o s i n role f below false is extra step_left refl made refl t m in others_own o s i n role f below false is lower t wr.0 wr.1);
          };
          waiting = subst (λ (p : Procedure). Below o ghost.mode role below p start g.results lower) (sym beside.procedure)
              (subst (λ t. Below o ghost.mode role below h.procedure start t lower) (sym results) x.waiting);
          shared = x.shared;
          quiet = λ recovers owned. absurd (not_owned (sym ghost_shared ∙ owned));
        } in
        let le : (e : Resource) → (pair.other_piece e + badge_of runs.Spawned e) + rest o s i n role f below false is lower e ≤ more e = λ e. omega arith in
        let not_sharing : k.mode ≢ Sharing = λ e. may.mode (sym beside.mode ∙ e) in
        let marks = marks_on o s i n role f below false is extra step_left (Some (role, thread g below false)) made (λ t m begun. no_truth begun) (λ t begun. no_truth begun) in
        let kept = at_rest_again o s i n role f below false is w g below k start lower more (λ e. pair.other_piece e + badge_of runs.Spawned e) true le held beside.bracket not_sharing leads marks in
        let same_ghost = at_rest_ghost o s i n role f below false is w g below k start lower more (λ e. pair.other_piece e + badge_of runs.Spawned e) true le held beside.bracket not_sharing leads marks in
        let kept_shared : kept.ghost.mode ≡ Shared = ap (λ (q : Ghost). q.mode) same_ghost ∙ ghost_shared in
        added o (record s { world = w; threads = replaced s.threads (suc n) (Some (role, thread g below false)) }) runs.Spawned pair.other_piece kept kept_shared (thread_of new)
        (at_rest false callee (record {
          start = values;
          env = pair.other_env;
          mine = pair.other_piece;
          lower = λ e. 0;
          parts = λ e. omega arith;
          bracket = callee_closed;
          in_mode = callee_mode ∙ sym kept_shared;
          described = pair.beside;
          rest = first (serves, kept_shared);
        }) callee_leads)
      where
        not_owned : Shared ≡ Owned → ⊥
        not_owned e = cc

    pub spawn_kept : (k callee : Path) (given : List Given) → h.mode ≡ Shared → IsBeside h k → callee.procedure.role ≡ paths.Serves → callee.mode ≡ Shared → callee.bracket ≡ Closed → Leads o false callee
        → Leads o true k → (answer : Answer Stepped) → stepped o.program extra (thread f below false) s.world ≡ answer → Spawns o.proof x.g start below k callee given x.seat.env (around lower) answer
        → Keeps o (step_taken (machine_of o.program o.setting) s (suc n) role (left_by answer))
    spawn_kept k callee given shared beside serves callee_mode callee_closed callee_leads leads _ made (sound.spawns {w = w} {f = g} {new = new} {values = values} agree pair) =
        goes_on (spawned k callee given shared beside serves callee_mode callee_closed callee_leads leads w g new values pair made)
