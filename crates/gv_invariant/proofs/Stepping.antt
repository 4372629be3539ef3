-- A step of one thread keeps the invariant.
use Rattle.std.proofs.Common.{◌≡◌, ◌≢◌, ◌⊎◌, ℕ, zero, suc, ◌+◌, ◌<◌, ◌≤◌, Bool, true, false, List, [], ◌∷◌, ◌++◌, map, length, Option, Some, None, refl, sym, ap, subst, ◌∙◌, inl, inr, arith}
use Rattle.std.specs.Prelude.{slice_get}
use Rattle.gv_base.specs.declared.answer.Answer.{Answer}
use Rattle.gv_base.specs.declared.answer.Answer.TheVariants.{Next, Blocked, Undefined}
use Rattle.gv_base.specs.declared.val.Val.{Val}
use Rattle.gv_terms.specs.declared.value.Env.{Env}
use Rattle.gv_terms.specs.declared.value.Value.{Value}
use Rattle.gv_world.specs.Store.{Store as World}
use Rattle.gv_lang.specs.Step as step
use Rattle.gv_lang.specs.Step.{Stepped, GoesOn, stepped}
use Rattle.gv_lang.specs.Threads.{Frame, Thread}
use Rattle.gv_spec.specs.Runs as runs
use Rattle.gv_spec.specs.Runs.{Role, Recovers, Answers, Spawned, living, replaced, step_taken}
use Rattle.gv_resources.specs.Kinds as kind
use Rattle.gv_resources.specs.Kinds.{Kind, is_persistent}
use Rattle.gv_resources.specs.Ghost.{Ghost, Mode, Owned, Sharing, Shared}
use Rattle.gv_resources.specs.Pieces.{Resource, Have, Piece, Fits, sum_below, single}
use Rattle.gv_resources.specs.Told.{told}
use Rattle.gv_resources.proofs.Equality.{single_test}
use Rattle.gv_resources.proofs.Fitting.{fits_less}
use Rattle.gv_resources.proofs.Sums.{number_test, sum_agree, sum_zero, changed, changed_there, changed_elsewhere}
use Rattle.gv_assertions.specs.Standing.{AreParts}
use Rattle.gv_seats.specs.Paths as paths
use Rattle.gv_seats.specs.Paths.{Path, Procedure, Bracket, Closed, Opened, Used, after_step}
use Rattle.gv_seats.specs.Seats.{Proof, shape_of, Base, Seat, BegunSeat, Target, IsMarked, Writes, OwnsTarget, AreOwned, of_locks}
use Rattle.gv_seats.specs.Changes.{Change, Changed, Nothing}
use Rattle.gv_seats.specs.Soundness.{Arrives, Goes, BeginsAt, IsSoundStep, IsSoundWrite}
use Rattle.gv_seats.specs.Soundness as sound
use Rattle.gv_seats.proofs.Owning.{owned_more, apart}
use Rattle.gv_marks.specs.Marks.{world_after, is_begun}
use Rattle.gv_marks.proofs.Commands.{marks_law}
use Rattle.gv_runs.specs.Machine.{machine_of, left_by}
use Rattle.gv_invariant.specs.Outlines.{Outline, Leads, AllFollow, none_follows, one_follows, MayLeave, MayLeaveClosed}
use Rattle.gv_invariant.specs.Stacks.{Below, first, waits, Stack, HasRoom, IsReady, at_rest, in_write}
use Rattle.gv_invariant.specs.Invariant.{Run, Threads, badge, badge_of, of_threads, IsWritten, Tells, InvariantBeside, Invariant}
use Rattle.gv_invariant.specs.Justified.{IsJustified}
use Rattle.gv_invariant.specs.Laws.{Keeps, goes_on}
use Rattle.gv_invariant.specs.Laws as laws
use Rattle.gv_invariant.proofs.Threads.{nothing_added}
use Rattle.gv_invariant.proofs.Sums.{share, of_others, threads_split, other_within}
use Rattle.gv_invariant.proofs.Rebuild.{beside, Elsewhere, Here, After, rebuilt, rebuilt_ghost, was_owned}
use Rattle.gv_invariant.proofs.Held.{Held, tells_on}
use Rattle.gv_invariant.proofs.Reaching.{to_closed, only_first}
use Rattle.gv_invariant.proofs.Frames.{thread, results_kept, top_kept}

-- ---- badges are no tokens

other_kind : (k : Kind) (key v other u : List Value) → k ≢ kind.Token → single (Have k key v) (Have kind.Token other u) ≡ 0
other_kind k key v other u ne = elim (single_test (Have k key v) (Have kind.Token other u)) [ inl (e, t) ↦ absurd (ne (cc)) | inr (e, t) ↦ t ]

pub badge_token : (role : Role) (key v : List Value) → badge_of role (Have kind.Token key v) ≡ 0
badge_token Recovers key v = other_kind kind.Recovering [] [] key v (λ e. cc)
badge_token (Answers call) key v = other_kind kind.OpenCall _ [] key v (λ e. cc)
badge_token Spawned key v = refl

badges_token : (x : Option (Role × Thread)) (key v : List Value) → badge x (Have kind.Token key v) ≡ 0
badges_token None key v = refl
badges_token (Some x) key v = badge_token x.0 key v

-- ---- what the frames below own

-- below recovery's frame there is nothing
pub record Lowered (o : Outline) (mode : Mode) (role : Role) (below : List Frame) (p : Procedure) (values : Env) (targets : List ℕ) (piece : Piece) : Type 0 where
  pub lower : Piece
  pub less : (e : Resource) → lower e ≤ piece e
  pub waiting : Below o mode role below p values targets lower
  pub none : p.role ≡ paths.Recovers → (e : Resource) → lower e ≡ 0

pub lowered : (o : Outline) (mode : Mode) (role : Role) (below : List Frame) (p : Procedure) (values : Env) (targets : List ℕ) (piece : Piece) → Below o mode role below p values targets piece
    → Lowered o mode role below p values targets piece
lowered o mode role _ p values targets piece (first b) = record { lower = λ e. 0; less = λ e. omega arith; waiting = first b; none = λ recovers e. refl }
lowered o mode role _ p values targets piece (waits start mine lower parts serves w more) =
    record { lower = piece; less = λ e. omega arith; waiting = waits start mine lower parts serves w more; none = λ recovers. absurd (differ (sym serves ∙ recovers)) }
  where
    differ : paths.Serves ≡ paths.Recovers → ⊥
    differ e = cc

-- ---- who writes owns what is marked

pub owner : (o : Outline) (w : World) (mode : Mode) (role : Role) (p : Piece) (th : Thread) → IsReady o w mode role p th → th.begun ≡ true → (t : Target) → Writes th.top t → OwnsTarget p t
owner o w mode role p _ (at_rest b h s leads) begun t writes = absurd cc
owner o w mode role p _ (in_write h ks s may sound follow mine room) begun t writes = owned_more s.mine p (λ e. let a = s.parts e in omega arith) t (mine t writes)

-- ---- one thread's turn

module _ (o : Outline) (s : Run) (i : Invariant o s) (n : ℕ) (role : Role) (f : Frame) (below : List Frame) (begun : Bool) (is : living s.threads (suc n) ≡ Some (role, thread f below begun)) where
  abbrev pub whose : Role × Thread
  whose = (role, thread f below begun)

  abbrev pub rest : Piece → Piece
  rest lower = beside i.handle lower role (of_others s.threads i.owns n)

  abbrev pub Turn : World → Frame → List Frame → Path → Env → Piece → Type 0
  Turn w g frames h start lower = Held o s w role g frames h start lower (rest lower) i.ghost.mode

  -- another's writes are of what the rest owns
  pub others_own : (lower : Piece) (t : Target) (m : IsWritten s.threads t) → m.place ≢ n → OwnsTarget (rest lower) t
  others_own lower t m ne =
      owned_more (i.owns m.place) (rest lower) (λ e. let a = other_within s.threads i.owns n m.place m.thread e ne m.is in omega arith) t
      (owner o s.world i.ghost.mode m.thread.0 (i.owns m.place) m.thread.1 (i.ready m.place m.thread m.is) m.begun t m.writes)

  same_thread : (x : Role × Thread) → living s.threads (suc n) ≡ Some x → x ≡ whose
  same_thread x e = let a : Some x ≡ Some whose = sym e ∙ is in cc

  pub own_begun : (t : Target) (m : IsWritten s.threads t) → m.place ≡ n → (begun ≡ true) × Writes f t
  own_begun t m same =
      let x_is : m.thread ≡ whose = same_thread m.thread (ap (λ k. living s.threads (suc k)) (sym same) ∙ m.is) in
      (sym (ap (λ (y : Role × Thread). y.1.begun) x_is) ∙ m.begun, subst (λ (y : Role × Thread). Writes y.1.top t) x_is m.writes)

  others_tokens : i.ghost.mode ≡ Owned → (key v : List Value) → of_others s.threads i.owns n (Have kind.Token key v) ≡ 0
  others_tokens owned key v =
      let alone = i.alone owned in
      let e = Have kind.Token key v in
      let place_is : n ≡ alone.place = alone.only n whose is in
      sum_agree (length s.threads) (changed (share s.threads i.owns e) n 0) (λ k. 0) (λ k l. elim (number_test k n) [
        | inl (same, t) ↦ ap (λ j. changed (share s.threads i.owns e) n 0 j) same ∙ changed_there (share s.threads i.owns e) n 0
        | inr (ne, t) ↦
            let a = changed_elsewhere (share s.threads i.owns e) n k 0 ne in
            let b = alone.none k e (λ q. ne (q ∙ sym place_is)) in
            let c = badges_token (living s.threads (suc k)) key v in
            omega arith
      ]) ∙ sum_zero (length s.threads)

  pub quiet_rest : (lower : Piece) → ((e : Resource) → lower e ≡ 0) → i.ghost.mode ≡ Owned → (key v : List Value) → rest lower (Have kind.Token key v) ≡ 0
  quiet_rest lower none owned key v =
      let a = i.copied kind.Token key v refl in
      let b = none (Have kind.Token key v) in
      let c = badge_token role key v in
      let d = others_tokens owned key v in
      omega arith

  -- what the frame's stack and the rest own fits
  pub base_at : (h : Path) (st : Stack o i.ghost.mode role f below h (i.owns n)) (lower : Piece) → ((e : Resource) → lower e ≤ st.lower e)
      → Base o.proof s.world i.ghost h.mode h.bracket st.mine i.pool i.locks (rest lower)
  base_at h st lower less = record {
    fits = fits_less (λ e. let a = threads_split s.threads i.owns n whose e is in let b = st.parts e in let c = less e in omega arith) i.base.fits;
    mode = sym st.in_mode;
    crash = λ shared closed. i.base.crash (sym st.in_mode ∙ shared) refl;
    free = i.base.free;
    consistent = i.base.consistent;
  }

  -- at rest the frame has its seat
  pub turn : begun ≡ false → (h : Path) (st : Stack o i.ghost.mode role f below h (i.owns n)) → (lower : Piece) × Turn s.world f below h st.start lower
  turn not_begun h st =
      let l = lowered o i.ghost.mode role below h.procedure st.start f.results st.lower st.rest in (
        l.lower,
        record {
          g = i.ghost;
          tells = i.tells;
          seat = record {
            env = st.env;
            piece = st.mine;
            pool = i.pool;
            locks = i.locks;
            described = st.described;
            base = base_at h st l.lower l.less;
            still = λ t m. (let wr = i.written t m in elim (number_test wr.place n) [
              | inl (same, q) ↦ absurd (never (sym not_begun ∙ (own_begun t wr same).0))
              | inr (ne, q) ↦ others_own l.lower t wr ne
            ]);
          };
          waiting = l.waiting;
          shared = λ e. e;
          quiet = λ recovers owned. quiet_rest l.lower (l.none recovers) owned;
        },
      )
    where
      never : false ≡ true → ⊥
      never e = cc

  -- ---- behind a step

  abbrev pub gone : World → Thread → Run
  gone w th = record s { world = w; threads = replaced s.threads (suc n) (Some (role, th)) ++ map (λ other. Some (Spawned, other)) [] }

  told_on : (w : World) (ts : Threads) (ghost : Ghost) → Tells s ghost → Tells (record s { world = w; threads = ts }) ghost
  told_on w ts ghost t = record { history = t.history; calls = t.calls; booted = t.booted; since = t.since; gone = t.gone; shared = t.shared }

  -- recovery's thread is recovery's still
  pub still_recovers : (ghost : Ghost) → (i.ghost.mode ≡ Shared → ghost.mode ≡ Shared) → ghost.mode ≡ Owned → role ≡ Recovers
  still_recovers ghost shared owned =
      let alone = i.alone (was_owned o s i n whose is ghost shared owned) in
      let same : (Recovers, alone.thread) ≡ whose = same_thread (Recovers, alone.thread) (ap (λ k. living s.threads (suc k)) (alone.only n whose is) ∙ alone.is) in
      ap (λ (x : Role × Thread). x.0) (sym same)

  -- marks behind a step of the thread: those of others, and what it has begun to write
  pub marks_on : (extra : ℕ) (after : Stepped) (y : Option (Role × Thread)) → stepped o.program extra (thread f below begun) s.world ≡ Next after
      → ((t : Target) → IsMarked (world_after after) t → begun ≡ true → Writes f t → Here o s i n whose is y t) → ((t : Target) → is_begun after ≡ true → Writes f t → Here o s i n whose is y t)
      → (t : Target) → IsMarked (world_after after) t → Elsewhere o s i n whose is t ⊎ Here o s i n whose is y t
  marks_on extra after y made own begins t m = elim (marks_law o.program extra (thread f below begun) s.world after made t m) [
    | inl before ↦ (let wr = i.written t before in elim (number_test wr.place n) [
      | inl (here, q) ↦ (let mine = own_begun t wr here in inr (own t m mine.0 mine.1))
      | inr (ne, q) ↦ inl (record { place = wr.place; thread = wr.thread; other = ne; there = wr.is; begun = wr.begun; writes = wr.writes })
    ])
    | inr (begun_now, writes) ↦ inr (begins t begun_now writes)
  ]

  -- what is marked behind a step that begins no write is another's
  pub marked_then : (extra : ℕ) (after : Stepped) → begun ≡ false → stepped o.program extra (thread f below begun) s.world ≡ Next after → is_begun after ≡ false → (t : Target)
      → IsMarked (world_after after) t → (wr : IsWritten s.threads t) × (wr.place ≢ n)
  marked_then extra after not_begun made no_more t m = elim (marks_law o.program extra (thread f below begun) s.world after made t m) [
    | inl before ↦ (let wr = i.written t before in (wr, λ same. (let mine = own_begun t wr same in let never : false ≡ true = sym not_begun ∙ mine.0 in cc)))
    | inr (begun_now, writes) ↦ (let never : false ≡ true = sym no_more ∙ begun_now in absurd cc)
  ]

  some_is : {A : Type 0} {a b : A} → Some a ≡ Some b → a ≡ b
  some_is e = cc

  no_truth : {A : Type 0} → false ≡ true → A
  no_truth e = absurd cc

  -- a frame that stands at a path behind a step is at rest there, beside what nobody has yet
  pub at_rest_again : (w : World) (g : Frame) (frames : List Frame) (h : Path) (start : Env) (lower beside_it extra : Piece) (b : Bool) → ((e : Resource) → extra e + rest lower e ≤ beside_it e)
      → (x : Held o s w role g frames h start lower beside_it i.ghost.mode) → h.bracket ≡ Closed → h.mode ≢ Sharing → Leads o b h
      → ((t : Target) → IsMarked w t → Elsewhere o s i n whose is t ⊎ Here o s i n whose is (Some (role, thread g frames false)) t)
      → InvariantBeside o (record s { world = w; threads = replaced s.threads (suc n) (Some (role, thread g frames false)) }) extra
  at_rest_again w g frames h start lower beside_it extra b le x closed not_sharing leads marks =
      rebuilt o s i n whose is (record s { world = w; threads = replaced s.threads (suc n) (Some (role, thread g frames false)) }) (Some (role, thread g frames false)) extra (record {
        threads = refl;
        g = x.g;
        piece = λ e. x.seat.piece e + lower e;
        pool = x.seat.pool;
        locks = x.seat.locks;
        handle = i.handle;
        base = record {
          fits = fits_less (λ e. let l = le e in omega arith) x.seat.base.fits;
          mode = refl;
          crash = λ shared c. x.seat.base.crash (sym x.seat.base.mode ∙ shared) closed;
          free = x.seat.base.free;
          consistent = x.seat.base.consistent;
        };
        ready = λ z here. subst (λ (y : Role × Thread). IsReady o w x.g.mode y.0 (λ e. x.seat.piece e + lower e) y.1) (some_is here)
            (at_rest b h (record {
              start = start;
              env = x.seat.env;
              mine = x.seat.piece;
              lower = lower;
              parts = λ e. omega arith;
              bracket = closed;
              in_mode = sym x.seat.base.mode;
              described = x.seat.described;
              rest = x.waiting;
            }) leads);
        mode = x.shared;
        settled = λ e. not_sharing (sym x.seat.base.mode ∙ e);
        recovers = λ owned. (thread g frames false, ap (λ r. Some (r, thread g frames false)) (still_recovers x.g x.shared owned));
        marks = marks;
        tells = told_on w (replaced s.threads (suc n) (Some (role, thread g frames false))) x.g x.tells;
        root = i.root;
        copied = i.copied;
        fault = i.fault;
      })

  pub at_rest_ghost : (w : World) (g : Frame) (frames : List Frame) (h : Path) (start : Env) (lower beside_it extra : Piece) (b : Bool) → (le : (e : Resource) → extra e + rest lower e ≤ beside_it e)
      → (x : Held o s w role g frames h start lower beside_it i.ghost.mode) → (closed : h.bracket ≡ Closed) → (not_sharing : h.mode ≢ Sharing) → (leads : Leads o b h)
      → (marks : (t : Target) → IsMarked w t → Elsewhere o s i n whose is t ⊎ Here o s i n whose is (Some (role, thread g frames false)) t)
      → (at_rest_again w g frames h start lower beside_it extra b le x closed not_sharing leads marks).ghost ≡ x.g
  unfolding at_rest_again
  at_rest_ghost w g frames h start lower beside_it extra b le x closed not_sharing leads marks = rebuilt_ghost o s i n whose is _ _ extra _

  -- with no thread that was started
  pub none_started : (w : World) (th : Thread) → Invariant o (record s { world = w; threads = replaced s.threads (suc n) (Some (role, th)) }) → Invariant o (gone w th)
  none_started w th inv = subst (λ ts. Invariant o (record s { world = w; threads = ts })) (sym (nothing_added (replaced s.threads (suc n) (Some (role, th))))) inv

  follow_at : (h : Path) (ks : List Path) → AllFollow o h ks → (place : ℕ) (k : Path) → slice_get ks place ≡ Some k → (k.mode ≡ h.mode) × (k.bracket ≡ after_step h.bracket) × Leads o true k
  follow_at h [] none_follows place k e = absurd cc
  follow_at h (j ∷ ks) (one_follows mode bracket leads more) zero k e =
      let same : j ≡ k = only_first j k ks e in subst (λ q. (q.mode ≡ h.mode) × (q.bracket ≡ after_step h.bracket) × Leads o true q) same (mode, bracket, leads)
  follow_at h (j ∷ ks) (one_follows mode bracket leads more) (suc place) k e = follow_at h ks more place k e

  behind : (b : Bracket) → b ≢ Used → (after_step b ≡ Closed) ⊎ (after_step b ≡ Used)
  behind Closed ne = inl refl
  behind Opened ne = inr refl
  behind Used ne = absurd (ne refl)

  -- what holds around a frame's seat
  pub record Around (ghost : Ghost) (h : Path) (start : Env) (lower : Piece) : Type 0 where
    pub tells : Tells s ghost
    pub mode : ghost.mode ≡ h.mode
    pub waiting : Below o ghost.mode role below h.procedure start f.results lower
    pub shared : i.ghost.mode ≡ Shared → ghost.mode ≡ Shared
    pub quiet : h.procedure.role ≡ paths.Recovers → ghost.mode ≡ Owned → (key v : List Value) → rest lower (Have kind.Token key v) ≡ 0

  pub around : (h : Path) (start : Env) (lower : Piece) (x : Turn s.world f below h start lower) → Around x.g h start lower
  around h start lower x = record { tells = x.tells; mode = x.seat.base.mode; waiting = x.waiting; shared = x.shared; quiet = x.quiet }

  -- the frame at the path behind, before its bracket is closed
  pub arrived_at : (w : World) (g : Frame) (h : Path) (ks : List Path) (start : Env) (lower : Piece) (c : Change) (ghost : Ghost) → Around ghost h start lower → g.results ≡ f.results
      → (a : Arrives o.proof w ghost start g h ks (rest lower) c) → a.path.mode ≡ h.mode → Turn w g below a.path start lower
  arrived_at w g h ks start lower c ghost x results a mode =
      let same_mode : a.after.mode ≡ ghost.mode = a.seat.base.mode ∙ mode ∙ sym x.mode in
      record {
        g = a.after;
        tells = tells_on s ghost a.after c a.changed (λ e. same_mode ∙ e) (λ e. same_mode ∙ e) x.tells;
        seat = a.seat;
        waiting = subst (λ m. Below o m role below a.path.procedure start g.results lower) (sym same_mode)
            (subst (λ p. Below o ghost.mode role below p start g.results lower) (sym a.procedure) (subst (λ t. Below o ghost.mode role below h.procedure start t lower) (sym results) x.waiting));
        shared = λ e. same_mode ∙ x.shared e;
        quiet = λ recovers owned. x.quiet (ap (λ p. p.role) (sym a.procedure) ∙ recovers) (sym same_mode ∙ owned);
      }

  -- a step that goes on in its frame, by a sound rule
  pub goes_kept : (extra : ℕ) (w : World) (g : Frame) (h : Path) (ks : List Path) (start : Env) (lower : Piece) (c : Change) (ghost : Ghost) → Around ghost h start lower
      → h.bracket ≢ Used → h.mode ≢ Sharing → Arrives o.proof w ghost start g h ks (rest lower) c → AllFollow o h ks
      → stepped o.program extra (thread f below begun) s.world ≡ Next (GoesOn w (thread g below false) [])
      → ((t : Target) → OwnsTarget (rest lower) t → begun ≡ true → Writes f t → ⊥) → Invariant o (gone w (thread g below false))
  goes_kept extra w g h ks start lower c ghost x usable not_sharing a follow made own =
      let (mode, bracket, leads) = follow_at h ks follow a.place a.path a.among in
      let results = results_kept o.program extra f below begun s.world w g false made in
      let held = arrived_at w g h ks start lower c ghost x results a mode in
      let z = to_closed o s w role g below start lower (rest lower) i.ghost.mode a.path leads (elim (behind h.bracket usable) [ inl e ↦ inl (bracket ∙ e) | inr e ↦ inr (bracket ∙ e) ]) held in
      none_started w (thread g below false) (at_rest_again w g below z.path start lower (rest lower) (λ e. 0) true (λ e. omega arith) z.held z.bracket
      (λ e. not_sharing (sym mode ∙ sym z.mode ∙ e)) z.leads
      (marks_on extra (GoesOn w (thread g below false) []) (Some (role, thread g below false)) made (λ t m begun_now writes. absurd (own t (a.seat.still t m) begun_now writes)) (λ t e. no_truth e)))

  -- whatever comes of such a step
  pub goes_on_kept : (extra : ℕ) (h : Path) (ks : List Path) (start : Env) (lower : Piece) (c : Change) (ghost : Ghost) → Around ghost h start lower → h.bracket ≢ Used → h.mode ≢ Sharing → AllFollow o h ks
      → ((t : Target) → OwnsTarget (rest lower) t → begun ≡ true → Writes f t → ⊥) → (answer : Answer Stepped) → stepped o.program extra (thread f below begun) s.world ≡ answer
      → Goes o.proof ghost start below h ks (rest lower) c answer → Keeps o (step_taken (machine_of o.program o.setting) s (suc n) role (left_by answer))
  goes_on_kept extra h ks start lower c ghost x usable not_sharing follow own _ made sound.waits = laws.waits
  goes_on_kept extra h ks start lower c ghost x usable not_sharing follow own _ made (sound.goes {w = w} {f = g} a) =
      goes_on (goes_kept extra w g h ks start lower c ghost x usable not_sharing a follow made own)

  -- ---- writes

  -- the first step of a write is done
  pub begins_kept : (extra : ℕ) (w : World) (g : Frame) (h : Path) (ks : List Path) (start : Env) (lower : Piece) (ghost : Ghost) → Around ghost h start lower → begun ≡ false
      → MayLeaveClosed o h → IsSoundWrite o.proof h ks → AllFollow o h ks → BegunSeat o.proof w ghost start g h (rest lower)
      → stepped o.program extra (thread f below begun) s.world ≡ Next (GoesOn w (thread g below true) []) → Invariant o (gone w (thread g below true))
  begins_kept extra w g h ks start lower ghost x not_begun may write follow b made =
      let results = results_kept o.program extra f below begun s.world w g true made in
      let top : g ≡ f = top_kept o.program extra f below begun s.world w g made in
      none_started w (thread g below true)
      (rebuilt o s i n whose is (record s { world = w; threads = replaced s.threads (suc n) (Some (role, thread g below true)) }) (Some (role, thread g below true)) (λ e. 0) (record {
        threads = refl;
        g = ghost;
        piece = λ e. b.piece e + lower e;
        pool = b.pool;
        locks = b.locks;
        handle = i.handle;
        base = record {
          fits = fits_less (λ e. omega arith) b.base.fits;
          mode = refl;
          crash = λ shared c. b.base.crash (sym x.mode ∙ shared) may.bracket;
          free = b.base.free;
          consistent = b.base.consistent;
        };
        ready = λ z here. subst (λ (y : Role × Thread). IsReady o w ghost.mode y.0 (λ e. b.piece e + lower e) y.1) (some_is here)
            (in_write h ks (record {
              start = start;
              env = b.env;
              mine = b.piece;
              lower = lower;
              parts = λ e. omega arith;
              bracket = may.bracket;
              in_mode = sym x.mode;
              described = b.described;
              rest = subst (λ t. Below o ghost.mode role below h.procedure start t lower) (sym results) x.waiting;
            }) may write follow b.mine b.spare);
        mode = x.shared;
        settled = λ e. may.mode (sym x.mode ∙ e);
        recovers = λ owned. (thread g below true, ap (λ r. Some (r, thread g below true)) (still_recovers ghost x.shared owned));
        marks = marks_on extra (GoesOn w (thread g below true) []) (Some (role, thread g below true)) made (λ t m begun_now. no_truth (sym not_begun ∙ begun_now))
            (λ t e writes. record { thread = (role, thread g below true); there = refl; begun = refl; writes = subst (λ y. Writes y t) (sym top) writes });
        tells = told_on w (replaced s.threads (suc n) (Some (role, thread g below true))) ghost x.tells;
        root = i.root;
        copied = i.copied;
        fault = i.fault;
      }))

  pub write_kept : (extra : ℕ) (h : Path) (ks : List Path) (start : Env) (lower : Piece) (ghost : Ghost) → Around ghost h start lower → begun ≡ false → MayLeaveClosed o h → IsSoundWrite o.proof h ks
      → AllFollow o h ks → (answer : Answer Stepped) → stepped o.program extra (thread f below begun) s.world ≡ answer → BeginsAt o.proof ghost start below h ks (rest lower) answer
      → Keeps o (step_taken (machine_of o.program o.setting) s (suc n) role (left_by answer))
  write_kept extra h ks start lower ghost x not_begun may write follow _ made (sound.begins {w = w} {f = g} b) = goes_on (begins_kept extra w g h ks start lower ghost x not_begun may write follow b made)
  write_kept extra h ks start lower ghost x not_begun may write follow answer made (sound.at_once go) =
      goes_on_kept extra h ks start lower Nothing ghost x (λ e. closed_only (sym may.bracket ∙ e)) may.mode follow (λ t own begun_now. no_truth (sym not_begun ∙ begun_now)) answer made go
    where
      closed_only : Closed ≡ Used → ⊥
      closed_only e = cc

  -- the second step
  pub write_ends : (extra : ℕ) (h : Path) (ks : List Path) (st : Stack o i.ghost.mode role f below h (i.owns n)) → begun ≡ true → MayLeaveClosed o h → IsSoundWrite o.proof h ks → AllFollow o h ks
      → ((t : Target) → Writes f t → OwnsTarget st.mine t) → HasRoom s.world f → Keeps o (step_taken (machine_of o.program o.setting) s (suc n) role (left_by (stepped o.program extra (thread f below begun) s.world)))
  write_ends extra h ks st begun_now may write follow mine room =
      let l = lowered o i.ghost.mode role below h.procedure st.start f.results st.lower st.rest in
      let base = base_at h st l.lower l.less in
      let seat : BegunSeat o.proof s.world i.ghost st.start f h (rest l.lower) = record {
        env = st.env;
        piece = st.mine;
        pool = i.pool;
        locks = i.locks;
        described = st.described;
        base = base;
        mine = mine;
        still = λ t m. (let wr = i.written t m in elim (number_test wr.place n) [
          | inl (same, q) ↦ inl (own_begun t wr same).1
          | inr (ne, q) ↦ inr (others_own l.lower t wr ne)
        ]);
        spare = room;
      } in
      let x : Around i.ghost h st.start l.lower = record {
        tells = i.tells;
        mode = sym st.in_mode;
        waiting = l.waiting;
        shared = λ e. e;
        quiet = λ recovers owned. quiet_rest l.lower (l.none recovers) owned;
      } in
      goes_on_kept extra h ks st.start l.lower Nothing i.ghost x (λ e. closed_only (sym may.bracket ∙ e)) may.mode follow
      (λ t own yet writes. apart (shape_of o.proof) s.world i.ghost (λ e. st.mine e + (i.pool e + (of_locks s.world i.locks e + rest l.lower e))) base.fits st.mine (rest l.lower) (λ e. omega arith) t (mine t writes) own)
      (stepped o.program extra (thread f below begun) s.world) refl
      (subst (λ b. Goes o.proof i.ghost st.start below h ks (rest l.lower) Nothing (stepped o.program extra (thread f below b) s.world)) (sym begun_now)
      (write.end o.program extra s.world i.ghost st.start f below (rest l.lower) seat))
    where
      closed_only : Closed ≡ Used → ⊥
      closed_only e = cc
