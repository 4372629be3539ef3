-- A frame returns: a call is answered, a thread ends, or the caller goes on.
use Rattle.std.proofs.Common.{◌≡◌, ◌≢◌, ◌⊎◌, ℕ, zero, suc, ◌+◌, ◌<◌, ◌≤◌, Bool, true, false, ◌&&◌, List, [], ◌∷◌, ◌++◌, length, Option, Some, None, refl, sym, ap, subst, ◌∙◌, inl, inr, arith}
use Rattle.std.specs.Prelude.{slice_get, nat_lt, Ok, Err, IsTrue, Result, if◌then◌else◌}
use Rattle.gv_base.specs.declared.answer.Answer.{Answer}
use Rattle.gv_base.specs.declared.answer.Answer.TheVariants.{Next, Blocked, Undefined}
use Rattle.gv_base.specs.declared.reason.Reason.{Reason}
use Rattle.gv_base.specs.declared.val.Val.{Val}
use Rattle.gv_terms.specs.declared.value.Env.{Env}
use Rattle.gv_terms.specs.declared.value.Value.{Value}
use Rattle.gv_terms.specs.declared.value.Value.TheVariants as val
use Rattle.gv_world.specs.Store.{Store as World}
use Rattle.gv_lang.specs.Calls.{reply}
use Rattle.gv_lang.specs.Step.{Stepped, GoesOn, Returns, stepped, returned, assigned}
use Rattle.gv_lang.specs.Threads.{Frame, Thread}
use Rattle.gv_spec.specs.Entry as entry
use Rattle.gv_spec.specs.Entry.{Entry}
use Rattle.gv_spec.specs.Move as move
use Rattle.gv_spec.specs.Move.{Move, Act, entries_of}
use Rattle.gv_spec.specs.Specification.{Specification}
use Rattle.gv_spec.specs.Walks as walks
use Rattle.gv_spec.specs.Walks.{Standing, NeverCalled, Called, Acted, Answered, Dropped, WalkState, WalkCause, entered, onward, first_walk, walk_answered}
use Rattle.gv_spec.specs.Runs as runs
use Rattle.gv_spec.specs.Runs.{Role, living, replaced, step_taken, thread_ended, answered}
use Rattle.gv_runs.specs.Machine.{machine_of, left_by, replied}
use Rattle.gv_resources.specs.Kinds as kind
use Rattle.gv_resources.specs.Kinds.{Kind}
use Rattle.gv_resources.specs.Ghost.{Ghost, Mode, Owned, Sharing, Shared}
use Rattle.gv_resources.specs.Pieces.{Resource, Have, Piece, Fits, single}
use Rattle.gv_resources.specs.Told as resources
use Rattle.gv_resources.specs.Told.{Shape, told, under, only_if, may_act, token_at, acted_with, is_in_table, call_of}
use Rattle.gv_resources.proofs.Fitting.{retold, retold_test, fits_less, fits_remove, fits_same}
use Rattle.gv_resources.proofs.Sums.{number_test}
use Rattle.gv_seats.specs.Paths as paths
use Rattle.gv_seats.specs.Paths.{Path, Procedure, Closed}
use Rattle.gv_seats.specs.Seats.{Proof, shape_of, Base, Seat, IsConsistent, Walked, Target, IsMarked, AreOwned, of_locks}
use Rattle.gv_seats.specs.Soundness as sound
use Rattle.gv_seats.specs.Soundness.{ArePlain, Owed, IsSoundReturn}
use Rattle.gv_acting.proofs.Walking.{walk_then, entered_there, entered_elsewhere}
use Rattle.gv_invariant.specs.Outlines.{Outline, Leads, MayLeaveClosed, IsBeside}
use Rattle.gv_invariant.specs.Stacks.{Begins, Waits, Below, first, waits}
use Rattle.gv_invariant.specs.Invariant.{Run, badge_of, Tells, Invariant}
use Rattle.gv_invariant.specs.Justified.{AnswersCalls, IsJustified}
use Rattle.gv_invariant.specs.Laws.{Keeps, goes_on}
use Rattle.gv_invariant.proofs.Frames.{thread}
use Rattle.gv_invariant.proofs.Rebuild.{After, rebuilt, was_owned}
use Rattle.gv_invariant.proofs.Held.{Held}
use Rattle.gv_invariant.proofs.Stepping.{whose, rest, Turn, gone, marks_on, marked_then, others_own, quiet_rest, lowered, at_rest_again, none_started}
use Rattle.gv_invariant.proofs.Sums.{of_others}
use Rattle.gv_assertions.specs.Standing.{AreParts}
use Rattle.gv_resources.proofs.Equality.{single_same}
use Rattle.gv_seats.proofs.Owning.{owned_more}

-- ---- the record beside the state once a call has answered

abbrev pub answered_from : Ghost → ℕ → Value → Ghost
answered_from g call reply = record g {
  history = g.history ++ entry.Answer call reply ∷ [];
  moves = g.moves ++ move.Other (entry.Answer call reply) ∷ [];
  walk = record { fields = g.walk.fields; table = entered g.walk.table call Answered };
}

pub entries_then : (moves : List (Move Value)) (e : Entry Value) → entries_of (moves ++ move.Other e ∷ []) ≡ entries_of moves ++ e ∷ []
entries_then [] e = refl
entries_then (Act m cs ∷ moves) e = entries_then moves e
entries_then (move.Boot cs ∷ moves) e = ap (λ (es : List (Entry Value)). entry.Boot ∷ es) (entries_then moves e)
entries_then (move.Other d ∷ moves) e = ap (λ (es : List (Entry Value)). d ∷ es) (entries_then moves e)

module _ (o : Proof) (w : World) (g : Ghost) (call : ℕ) (reply : Value) (c : IsConsistent o w g) (acted : g.walk.table call ≡ Acted reply) where
  abbrev now : Ghost
  now = answered_from g call reply

  truth : (b : Bool) → IsTrue b → b ≡ true
  truth b t = t

  itself : o.atomic.same reply reply ≡ true
  itself = truth (o.atomic.same reply reply) ((o.atomic.decides reply reply).1 refl)

  passes : walks.walk_from o.atomic (first_walk o.atomic) now.moves ≡ Ok now.walk
  passes =
      walk_then o.atomic g.moves (first_walk o.atomic) g.walk (move.Other (entry.Answer call reply)) c.walked.passes
      ∙ ap (λ (s : Standing Value). onward (λ next. Ok next) (walk_answered o.atomic g.walk call reply s)) acted
      ∙ ap (λ (b : Bool). onward (λ next. Ok next) (if b then Ok now.walk else Err walks.WrongReply)) itself

  under_way : call ≤ g.calls
  under_way = elim (late call g.calls) [
    | inl l ↦ (let never : NeverCalled ≡ Acted reply = sym (c.walked.later call l) ∙ acted in absurd cc)
    | inr l ↦ l
  ]
    where
      late : (m k : ℕ) → (k < m) ⊎ (m ≤ k)
      late m k = grind arith

  table_here : (n : ℕ) → n ≡ call → now.walk.table n ≡ Answered
  table_here n e = ap now.walk.table e ∙ entered_there g.walk.table call Answered

  table_elsewhere : (n : ℕ) → n ≢ call → now.walk.table n ≡ g.walk.table n
  table_elsewhere n ne = entered_elsewhere g.walk.table call n Answered ne

  walked_now : Walked o.atomic now
  walked_now = record {
    entries = entries_then g.moves (entry.Answer call reply) ∙ ap (λ (es : List (Entry Value)). es ++ entry.Answer call reply ∷ []) c.walked.entries;
    passes = passes;
    later = λ n l. (let u = under_way in table_elsewhere n (λ e. omega (arith, e, l, u)) ∙ c.walked.later n l);
    unacted = λ n op args h. elim (number_test n call) [
      | inl (e, t) ↦ absurd (elim h [ inl x ↦ not_never (sym (table_here n e) ∙ x) | inr x ↦ not_called op args (sym (table_here n e) ∙ x) ])
      | inr (ne, t) ↦ c.walked.unacted n op args (elim h [ inl x ↦ inl (sym (table_elsewhere n ne) ∙ x) | inr x ↦ inr (sym (table_elsewhere n ne) ∙ x) ])
    ];
    acted = λ n r kept there. elim (number_test n call) [
      | inl (e, t) ↦ absurd (not_there (sym (ap is_in_table (table_here n e)) ∙ there))
      | inr (ne, t) ↦ table_elsewhere n ne ∙ c.walked.acted n r kept (sym (ap is_in_table (table_elsewhere n ne)) ∙ there)
    ];
    since = c.walked.since;
    gone = c.walked.gone;
  }
    where
      not_never : ◌≡◌ {A = Standing Value} Answered NeverCalled → ⊥
      not_never e = cc

      not_called : (op : ℕ) (args : List Value) → ◌≡◌ {A = Standing Value} Answered (Called op args) → ⊥
      not_called op args e = cc

      not_there : false ≡ true → ⊥
      not_there e = cc

  pub consistent_now : IsConsistent o w now
  consistent_now = record {
    fresh = λ object l. (let u = c.fresh object l in record { guards = u.guards; sliced = u.sliced; frozen = u.frozen });
    blocks = record { as_many = c.blocks.as_many; sized = c.blocks.sized; same = c.blocks.same; long = c.blocks.long; whole = c.blocks.whole };
    failures = c.failures;
    fields = c.fields;
    names = c.names;
    unguarded = c.unguarded;
    walked = walked_now;
  }

  -- ---- what is told: the badge of the call is no more

  abbrev badge_key : List Value
  badge_key = val.Call call ∷ []

  abbrev z : Shape
  z = shape_of o

  no_token : (b : Bool) (r : Value) → only_if b (may_act z (Acted r)) ≡ None
  no_token true r = refl
  no_token false r = refl

  none_answered : (b : Bool) → only_if b (may_act z Answered) ≡ None
  none_answered true = refl
  none_answered false = refl

  token_same : (n : ℕ) → token_at z g n ≡ token_at z now n
  token_same n = elim (number_test n call) [
    | inl (e, t) ↦ ap (λ (x : Standing Value). only_if (nat_lt g.gone n) (may_act z x)) (ap g.walk.table e ∙ acted) ∙ no_token (nat_lt g.gone n) reply
        ∙ sym (ap (λ (x : Standing Value). only_if (nat_lt g.gone n) (may_act z x)) (table_here n e) ∙ none_answered (nat_lt g.gone n))
    | inr (ne, t) ↦ ap (λ (x : Standing Value). only_if (nat_lt g.gone n) (may_act z x)) (sym (table_elsewhere n ne))
  ]

  done_same : (n : ℕ) → acted_with (g.walk.table n) (g.kept n) ≡ acted_with (now.walk.table n) (g.kept n)
  done_same n = elim (number_test n call) [
    | inl (e, t) ↦ ap (λ (x : Standing Value). acted_with x (g.kept n)) (ap g.walk.table e ∙ acted) ∙ sym (ap (λ (x : Standing Value). acted_with x (g.kept n)) (table_here n e))
    | inr (ne, t) ↦ ap (λ (x : Standing Value). acted_with x (g.kept n)) (sym (table_elsewhere n ne))
  ]

  under_same : (key : Option ℕ) (f h : ℕ → Option (List Value)) → ((n : ℕ) → f n ≡ h n) → under key f ≡ under key h
  under_same None f h same = refl
  under_same (Some n) f h same = same n

  key_of_call : (key : List Value) (m : ℕ) → call_of key ≡ Some m → key ≡ val.Call m ∷ []
  key_of_call (val.Call k ∷ []) m e = let same : k ≡ m = cc in rw same refl
  key_of_call _ m e = absurd cc

  badge_gone : told z w now kind.OpenCall badge_key ≡ None
  badge_gone = ap (λ (x : Standing Value). only_if (nat_lt g.since call && is_in_table x) (Some [])) (table_here call refl) ∙ out (nat_lt g.since call)
    where
      out : (b : Bool) → only_if {A = List Value} (b && false) (Some []) ≡ None
      out true = refl
      out false = refl

  opens_same : (key : List Value) → key ≢ badge_key → told z w g kind.OpenCall key ≡ told z w now kind.OpenCall key
  opens_same key ne = at (call_of key) refl
    where
      at : (found : Option ℕ) → found ≡ call_of key → under found (λ n. only_if (nat_lt g.since n && is_in_table (g.walk.table n)) (Some []))
          ≡ under found (λ n. only_if (nat_lt g.since n && is_in_table (now.walk.table n)) (Some []))
      at None e = refl
      at (Some n) e = ap (λ (x : Standing Value). only_if (nat_lt g.since n && is_in_table x) (Some []))
          (sym (table_elsewhere n (λ same. ne (key_of_call key n (sym e) ∙ ap (λ k. val.Call k ∷ []) same))))

  pub told_now : (k : Kind) (key : List Value) → retold (told z w g) kind.OpenCall badge_key None k key ≡ told z w now k key
  told_now k key = elim (retold_test (told z w g) kind.OpenCall badge_key None k key) [
    | inl (a, b, t) ↦ (let same : told z w now k key ≡ None = rw (a, b) badge_gone in t ∙ sym same)
    | inr (ne, t) ↦ t ∙ others k key ne
  ]
    where
      others : (k : Kind) (key : List Value) → (k ≡ kind.OpenCall → key ≢ badge_key) → told z w g k key ≡ told z w now k key
      others kind.OpenCall key ne = opens_same key (ne refl)
      others kind.Token key ne = under_same (call_of key) _ _ token_same
      others kind.Done key ne = under_same (call_of key) _ _ done_same
      others _ key ne = refl

-- the reply that is told is the one that was kept
reply_kept : (standing : Standing Value) (kept : Option Value) (reply : Value) (value : List Value) → acted_with standing kept ≡ Some value → resources.replied (Some reply) ≡ Some value → kept ≡ Some reply
reply_kept standing kept reply value e d = same kept reply value (of_standing standing kept value e) d
  where
    of_standing : (standing : Standing Value) (kept : Option Value) (value : List Value) → acted_with standing kept ≡ Some value → resources.replied kept ≡ Some value
    of_standing (Called op args) kept value e = absurd cc
    of_standing NeverCalled kept value e = e
    of_standing (Acted r) kept value e = e
    of_standing Answered kept value e = e
    of_standing Dropped kept value e = e

    plain : (v : Value) → (v ≡ val.Unit) ⊎ (resources.replied (Some v) ≡ Some (v ∷ []))
    plain val.Unit = inl refl
    plain (val.Word n) = inr refl
    plain (val.Bool n) = inr refl
    plain (val.Bytes n) = inr refl
    plain (val.Words n) = inr refl
    plain (val.Refs n) = inr refl
    plain (val.Blocks n) = inr refl
    plain (val.MapWW n) = inr refl
    plain (val.MapWB n) = inr refl
    plain (val.Ref n) = inr refl
    plain (val.SliceS n) = inr refl
    plain (val.Call n) = inr refl
    plain (val.Name n) = inr refl

    same : (kept : Option Value) (reply : Value) (value : List Value) → resources.replied kept ≡ Some value → resources.replied (Some reply) ≡ Some value → kept ≡ Some reply
    same None reply value e d = absurd cc
    same (Some v) reply value e d = elim (plain v) [
      | inl unit ↦ elim (plain reply) [
        | inl other ↦ ap Some (unit ∙ sym other)
        | inr is ↦
            let a : Some [] ≡ Some value = sym (ap (λ x. resources.replied (Some x)) unit) ∙ e in
            let b : Some (reply ∷ []) ≡ Some value = sym is ∙ d in
            absurd (differ reply value a b)
      ]
      | inr is ↦ elim (plain reply) [
        | inl unit ↦
            let a : Some [] ≡ Some value = sym (ap (λ x. resources.replied (Some x)) unit) ∙ d in
            let b : Some (v ∷ []) ≡ Some value = sym is ∙ e in
            absurd (differ v value a b)
        | inr other ↦ (
            let both : Some (v ∷ []) ≡ Some (reply ∷ []) = sym is ∙ e ∙ sym d ∙ other in
            ap Some (first_same v reply both))
      ]
    ]
      where
        differ : (v : Value) (value : List Value) → Some [] ≡ Some value → Some (v ∷ []) ≡ Some value → ⊥
        differ v value a b = cc

        first_same : (x y : Value) → Some (x ∷ []) ≡ Some (y ∷ []) → x ≡ y
        first_same x y e = cc

-- ---- the thread's last frame has returned

module _ (o : Outline) (s : Run) (i : Invariant o s) (n : ℕ) (role : Role) (f : Frame) (below : List Frame) (is : living s.threads (suc n) ≡ Some (role, thread f below false)) where
  abbrev w0 : Role × Thread
  w0 = whose o s i n role f below false is

  abbrev around : Piece → Piece
  around lower = rest o s i n role f below false is lower

  no_truth : {A : Type 0} → false ≡ true → A
  no_truth e = absurd cc

  -- the thread is gone, and the run goes on in a world that it left
  ended : (w : World) (vs : List Val) (extra : ℕ) (history : List (Entry Value)) (g : Ghost) (part pool outer : Piece) (locks : ℕ → Piece) → Base o.proof w g Shared Closed part pool locks outer
      → ((e : Resource) → i.handle e + of_others s.threads i.owns n e ≤ outer e) → stepped o.program extra (thread f below false) s.world ≡ Next (Returns w vs)
      → Tells (record s { world = w; threads = replaced s.threads (suc n) None; history = history }) g
      → Invariant o (record s { world = w; threads = replaced s.threads (suc n) None; history = history })
  ended w vs extra history g part pool outer locks base le made tells =
      rebuilt o s i n w0 is (record s { world = w; threads = replaced s.threads (suc n) None; history = history }) None (λ e. 0) (record {
        threads = refl;
        g = g;
        piece = λ e. 0;
        pool = pool;
        locks = locks;
        handle = i.handle;
        base = record {
          fits = fits_less (λ e. let l = le e in omega arith) base.fits;
          mode = refl;
          crash = λ shared c. base.crash refl refl;
          free = base.free;
          consistent = base.consistent;
        };
        ready = λ z here. absurd (nothing here);
        mode = λ e. base.mode;
        settled = λ e. not_sharing (sym base.mode ∙ e);
        recovers = λ owned. absurd (not_owned (sym base.mode ∙ owned));
        marks = marks_on o s i n role f below false is extra (Returns w vs) None made (λ t m begun. no_truth begun) (λ t begun. no_truth begun);
        tells = tells;
        root = i.root;
        copied = i.copied;
        fault = i.fault;
      })
    where
      nothing : {A : Type 0} {y : A} → None ≡ Some y → ⊥
      nothing e = cc

      not_sharing : Shared ≡ Sharing → ⊥
      not_sharing e = cc

      not_owned : Shared ≡ Owned → ⊥
      not_owned e = cc

  told_ended : (w : World) (g : Ghost) → Tells s g → Tells (record s { world = w; threads = replaced s.threads (suc n) None; history = s.history }) g
  told_ended w g t = record { history = t.history; calls = t.calls; booted = t.booted; since = t.since; gone = t.gone; shared = t.shared }

  -- what a return of a frame comes to
  module _ (extra : ℕ) (h : Path) (start : Env) (lower : Piece) (j : IsJustified o) (x : Turn o s i n role f below false is s.world f below h start lower) (may : MayLeaveClosed o h)
      (not_recovers : h.procedure.role ≢ paths.Recovers) where
    shared_base : (m : Mode) → m ≡ Shared → (w : World) (part pool outer : Piece) (locks : ℕ → Piece) → Base o.proof w x.g h.mode h.bracket part pool locks outer → x.g.mode ≡ m → Base o.proof w x.g Shared Closed part pool locks outer
    shared_base m e w part pool outer locks base same = record {
      fits = base.fits;
      mode = same ∙ e;
      crash = λ shared closed. base.crash (sym x.seat.base.mode ∙ same ∙ e) may.bracket;
      free = base.free;
      consistent = base.consistent;
    }

    -- a call is answered
    answer : (call : ℕ) (w : World) (vs : List Val) (part pool : Piece) (locks : ℕ → Piece) (results : List Value) → role ≡ runs.Answers call → Begins o x.g.mode (runs.Answers call) h.procedure start
        → ArePlain vs results → Owed o.proof h.procedure start results part → Base o.proof w x.g h.mode h.bracket part pool locks (around lower) → AreOwned w (around lower)
        → stepped o.program extra (thread f below false) s.world ≡ Next (Returns w vs)
        → Keeps o (answered (thread_ended s (suc n) w) call (replied (reply w vs)))
    answer call w vs part pool locks results role_is b plains owed base still made =
        let g = x.g in
        let me_is = b.2 in
        let op = b.3 in
        let answers = subst (λ (p : Procedure). AnswersCalls o p) op.is (j.answers op.op op.path op.there) in
        let shared = shared_base g.mode b.1 w part pool (around lower) locks base refl in
        let r = answers w g call start results vs part (λ e. pool e + (of_locks w locks e + around lower e)) me_is plains owed shared.fits (λ t m. owned_more (around lower) (λ e. pool e + (of_locks w locks e + around lower e)) (λ e. omega arith) t (still t m)) in
        let key : List Value = val.Call call ∷ [] in
        let badge_is : badge_of role (Have kind.OpenCall key []) ≡ 1 = ap (λ (y : Role). badge_of y (Have kind.OpenCall key [])) role_is ∙ single_same (Have kind.OpenCall key []) in
        let has = r.acted in
        let kept : g.kept call ≡ Some r.answer = reply_kept (g.walk.table call) (g.kept call) r.answer r.value (shared.fits.says kind.Done key r.value (omega arith)) r.told in
        let there : is_in_table (g.walk.table call) ≡ true = in_table (nat_lt g.since call) (is_in_table (g.walk.table call)) (shared.fits.says kind.OpenCall key [] (omega arith)) in
        let acted : g.walk.table call ≡ Acted r.answer = shared.consistent.walked.acted call r.answer kept there in
        let now = answered_from g call r.answer in
        let outer : Piece = λ e. i.handle e + of_others s.threads i.owns n e in
        let fits : Fits (λ e. part e + (pool e + (of_locks w locks e + outer e))) (told (shape_of o.proof) w now) =
        fits_same (told_now o.proof w g call r.answer shared.consistent acted)
        (fits_remove kind.OpenCall key [] None shared.fits refl (λ e. let k : badge_of role e ≡ single (Have kind.OpenCall key []) e = ap (λ (y : Role). badge_of y e) role_is in omega arith)) in
        let later : Base o.proof w now Shared Closed part pool locks outer = record {
          fits = fits;
          mode = shared.mode;
          crash = shared.crash;
          free = shared.free;
          consistent = consistent_now o.proof w g call r.answer shared.consistent acted;
        } in
        let t = x.tells in
        subst (λ (a : Result Value Reason). Keeps o (answered (thread_ended s (suc n) w) call a)) (sym r.answers)
        (goes_on (ended w vs extra (s.history ++ entry.Answer call r.answer ∷ []) now part pool outer locks later (λ e. omega arith) made (record {
          history = ap (λ (es : List (Entry Value)). es ++ entry.Answer call r.answer ∷ []) t.history;
          calls = t.calls;
          booted = t.booted;
          since = t.since;
          gone = t.gone;
          shared = t.shared;
        })))
      where
        in_table : (a b : Bool) → only_if {A = List Value} (a && b) (Some []) ≡ Some [] → b ≡ true
        in_table true true e = refl
        in_table true false e = absurd cc
        in_table false b e = absurd cc

    -- a thread that another one started has ended
    spawned : (w : World) (vs : List Val) (part pool : Piece) (locks : ℕ → Piece) → x.g.mode ≡ Shared → Base o.proof w x.g h.mode h.bracket part pool locks (around lower)
        → stepped o.program extra (thread f below false) s.world ≡ Next (Returns w vs) → Keeps o (Next (thread_ended s (suc n) w))
    spawned w vs part pool locks mode base made =
        goes_on (ended w vs extra s.history x.g part pool (around lower) locks (shared_base x.g.mode mode w part pool (around lower) locks base refl) (λ e. omega arith) made (told_ended w x.g x.tells))

    -- whatever the frame is there for
    last_returned : (which : Role) → role ≡ which → (w : World) (vs : List Val) (part pool : Piece) (locks : ℕ → Piece) (results : List Value)
        → Begins o x.g.mode which h.procedure start → ArePlain vs results → Owed o.proof h.procedure start results part → Base o.proof w x.g h.mode h.bracket part pool locks (around lower)
        → AreOwned w (around lower) → stepped o.program extra (thread f below false) s.world ≡ Next (Returns w vs)
        → Keeps o (step_taken (machine_of o.program o.setting) s (suc n) which (left_by (Next (Returns w vs))))
    last_returned runs.Recovers role_is w vs part pool locks results b plains owed base still made = absurd (not_recovers b.0)
    last_returned (runs.Answers call) role_is w vs part pool locks results b plains owed base still made = answer call w vs part pool locks results role_is b plains owed base still made
    last_returned runs.Spawned role_is w vs part pool locks results b plains owed base still made = spawned w vs part pool locks b.1 base made

    -- the caller goes on
    caller_returned : (caller : Frame) (frames : List Frame) (w : World) (vs : List Val) (part pool : Piece) (locks : ℕ → Piece) (results : List Value) (from : Env) (mine under : Piece)
        → AreParts mine under lower → (wa : Waits o x.g.mode caller from h.procedure start f.results mine) → Below o x.g.mode role frames wa.waiting.procedure from caller.results under
        → ArePlain vs results → Owed o.proof h.procedure start results part → Base o.proof w x.g h.mode h.bracket part pool locks (around lower)
        → stepped o.program extra (thread f below false) s.world ≡ Next (GoesOn w (thread (record caller { locals = assigned caller.locals f.results vs }) frames false) [])
        → Invariant o (gone o s i n role f below false is w (thread (record caller { locals = assigned caller.locals f.results vs }) frames false))
    caller_returned caller frames w vs part pool locks results from mine under parts wa more plains owed base made =
        let g = x.g in
        let on : Frame = record caller { locals = assigned caller.locals f.results vs } in
        let whole : Piece = λ e. mine e + part e in
        let (env, described) = wa.answers from wa.env start caller mine part whole vs results wa.described wa.linked plains owed (λ e. omega arith) in
        let k = wa.behind in
        let l = lowered o g.mode role frames wa.waiting.procedure from caller.results under more in
        let mode_is : g.mode ≡ k.mode = sym (wa.follows.mode ∙ wa.in_mode) in
        let step_left : Stepped = GoesOn w (thread on frames false) [] in
        let held : Held o s w role on frames k from l.lower (around l.lower) i.ghost.mode = record {
          g = g;
          tells = x.tells;
          seat = record {
            env = env;
            piece = whole;
            pool = pool;
            locks = locks;
            described = described;
            base = record {
              fits = fits_less (λ e. let p = parts e in let q = l.less e in omega arith) base.fits;
              mode = mode_is;
              crash = λ shared closed. base.crash (sym x.seat.base.mode ∙ mode_is ∙ shared) may.bracket;
              free = base.free;
              consistent = base.consistent;
            };
            still = λ t m. (let wr = marked_then o s i n role f below false is extra step_left refl made refl t m in others_own o s i n role f below false is l.lower t wr.0 wr.1);
          };
          waiting = subst (λ (p : Procedure). Below o g.mode role frames p from caller.results l.lower) (sym wa.follows.procedure) l.waiting;
          shared = x.shared;
          quiet = λ recovers owned. quiet_rest o s i n role f below false is l.lower (l.none (ap (λ (p : Procedure). p.role) (sym wa.follows.procedure) ∙ recovers)) (was_owned o s i n w0 is g x.shared owned);
        } in
        none_started o s i n role f below false is w (thread on frames false)
        (at_rest_again o s i n role f below false is w on frames k from l.lower (around l.lower) (λ e. 0) true (λ e. omega arith) held wa.follows.bracket
        (λ e. may.mode (sym x.seat.base.mode ∙ mode_is ∙ e)) wa.leads
        (marks_on o s i n role f below false is extra step_left (Some (role, thread on frames false)) made (λ t m begun. no_truth begun) (λ t begun. no_truth begun)))

    of_below : (frames : List Frame) → frames ≡ below → (w : World) (vs : List Val) (part pool : Piece) (locks : ℕ → Piece) (results : List Value) → Below o x.g.mode role frames h.procedure start f.results lower
        → ArePlain vs results → Owed o.proof h.procedure start results part → Base o.proof w x.g h.mode h.bracket part pool locks (around lower)
        → AreOwned w (around lower) → stepped o.program extra (thread f below false) s.world ≡ Next (returned frames w f.results vs)
        → Keeps o (step_taken (machine_of o.program o.setting) s (suc n) role (left_by (Next (returned frames w f.results vs))))
    of_below _ same w vs part pool locks results (first b) plains owed base still made = last_returned role refl w vs part pool locks results b plains owed base still made
    of_below _ same w vs part pool locks results (waits {f = caller} {below = frames} from mine under parts serves wa more) plains owed base still made =
        goes_on (caller_returned caller frames w vs part pool locks results from mine under parts wa more plains owed base made)

    pub return_kept : (answer : Answer Stepped) → stepped o.program extra (thread f below false) s.world ≡ answer → sound.Returns o.proof x.g start f below h (around lower) answer
        → Keeps o (step_taken (machine_of o.program o.setting) s (suc n) role (left_by answer))
    return_kept _ made (sound.returns {w = w} {vs = vs} {part = part} {pool = pool} {locks = locks} results plains owed base still) =
        of_below below refl w vs part pool locks results x.waiting plains owed base still made
