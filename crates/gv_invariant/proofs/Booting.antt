-- Recovery returns: the crash has its effect, the crash invariant is closed, and calls are made on what recovery hands over.
use Rattle.std.proofs.Common.{◌≡◌, ◌≢◌, ◌⊎◌, ℕ, zero, suc, ◌+◌, ◌<◌, ◌≤◌, Bool, true, false, not, ◌&&◌, if◌then◌else◌, List, [], ◌∷◌, ◌++◌, map, length, Option, Some, None, refl, sym, ap, subst, ◌∙◌, inl, inr, arith}
use Rattle.std.specs.Prelude.{slice_get, nat_lt}
use Rattle.gv_base.specs.declared.answers.Place.{Place}
use Rattle.gv_base.specs.declared.answer.Answer.{Answer}
use Rattle.gv_base.specs.declared.answer.Answer.TheVariants.{Next}
use Rattle.gv_base.specs.declared.val.Val.{Val}
use Rattle.gv_base.specs.declared.val.Val.TheVariants as stored
use Rattle.gv_terms.specs.declared.sort.Sort.TheVariants as sort
use Rattle.gv_terms.specs.declared.tree.TermTree.{TermTree}
use Rattle.gv_terms.specs.declared.value.Env.{Env}
use Rattle.gv_terms.specs.declared.value.Value.{Value}
use Rattle.gv_terms.specs.declared.value.Value.TheVariants as val
use Rattle.gv_terms.specs.Trees.{value_under}
use Rattle.gv_terms.proofs.ValueSorts.{values_have_sorts}
use Rattle.gv_world.specs.Answers.{and_then}
use Rattle.gv_world.specs.Store.{Store as World}
use Rattle.gv_lang.specs.Step.{Stepped, Returns, stepped, settled}
use Rattle.gv_lang.specs.Table.{Pops, as_values}
use Rattle.gv_lang.specs.Threads.{Frame, Thread}
use Rattle.gv_lang.specs.Tree.{Expr, Return, Program}
use Rattle.gv_lang.specs.Todo.{Todo, Run as Does}
use Rattle.gv_lang.specs.Values.{value, values, also}
use Rattle.gv_spec.specs.Entry as entry
use Rattle.gv_spec.specs.Entry.{Entry}
use Rattle.gv_spec.specs.Walks.{Standing, NeverCalled}
use Rattle.gv_spec.specs.Runs as runs
use Rattle.gv_spec.specs.Runs.{Role, living, replaced, step_taken, thread_ended}
use Rattle.gv_runs.specs.Machine.{machine_of, left_by}
use Rattle.gv_resources.specs.Kinds as kind
use Rattle.gv_resources.specs.Kinds.{Kind, is_persistent}
use Rattle.gv_resources.specs.Ghost.{Ghost, Mode, Owned, Sharing, Shared}
use Rattle.gv_resources.specs.Pieces.{Resource, Have, Piece, Fits, single, part_of}
use Rattle.gv_resources.specs.Told.{Shape, told, under, only_if, may_act, is_in_table, is_no_key, call_of}
use Rattle.gv_resources.proofs.Equality.{single_same}
use Rattle.gv_resources.proofs.Fitting.{fits_less}
use Rattle.gv_resources.proofs.Sums.{number_test}
use Rattle.gv_assertions.specs.Atoms.{Atom, Instance}
use Rattle.gv_assertions.specs.Standing.{StandsFor, valued}
use Rattle.gv_assertions.proofs.Kept.{part_for}
use Rattle.gv_assertions.proofs.Lists.{parted}
use Rattle.gv_seats.specs.Changes as changes
use Rattle.gv_seats.specs.Paths as paths
use Rattle.gv_seats.specs.Paths.{Path, Procedure, Closed, Opened}
use Rattle.gv_seats.specs.Seats.{Proof, shape_of, Base, Seat, IsConsistent, IsInstance, Target, IsMarked, OwnsTarget, AreOwned, of_locks}
use Rattle.gv_seats.specs.Soundness.{at_rest}
use Rattle.gv_seats.proofs.Expressions.{expressions_law}
use Rattle.gv_seats.proofs.Instances.{at_values}
use Rattle.gv_seats.proofs.Owning.{owned_more}
use Rattle.gv_rules.proofs.Loads.{as_ref_is, ref_value}
use Rattle.gv_giving.proofs.Givens.{all_parted}
use Rattle.gv_acting.specs.Boots.{IsQuiet, IsSoundBoot, booted_to}
use Rattle.gv_invariant.specs.Outlines.{Outline, HandsOver}
use Rattle.gv_invariant.specs.Stacks.{Begins, Below, first, waits}
use Rattle.gv_invariant.specs.Invariant.{Run, badge_of, IsWritten, Tells, IsHandle, Invariant}
use Rattle.gv_invariant.specs.Justified.{IsJustified}
use Rattle.gv_invariant.specs.Laws.{Keeps, goes_on}
use Rattle.gv_invariant.proofs.Frames.{thread}
use Rattle.gv_invariant.proofs.Rebuild.{rebuilt}
use Rattle.gv_invariant.proofs.Sums.{of_others, other_within}
use Rattle.gv_invariant.proofs.Held.{Held}
use Rattle.gv_invariant.proofs.Stepping.{whose, rest, Turn, marks_on, own_begun, owner}

some_or_none : (n : ℕ) → (n ≡ 0) ⊎ (0 < n)
some_or_none n = grind arith

part_least : (keeps : Kind → Bool) (p : Piece) (e : Resource) → part_of keeps p e ≤ p e
part_least keeps p (Have k key v) = at (keeps k)
  where
    at : (b : Bool) → (if b then p (Have k key v) else 0) ≤ p (Have k key v)
    at true = omega arith
    at false = omega arith

no_part : (b : Bool) (n : ℕ) → b ≡ false → (if b then n else 0) ≡ 0
no_part true n e = absurd cc
no_part false n e = refl

-- ---- nothing of before is left

-- what fits beside recovery's badge, once it shares, has no token and no badge
module _ (o : Proof) (w : World) (g : Ghost) (c : IsConsistent o w g) (whole : Piece) (fits : Fits (λ e. whole e + single (Have kind.Recovering [] []) e) (told (shape_of o) w g))
    (since : g.since ≡ g.calls) (gone : g.gone ≡ g.calls) where
  late : (m k : ℕ) → (k < m) ⊎ (m ≤ k)
  late m k = grind arith

  not_later : (m k : ℕ) → m ≤ k → nat_lt k m ≡ false
  not_later m k l = grind arith

  no_token : (m : ℕ) (v : List Value) → only_if (nat_lt g.gone m) (may_act (shape_of o) (g.walk.table m)) ≡ Some v → ⊥
  no_token m v e = elim (late m g.gone) [
    | inl l ↦ none (nat_lt g.gone m) (sym (ap (λ (x : Standing Value). only_if (nat_lt g.gone m) (may_act (shape_of o) x)) (c.walked.later m (let q = gone in omega (arith, q, l)))) ∙ e)
    | inr l ↦ out (sym (ap (λ (b : Bool). only_if b (may_act (shape_of o) (g.walk.table m))) (not_later m g.gone l)) ∙ e)
  ]
    where
      none : (b : Bool) → only_if b (may_act (shape_of o) NeverCalled) ≡ Some v → ⊥
      none true e = cc
      none false e = cc

      out : None ≡ Some v → ⊥
      out e = cc

  no_call : (m : ℕ) (v : List Value) → only_if (nat_lt g.since m && is_in_table (g.walk.table m)) (Some []) ≡ Some v → ⊥
  no_call m v e = elim (late m g.since) [
    | inl l ↦ none (nat_lt g.since m) (sym (ap (λ (x : Standing Value). only_if {A = List Value} (nat_lt g.since m && is_in_table x) (Some [])) (c.walked.later m (let q = since in omega (arith, q, l)))) ∙ e)
    | inr l ↦ out (sym (ap (λ (b : Bool). only_if {A = List Value} (b && is_in_table (g.walk.table m)) (Some [])) (not_later m g.since l)) ∙ e)
  ]
    where
      none : (b : Bool) → only_if {A = List Value} (b && false) (Some []) ≡ Some v → ⊥
      none true e = cc
      none false e = cc

      out : None ≡ Some v → ⊥
      out e = cc

  under_none : (f : ℕ → Option (List Value)) → ((m : ℕ) (v : List Value) → f m ≡ Some v → ⊥) → (key : Option ℕ) (v : List Value) → under key f ≡ Some v → ⊥
  under_none f never None v e = cc
  under_none f never (Some m) v e = never m v e

  only_key : (key v : List Value) → told (shape_of o) w g kind.Recovering key ≡ Some v → (key ≡ []) × (v ≡ [])
  only_key [] v e = (refl, value (not g.booted) e)
    where
      value : (b : Bool) → only_if {A = List Value} (true && b) (Some []) ≡ Some v → v ≡ []
      value true e = cc
      value false e = absurd cc
  only_key (x ∷ key) v e = absurd cc

  zero_of : (e : Resource) → (0 < whole e → ⊥) → whole e ≡ 0
  zero_of e never = elim (some_or_none (whole e)) [ inl z ↦ z | inr l ↦ absurd (never l) ]

  pub is_quiet : IsQuiet whole
  is_quiet = record {
    tokens = λ key v. zero_of (Have kind.Token key v) (λ l. under_none _ no_token (call_of key) v (fits.says kind.Token key v (omega (arith, l))));
    calls = λ key v. zero_of (Have kind.OpenCall key v) (λ l. under_none _ no_call (call_of key) v (fits.says kind.OpenCall key v (omega (arith, l))));
    recovers = λ key v. zero_of (Have kind.Recovering key v) (λ l. once key v l (only_key key v (fits.says kind.Recovering key v (omega (arith, l)))));
  }
    where
      once : (key v : List Value) → 0 < whole (Have kind.Recovering key v) → (key ≡ []) × (v ≡ []) → ⊥
      once key v l is =
          let here : 0 < whole (Have kind.Recovering [] []) = subst (λ (y : List Value). 0 < whole (Have kind.Recovering [] y)) is.1 (subst (λ (k : List Value). 0 < whole (Have kind.Recovering k v)) is.0 l) in
          let few = fits.few kind.Recovering [] [] 1 refl in
          let one = single_same (Have kind.Recovering [] []) in
          omega (arith, here, few, one)

-- ---- the step

boot_step : (program : Program) (extra : ℕ) (w : World) (f : Frame) (e : Expr) (place : Place) (next : Todo) (v : Val) → f.todo ≡ Does (Return (e ∷ []) place) ∷ next → value f.locals e ≡ Some v
    → stepped program extra (thread f [] false) w ≡ Next (Returns w (v ∷ []))
boot_step program extra w f e place next v is there =
    let all : values f.locals (e ∷ []) ≡ Some (v ∷ []) = ap (λ (x : Option Val). also x (Some [])) there in
    subst (λ (todo : Todo). stepped program extra (thread (record f { todo = todo }) [] false) w ≡ Next (Returns w (v ∷ []))) (sym is)
    (subst (λ (a : Option (List Val)). and_then (and_then (as_values a) (λ us. Next (Pops us))) (settled (thread (record f { todo = Does (Return (e ∷ []) place) ∷ next }) [] false) w None)
    ≡ Next (Returns w (v ∷ []))) (sym all) refl)

-- what is handed over is of what recovery had
handed : (crash behind root nothing handle both others piece pool locks old lower rest : ℕ) → both + others ≤ piece → crash + behind ≤ both → root + nothing ≤ behind → handle ≤ root
    → 0 + (crash + (locks + (handle + ((0 + 0) + rest)))) ≤ piece + (pool + (locks + (old + (lower + rest))))
handed crash behind root nothing handle both others piece pool locks old lower rest a b c d = omega (arith, a, b, c, d)

module _ (o : Outline) (s : Run) (i : Invariant o s) (n : ℕ) (f : Frame) (is : living s.threads (suc n) ≡ Some (runs.Recovers, thread f [] false)) (j : IsJustified o) where
  abbrev whose_is : Role × Thread
  whose_is = whose o s i n runs.Recovers f [] false is

  no_truth : {A : Type 0} → false ≡ true → A
  no_truth e = absurd cc

  -- what the rest owns but for the badge
  abbrev around : Piece → Piece
  around lower e = i.handle e + (lower e + of_others s.threads i.owns n e)

  still_owned : (lower : Piece) → AreOwned s.world (around lower)
  still_owned lower t m = (let wr = i.written t m in elim (number_test wr.place n) [
    | inl (same, q) ↦ no_truth (own_begun o s i n runs.Recovers f [] false is t wr same).0
    | inr (ne, q) ↦ owned_more (i.owns wr.place) (around lower) (λ e. let a = other_within s.threads i.owns n wr.place wr.thread e ne wr.is in omega arith) t
        (owner o s.world i.ghost.mode wr.thread.0 (i.owns wr.place) wr.thread.1 (i.ready wr.place wr.thread wr.is) wr.begun t wr.writes)
  ])

  pub boot_kept : (extra : ℕ) (h : Path) (start : Env) (lower : Piece) (x : Turn o s i n runs.Recovers f [] false is s.world f [] h start lower) (e : Expr) (place : Place) (next : Todo) (choices : List TermTree) (k : Path)
      → h.todo ≡ Does (Return (e ∷ []) place) ∷ next → h.mode ≡ Shared → IsSoundBoot o.proof choices h k → HandsOver o k e
      → Keeps o (step_taken (machine_of o.program o.setting) s (suc n) runs.Recovers (left_by (stepped o.program extra (thread f [] false) s.world)))
  boot_kept extra h start lower x e place next choices k todo shared sound hands =
      let g = x.g in
      let w = s.world in
      let seat = x.seat in
      let mode : g.mode ≡ Shared = seat.base.mode ∙ shared in
      let here : Seat o.proof w g start f h (around lower) = record {
        env = seat.env;
        piece = seat.piece;
        pool = seat.pool;
        locks = seat.locks;
        described = seat.described;
        base = record {
          fits = fits_less (λ r. omega arith) seat.base.fits;
          mode = seat.base.mode;
          crash = seat.base.crash;
          free = seat.base.free;
          consistent = seat.base.consistent;
        };
        still = still_owned lower;
      } in
      let whole : Piece = λ r. seat.piece r + (seat.pool r + (of_locks w seat.locks r + around lower r)) in
      let beside : Fits (λ r. whole r + single (Have kind.Recovering [] []) r) (told (shape_of o.proof) w g) = fits_less (λ r. omega arith) seat.base.fits in
      let runs_still : g.booted ≡ false = not_booted g.booted (let one = single_same (Have kind.Recovering [] []) in beside.says kind.Recovering [] [] (omega arith)) in
      let quiet = is_quiet o.proof w g seat.base.consistent whole beside (x.tells.since runs_still) (x.tells.gone runs_still (λ owned. not_owned (sym mode ∙ owned))) in
      let (fields, effect, booted_seat) = sound w g start f (around lower) here quiet in
      let a = hands.move w (booted_to g _ fields) start f (around lower) booted_seat in
      let (t, left, term, sorted, takes) = hands.there a.place a.path a.among in
      let d = a.seat.described in
      let (q, others, split, both_stand, left_stand) = all_parted takes d.stands in
      let (crash_part, behind, parts, crash_stands, root_list) = parted both_stand in
      let (root_part, nothing, root_parts, root_stands, none_left) = parted root_list in
      let (v, v_found, v_plain) = expressions_law a.seat.env a.path.locals f.locals d.locals e t sort.Ref term sorted in
      let (r, is_ref) = ref_value (value_under a.seat.env t) (values_have_sorts a.seat.env t sort.Ref sorted) in
      let v_is = as_ref_is v r (v_plain ∙ ap Some is_ref) in
      let step = boot_step o.program extra w f e place next (stored.Ref r) (seat.described.todo ∙ todo) (v_found ∙ ap Some v_is) in
      let handle = part_of is_persistent root_part in
      let handle_stands : StandsFor o.proof.preds a.seat.env (Instance o.proof.root (t ∷ [])) handle = part_for (j.persistent (t ∷ [])) root_stands in
      let mode_now : a.after.mode ≡ Shared = a.changed.mode no_share ∙ mode in
      let later : Run = record s { world = w; threads = replaced s.threads (suc n) None; receiver = Some (stored.Ref r ∷ []); history = s.history ++ entry.Boot ∷ [] } in
      subst (λ (answer : Answer Stepped). Keeps o (step_taken (machine_of o.program o.setting) s (suc n) runs.Recovers (left_by answer))) (sym step)
      (goes_on (rebuilt o s i n whose_is is later None (λ e. 0) (record {
        threads = refl;
        g = a.after;
        piece = λ e. 0;
        pool = crash_part;
        locks = a.seat.locks;
        handle = handle;
        base = record {
          fits = fits_less (λ r. handed (crash_part r) (behind r) (root_part r) (nothing r) (handle r) (q r) (others r) (a.seat.piece r) (a.seat.pool r) (of_locks w a.seat.locks r) (i.handle r) (lower r)
              (of_others s.threads i.owns n r) (split r) (parts r) (root_parts r) (part_least is_persistent root_part r)) a.seat.base.fits;
          mode = refl;
          crash = λ shared_now closed env args same. at_values o.proof.preds a.seat.env env o.proof.crash [] args crash_part same crash_stands;
          free = a.seat.base.free;
          consistent = a.seat.base.consistent;
        };
        ready = λ z there. absurd (absent there);
        mode = λ was. mode_now;
        settled = λ sharing. not_sharing (sym mode_now ∙ sharing);
        recovers = λ owned. absurd (not_owned (sym mode_now ∙ owned));
        marks = marks_on o s i n runs.Recovers f [] false is extra (Returns w (stored.Ref r ∷ [])) None step (λ t m begun. no_truth begun) (λ t begun. no_truth begun);
        tells = record {
          history = a.changed.history ∙ ap (λ (es : List (Entry Value)). es ++ entry.Boot ∷ []) x.tells.history;
          calls = a.changed.calls ∙ x.tells.calls;
          booted = a.changed.booted;
          since = λ not_yet. no_truth (sym not_yet ∙ a.changed.booted);
          gone = λ not_yet. no_truth (sym not_yet ∙ a.changed.booted);
          shared = λ yes. mode_now;
        };
        root = λ receiver same. record {
          object = r;
          is = sym (some_is same);
          stands = λ env args values_are. at_values o.proof.preds a.seat.env env o.proof.root (t ∷ []) args handle (values_are ∙ ap (λ (y : Value). y ∷ []) (sym is_ref)) handle_stands;
        };
        copied = λ kd key value free. no_part (is_persistent kd) (root_part (Have kd key value)) free;
        fault = i.fault;
      })))
    where
      no_share : changes.Nothing ≡ changes.Shares → ⊥
      no_share e = cc

      not_owned : Shared ≡ Owned → ⊥
      not_owned e = cc

      not_sharing : Shared ≡ Sharing → ⊥
      not_sharing e = cc

      absent : {A : Type 0} {y : A} → None ≡ Some y → ⊥
      absent e = cc

      some_is : {A : Type 0} {a b : A} → Some a ≡ Some b → a ≡ b
      some_is e = cc

      not_booted : (b : Bool) → only_if {A = List Value} (true && not b) (Some []) ≡ Some [] → b ≡ false
      not_booted true e = absurd cc
      not_booted false e = refl
