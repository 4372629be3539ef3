-- A crash: of all that was owned the durable part of the crash invariant is left, and recovery begins with it and with all leases. So it does before the first event, with the crash invariant of an empty system.
use Rattle.std.proofs.Common.{◌≡◌, ◌≢◌, ◌⊎◌, ℕ, zero, suc, ◌+◌, ◌<◌, ◌≤◌, Bool, true, false, not, ◌&&◌, ◌||◌, if◌then◌else◌, List, [], ◌∷◌, ◌++◌, map, length, Option, Some, None, refl, sym, ap, subst, ◌∙◌, inl, inr, arith}
use Rattle.std.specs.Prelude.{slice_get, option_map, Ok}
use Rattle.std.specs.Option.{unwrap_or}
use Rattle.gv_base.specs.declared.answer.Answer.{Answer}
use Rattle.gv_base.specs.declared.answer.Answer.TheVariants.{Next}
use Rattle.gv_base.specs.declared.val.Val.{Val}
use Rattle.gv_terms.specs.declared.tree.TermTree.{TermTree}
use Rattle.gv_terms.specs.declared.value.Env.{Env}
use Rattle.gv_terms.specs.declared.value.Value.{Value}
use Rattle.gv_world.specs.Store.{Store as World, crashed}
use Rattle.gv_lang.specs.Calls.{recovery, started, idle}
use Rattle.gv_lang.specs.Threads.{Frame, Thread, new_frame, thread_of}
use Rattle.gv_lang.specs.Tree.{Program, Proc}
use Rattle.gv_spec.specs.Entry as entry
use Rattle.gv_spec.specs.Entry.{Entry}
use Rattle.gv_spec.specs.Event as event
use Rattle.gv_spec.specs.Move as move
use Rattle.gv_spec.specs.Move.{Move, Act, entries_of}
use Rattle.gv_spec.specs.Specification.{Specification}
use Rattle.gv_spec.specs.Walks.{onward, first_walk}
use Rattle.gv_base.specs.declared.reason.Reason.{Reason}
use Rattle.gv_spec.specs.Runs.{Role, Recovers, living, crash_made, first_state, unless_undefined}
use Rattle.gv_runs.specs.Machine.{machine_of}
use Rattle.gv_resources.specs.Kinds as kind
use Rattle.gv_resources.specs.Kinds.{Kind, is_durable, is_persistent, most}
use Rattle.gv_resources.specs.Ghost.{Ghost, Owned, Sharing, Shared}
use Rattle.gv_resources.specs.Pieces.{Resource, Have, Piece, Telling, Fits, single, sum_below, part_of}
use Rattle.gv_resources.specs.Told.{told, only_if, is_no_key}
use Rattle.gv_resources.proofs.Equality.{single_test}
use Rattle.gv_resources.proofs.Fitting.{fits_less}
use Rattle.gv_resources.proofs.Many.{answers, once, all_told, all_told_has, fits_renewed}
use Rattle.gv_resources.proofs.Sums.{number_test, sum_agree, sum_zero, with_piece, piece_there, piece_elsewhere}
use Rattle.gv_assertions.specs.Atoms.{Atom, Instance}
use Rattle.gv_assertions.specs.Kept.{IsDurable}
use Rattle.gv_assertions.specs.Standing.{StandsFor, valued, AreParts}
use Rattle.gv_assertions.proofs.Kept.{part_for}
use Rattle.gv_seats.specs.Paths.{Path, Closed}
use Rattle.gv_seats.specs.Seats.{Proof, shape_of, IsConsistent, IsUntouched, Walked, IsInstance, Target, CellAt, MapAt, IsMarked}
use Rattle.gv_seats.proofs.Instances.{at_values}
use Rattle.gv_acting.proofs.Walking.{walk_then}
use Rattle.gv_invariant.specs.Outlines.{Outline}
use Rattle.gv_invariant.specs.Stacks.{first, at_rest, IsReady}
use Rattle.gv_invariant.specs.Invariant.{Run, Threads, badge, badge_of, of_threads, Tells, Invariant}
use Rattle.gv_invariant.specs.Justified.{is_lease, IsJustified, first_world}
use Rattle.gv_invariant.specs.Laws.{Keeps, goes_on, CrashLaw, FirstLaw}
use Rattle.gv_invariant.proofs.Frames.{thread}
use Rattle.gv_invariant.proofs.Threads.{added_there, added_elsewhere, added_length, none_lives}
use Rattle.gv_invariant.proofs.Sums.{share, threads_added}
use Rattle.gv_invariant.proofs.Unmarking.{unmarked}
use Rattle.gv_invariant.proofs.Finding.{Crashable, found_at_crash}

-- the record beside the state when recovery begins, with this history and this explanation of it
abbrev pub begun_from : Ghost → List (Entry Value) → List (Move Value) → Ghost
begun_from g history moves = record g {
  history = history;
  moves = moves;
  halves = λ name. None;
  frozen = λ object place. false;
  sliced = λ object. false;
  guards = λ object. None;
  mode = Owned;
  booted = false;
  since = g.calls;
}

-- the same after a crash
abbrev pub crashed_from : Ghost → Ghost
crashed_from g = begun_from g (g.history ++ entry.Crash ∷ []) (g.moves ++ move.Other entry.Crash ∷ [])

entries_then : (moves : List (Move Value)) → entries_of (moves ++ move.Other entry.Crash ∷ []) ≡ entries_of moves ++ entry.Crash ∷ []
entries_then [] = refl
entries_then (Act m cs ∷ moves) = entries_then moves
entries_then (move.Boot cs ∷ moves) = ap (λ (es : List (Entry Value)). entry.Boot ∷ es) (entries_then moves)
entries_then (move.Other e ∷ moves) = ap (λ (es : List (Entry Value)). e ∷ es) (entries_then moves)

walked_crash : (atomic : Specification (List Value) Value) (g : Ghost) → Walked atomic g → Walked atomic (crashed_from g)
walked_crash atomic g w = record {
  entries = entries_then g.moves ∙ ap (λ (es : List (Entry Value)). es ++ entry.Crash ∷ []) w.entries;
  passes = walk_then atomic g.moves (first_walk atomic) g.walk (move.Other entry.Crash) w.passes;
  later = w.later;
  unacted = w.unacted;
  acted = w.acted;
  since = omega arith;
  gone = w.gone;
}

consistent_begun : (o : Proof) (w : World) (g : Ghost) (history : List (Entry Value)) (moves : List (Move Value)) → IsConsistent o (unmarked w) g → Walked o.atomic (begun_from g history moves)
    → IsConsistent o (crashed w) (begun_from g history moves)
consistent_begun o w g history moves c walked = record {
  fresh = λ object l. record { guards = refl; sliced = refl; frozen = λ place. refl };
  blocks = record { as_many = c.blocks.as_many; sized = c.blocks.sized; same = c.blocks.same; long = c.blocks.long; whole = c.blocks.whole };
  failures = record { one = c.failures.one; of_two = c.failures.of_two };
  fields = c.fields;
  names = λ name l. refl;
  unguarded = λ never object. refl;
  walked = walked;
}

-- ---- what is left fits

durable_told : (o : Proof) (w : World) (g : Ghost) (history : List (Entry Value)) (moves : List (Move Value)) (k : Kind) (key v : List Value) → is_durable k ≡ true
    → told (shape_of o) (unmarked w) g k key ≡ Some v → told (shape_of o) (crashed w) (begun_from g history moves) k key ≡ Some v
durable_told o w g history moves kind.Master key v d e = e
durable_told o w g history moves kind.Down key v d e = e
durable_told o w g history moves kind.Field key v d e = e
durable_told o w g history moves kind.BookMaster key v d e = e
durable_told o w g history moves kind.Token key v d e = e
durable_told o w g history moves _ key v d e = absurd cc

kept_or_none : (b : Bool) (n : ℕ) → ((b ≡ true) × ((if b then n else 0) ≡ n)) ⊎ ((if b then n else 0) ≡ 0)
kept_or_none true n = inl (refl, refl)
kept_or_none false n = inr refl

-- leases, and that recovery runs
abbrev renewed : Kind → List Value → Bool
renewed kind.Recovering key = true
renewed k key = is_lease k

abbrev leased : Kind → List Value → Bool
leased k key = is_lease k

lease_renewed : (k : Kind) (key : List Value) → is_lease k ≡ true → renewed k key ≡ true
lease_renewed kind.Recovering key e = absurd cc
lease_renewed _ key e = e

not_durable : (k : Kind) (key : List Value) → renewed k key ≡ true → is_durable k ≡ false
not_durable kind.Lease key e = refl
not_durable kind.FieldLease key e = refl
not_durable kind.BookLease key e = refl
not_durable kind.Recovering key e = refl
not_durable _ key e = absurd cc

once_more : (a b c : Bool) → (a ≡ true → b ≡ true) → once (a && c) ≤ once (b && c)
once_more true true c h = omega arith
once_more true false c h = (let e = h refl in absurd cc)
once_more false b c h = (let z : once (false && c) ≡ 0 = refl in omega arith)

no_once : (c : Bool) → once (false && c) ≡ 0
no_once c = refl

module _ (o : Outline) (earlier : World) (threads : Threads) (before : Ghost) (history : List (Entry Value)) (moves : List (Move Value)) (pool : Piece)
    (fits : Fits pool (told (shape_of o.proof) (unmarked earlier) before)) (stands : IsInstance o.proof.preds o.proof.crash [] pool)
    (consistent : IsConsistent o.proof (crashed earlier) (begun_from before history moves)) where
  abbrev w : World
  w = crashed earlier

  abbrev g : Ghost
  g = begun_from before history moves

  abbrev tells : Telling
  tells = told (shape_of o.proof) w g

  abbrev left : Piece
  left = part_of is_durable pool

  abbrev leases : Piece
  leases = all_told leased tells

  left_within : (k : Kind) (key v : List Value) → 0 < left (Have k key v) → (is_durable k ≡ true) × (0 < pool (Have k key v))
  left_within k key v l = elim (kept_or_none (is_durable k) (pool (Have k key v))) [
    | inl (d, same) ↦ (d, omega (arith, l, same))
    | inr none ↦ absurd (omega (arith, l, none))
  ]

  left_least : (k : Kind) (key v : List Value) → left (Have k key v) ≤ pool (Have k key v)
  left_least k key v = elim (kept_or_none (is_durable k) (pool (Have k key v))) [ inl (d, same) ↦ omega arith | inr none ↦ omega arith ]

  left_fits : Fits left tells
  left_fits = record {
    says = λ k key v l. (let d = left_within k key v l in durable_told o.proof earlier before history moves k key v d.0 (fits.says k key v d.1));
    few = λ k key v n e. (let a = left_least k key v in let b = fits.few k key v n e in omega arith);
  }

  -- the badge is among what is made anew
  badge_within : (e : Resource) → leases e + single (Have kind.Recovering [] []) e ≤ all_told renewed tells e
  badge_within (Have k key v) = elim (single_test (Have kind.Recovering [] []) (Have k key v)) [
    | inl (same, one) ↦
        let here : 0 < all_told renewed tells (Have kind.Recovering [] []) = all_told_has renewed tells kind.Recovering [] [] refl refl in
        let none : leases (Have kind.Recovering [] []) ≡ 0 = refl in
        let a : leases (Have k key v) ≡ 0 = ap (λ (e : Resource). leases e) same ∙ none in
        let b : all_told renewed tells (Have k key v) ≡ all_told renewed tells (Have kind.Recovering [] []) = ap (λ (e : Resource). all_told renewed tells e) same in
        omega arith
    | inr (ne, none) ↦ (let a = once_more (leased k key) (renewed k key) (answers (tells k key) v) (lease_renewed k key) in omega arith)
  ]

  all_fits : Fits (λ e. left e + (leases e + single (Have kind.Recovering [] []) e)) tells
  all_fits = fits_renewed {frame = left} renewed left_fits (λ e. omega arith)
      (λ k key v chosen has. let d = left_within k key v has in let n = not_durable k key chosen in absurd (differ (is_durable k) d.0 n))
      (λ k key free. refl) (λ e. let b = badge_within e in omega arith)
    where
      differ : (b : Bool) → b ≡ true → b ≡ false → ⊥
      differ true a b = cc
      differ false a b = cc

  abbrev gone : Threads
  gone = map {B = Option (Role × Thread)} (λ thread. None) threads

  -- ---- the invariant

  nobody : (e : Resource) → of_threads gone (λ n e. 0) e ≡ 0
  nobody e = sum_agree (length gone) (share gone (λ n e. 0) e) (λ n. 0) (λ n l. none n) ∙ sum_zero (length gone)
    where
      of : (x : Option (Role × Thread)) → ((y : Role × Thread) → x ≡ Some y → ⊥) → badge x e ≡ 0
      of None never = refl
      of (Some y) never = absurd (never y refl)

      none : (n : ℕ) → 0 + badge (living gone (suc n)) e ≡ 0
      none n = let z = of (living gone (suc n)) (none_lives threads n) in omega arith

  abbrev owns : ℕ → Piece
  owns = with_piece (λ n e. 0) (length gone) (λ e. left e + leases e)

  recovery_is : (program : Program) → recovery program ≡ thread (recovery program).top [] false
  recovery_is program = at (slice_get program.procs program.recover)
    where
      at : (p : Option Proc) → (let th : Thread = unwrap_or (option_map (λ p. thread_of (new_frame program.recover p [] [])) p) idle in th ≡ thread th.top [] false)
      at None = refl
      at (Some p) = refl

  crash_stands : IsDurable o.proof.preds (Instance o.proof.crash []) → IsInstance o.proof.preds o.proof.crash [] left
  crash_stands durable env args none =
      at_values o.proof.preds env env o.proof.crash [] args left none (part_for durable (stands env [] refl))

  module _ (j : IsJustified o) (calls : ℕ) (fault : Option Reason) (same_calls : before.calls ≡ calls) (none_before : fault ≡ None) where
    only : (n : ℕ) (x : Role × Thread) → living (gone ++ Some (Recovers, recovery o.program) ∷ []) (suc n) ≡ Some x → n ≡ length gone
    only n x lives = elim (number_test n (length gone)) [
      | inl (e, t) ↦ e
      | inr (ne, t) ↦ absurd (none_lives threads n x (sym (added_elsewhere gone (Some (Recovers, recovery o.program)) n ne) ∙ lives))
    ]

    ready_now : (p : Piece) → ((e : Resource) → left e + leases e ≤ p e) → IsReady o w Owned Recovers p (recovery o.program)
    ready_now p le =
        let (values, d) = j.begins w g left leases p (consistent) le (crash_stands j.durable) (λ k key v lease is. all_told_has leased tells k key v lease is) in
        subst (λ (th : Thread). IsReady o w Owned Recovers p th) (sym (recovery_is o.program)) (at_rest false o.recovers (record {
          start = values;
          env = values;
          mine = p;
          lower = λ e. 0;
          parts = λ e. omega arith;
          bracket = j.recovery.2;
          in_mode = j.recovery.1;
          described = d;
          rest = first (j.recovery.0, λ owned. j.recovery.3);
        }) j.recovers)

    -- the state when recovery begins, and no other thread lives
    abbrev pub begun : Run
    begun = record { world = w; receiver = None; threads = gone ++ Some (Recovers, recovery o.program) ∷ []; calls = calls; history = history; fault = fault }

    pub begins : Invariant o begun
    begins = record {
      ghost = g;
      pool = λ e. 0;
      locks = λ n e. 0;
      handle = λ e. 0;
      owns = owns;
      base = record {
        fits = fits_less (λ e. let a = threads_added gone (λ n e. 0) (Some (Recovers, recovery o.program)) (λ e. left e + leases e) e in let b = nobody e in let z = sum_zero (suc (length w.objects)) in omega arith) all_fits;
        mode = refl;
        crash = λ shared. absurd (not_shared shared);
        free = λ object guard guarded. absurd (nothing guarded);
        consistent = consistent;
      };
      ready = λ n x lives.
          let here = only n x lives in
          let is : (Recovers, recovery o.program) ≡ x = some_is (sym (added_there gone (Some (Recovers, recovery o.program))) ∙ ap (λ k. living (gone ++ Some (Recovers, recovery o.program) ∷ []) (suc k)) (sym here) ∙ lives) in
          subst (λ (y : Role × Thread). IsReady o w Owned y.0 (owns n) y.1) is
          (ready_now (owns n) (λ e. let k : owns n e ≡ left e + leases e = ap (λ m. owns m e) here ∙ piece_there (λ n e. 0) (length gone) (λ e. left e + leases e) e in omega arith));
      written = λ t m. absurd (no_mark t m);
      settled = λ e. not_sharing e;
      alone = λ owned. record {
        place = length gone;
        thread = recovery o.program;
        is = added_there gone (Some (Recovers, recovery o.program));
        only = only;
        none = λ n e ne. piece_elsewhere (λ n e. 0) (length gone) n (λ e. left e + leases e) e ne;
      };
      tells = record {
        history = refl;
        calls = same_calls;
        booted = refl;
        since = λ e. refl;
        gone = λ e ne. absurd (ne refl);
        shared = λ e. absurd (no_truth e);
      };
      root = λ receiver e. absurd (nothing e);
      copied = λ k key v e. refl;
      fault = none_before;
    }
      where
        not_shared : Owned ≡ Shared → ⊥
        not_shared e = cc

        not_sharing : Owned ≡ Sharing → ⊥
        not_sharing e = cc

        no_truth : false ≡ true → ⊥
        no_truth e = cc

        nothing : {A : Type 0} {y : A} → None ≡ Some y → ⊥
        nothing e = cc

        some_is : {A : Type 0} {a b : A} → Some a ≡ Some b → a ≡ b
        some_is e = cc

        no_mark : (t : Target) → IsMarked w t → ⊥
        no_mark (CellAt zero place) m = cc
        no_mark (CellAt (suc n) place) m = cc
        no_mark (MapAt zero) m = cc
        no_mark (MapAt (suc n)) m = cc

pub crash_law : CrashLaw
crash_law o s j i = subst (λ f. Keeps o (unless_undefined f (Next (crash_made (machine_of o.program o.setting) s)))) (sym i.fault) (goes_on crashed_inv)
  where
    c : Crashable o s (unmarked s.world)
    c = found_at_crash o s i j

    crashed_inv : Invariant o (crash_made (machine_of o.program o.setting) s)
    crashed_inv =
        subst (λ (es : List (Entry Value)). Invariant o (record (crash_made (machine_of o.program o.setting) s) { history = es ++ entry.Crash ∷ [] })) c.tells.history
        (begins o s.world s.threads c.g (c.g.history ++ entry.Crash ∷ []) (c.g.moves ++ move.Other entry.Crash ∷ []) c.pool c.fits c.stands
        (consistent_begun o.proof s.world c.g (c.g.history ++ entry.Crash ∷ []) (c.g.moves ++ move.Other entry.Crash ∷ []) c.consistent (walked_crash o.proof.atomic c.g c.consistent.walked))
        j s.calls s.fault c.tells.calls i.fault)

-- before the first event
pub first_law : FirstLaw
first_law o j b = subst (λ (es : List (Entry Value)). Invariant o (record (first_state (machine_of o.program o.setting)) { history = es })) b.history
    (begins o (first_world o) [] b.ghost b.ghost.history b.ghost.moves b.pool b.fits b.stands (consistent_begun o.proof (first_world o) b.ghost b.ghost.history b.ghost.moves b.consistent walked) j 0 None b.calls refl)
  where
    walked : Walked o.proof.atomic (begun_from b.ghost b.ghost.history b.ghost.moves)
    walked = (let k = b.consistent.walked in record {
      entries = k.entries;
      passes = k.passes;
      later = k.later;
      unacted = k.unacted;
      acted = k.acted;
      since = omega arith;
      gone = k.gone;
    })
