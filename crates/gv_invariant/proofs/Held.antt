-- A frame at a path beside all that others own, and how moves of its path lead on.
use Rattle.std.proofs.Common.{◌≡◌, ◌≢◌, ◌⊎◌, ℕ, zero, suc, ◌+◌, ◌<◌, ◌≤◌, Bool, true, false, if◌then◌else◌, List, [], ◌∷◌, length, Option, Some, None, refl, sym, ap, subst, ◌∙◌, inl, inr, arith}
use Rattle.std.specs.Prelude.{slice_get}
use Rattle.gv_terms.specs.declared.value.Env.{Env}
use Rattle.gv_terms.specs.declared.value.Value.{Value}
use Rattle.gv_world.specs.Store.{Store as World}
use Rattle.gv_lang.specs.Threads.{Frame}
use Rattle.gv_spec.specs.Runs as runs
use Rattle.gv_spec.specs.Runs.{Role}
use Rattle.gv_resources.specs.Kinds as kind
use Rattle.gv_resources.specs.Kinds.{Kind, is_token_free}
use Rattle.gv_resources.specs.Ghost.{Ghost, Mode, Owned, Sharing, Shared}
use Rattle.gv_resources.specs.Pieces.{Resource, Have, Piece, Fits, part_of}
use Rattle.gv_resources.specs.Told.{told}
use Rattle.gv_resources.proofs.Fitting.{fits_less}
use Rattle.gv_resources.proofs.Sums.{sum_zero}
use Rattle.gv_assertions.specs.Atoms.{Atom}
use Rattle.gv_assertions.specs.Kept.{AreOfKinds}
use Rattle.gv_assertions.proofs.Kept.{parts_law}
use Rattle.gv_seats.specs.Paths as paths
use Rattle.gv_seats.specs.Paths.{Path, Procedure, Recovers}
use Rattle.gv_seats.specs.Seats.{Proof, shape_of, Seat, IsConsistent, of_locks}
use Rattle.gv_seats.specs.Changes.{Change, Changed, Shares}
use Rattle.gv_seats.specs.Soundness.{Arrives}
use Rattle.gv_acting.specs.Rows.{BeginsSharing, EndsSharing, begins_sharing, ends_sharing}
use Rattle.gv_acting.proofs.Sharing.{sharing_law}
use Rattle.gv_invariant.specs.Outlines.{Outline}
use Rattle.gv_invariant.specs.Stacks.{Begins, Below, first, waits}
use Rattle.gv_invariant.specs.Invariant.{Run, Tells}

pub record Held (o : Outline) (s : Run) (w : World) (role : Role) (f : Frame) (below : List Frame) (h : Path) (start : Env) (lower rest : Piece) (old : Mode) : Type 0 where
  pub g : Ghost
  pub tells : Tells s g
  pub seat : Seat o.proof w g start f h rest
  pub waiting : Below o g.mode role below h.procedure start f.results lower
  -- what was shared stays so
  pub shared : old ≡ Shared → g.mode ≡ Shared
  -- while recovery owns all, nobody else has a token
  pub quiet : h.procedure.role ≡ Recovers → g.mode ≡ Owned → (key v : List Value) → rest (Have kind.Token key v) ≡ 0

-- ---- the run goes on to be told

pub tells_on : (s : Run) (g after : Ghost) (c : Change) → Changed c g after → (g.mode ≡ Owned → after.mode ≡ Owned) → (g.mode ≡ Shared → after.mode ≡ Shared) → Tells s g → Tells s after
tells_on s g after c changed owned shared t = record {
  history = changed.history ∙ t.history;
  calls = changed.calls ∙ t.calls;
  booted = changed.booted ∙ t.booted;
  since = λ e. changed.since ∙ t.since (sym changed.booted ∙ e) ∙ sym changed.calls;
  gone = λ e ne. changed.gone ∙ gone e ne ∙ sym changed.calls;
  shared = λ e. shared (t.shared (sym changed.booted ∙ e));
}
  where
    gone : after.booted ≡ false → after.mode ≢ Owned → g.gone ≡ g.calls
    gone e ne = elim (owned_or g.mode) [
      | inl is ↦ absurd (ne (owned is))
      | inr never ↦ t.gone (sym changed.booted ∙ e) never
    ]
      where
        owned_or : (m : Mode) → (m ≡ Owned) ⊎ (m ≢ Owned)
        owned_or Owned = inl refl
        owned_or Sharing = inr (λ e. cc)
        owned_or Shared = inr (λ e. cc)

mode_differs : {m : Mode} → m ≡ Sharing → m ≡ Owned → ⊥
mode_differs a b = let e : Sharing ≡ Owned = sym a ∙ b in cc

-- ---- a move that stays in its mode

module _ (o : Outline) (s : Run) (w : World) (role : Role) (f : Frame) (below : List Frame) (start : Env) (lower rest : Piece) (old : Mode) where
  abbrev pub HeldAt : Path → Type 0
  HeldAt h = Held o s w role f below h start lower rest old

  pub held_on : (h : Path) (ks : List Path) (c : Change) (x : HeldAt h) → (a : Arrives o.proof w x.g start f h ks rest c) → a.path.mode ≡ h.mode → HeldAt a.path
  held_on h ks c x a same =
      let after_mode : a.after.mode ≡ x.g.mode = a.seat.base.mode ∙ same ∙ sym x.seat.base.mode in
      record {
        g = a.after;
        tells = tells_on s x.g a.after c a.changed (λ e. after_mode ∙ e) (λ e. after_mode ∙ e) x.tells;
        seat = a.seat;
        waiting = subst (λ m. Below o m role below a.path.procedure start f.results lower) (sym after_mode) (subst (λ p. Below o x.g.mode role below p start f.results lower) (sym a.procedure) x.waiting);
        shared = λ e. after_mode ∙ x.shared e;
        quiet = λ recovers owned. x.quiet (ap (λ p. p.role) (sym a.procedure) ∙ recovers) (sym after_mode ∙ owned);
      }

  -- ---- recovery shares

  -- below recovery's frame there is none
  pub below_turned : (m now : Mode) (p : Procedure) → p.role ≡ Recovers → now ≢ Owned → Below o m role below p start f.results lower → Below o now role below p start f.results lower
  below_turned m now p recovers ne b = at role below b
    where
      roles : paths.Serves ≡ Recovers → ⊥
      roles e = cc

      operates : paths.Operates ≡ Recovers → ⊥
      operates e = cc

      begins : (role : Role) → Begins o m role p start → Begins o now role p start
      begins runs.Recovers b = (b.0, λ owned. absurd (ne owned))
      begins (runs.Answers call) b = absurd (operates (sym b.0 ∙ recovers))
      begins runs.Spawned b = absurd (roles (sym b.0 ∙ recovers))

      at : (role : Role) (below : List Frame) → Below o m role below p start f.results lower → Below o now role below p start f.results lower
      at role _ (first b) = first (begins role b)
      at role _ (waits st mine low parts serves wa more) = absurd (roles (sym serves ∙ recovers))

pub only_one : (k p : Path) (place : ℕ) → slice_get (k ∷ []) place ≡ Some p → k ≡ p
only_one k p zero e = cc
only_one k p (suc n) e = absurd cc

no_token : (p : Piece) (key v : List Value) → part_of is_token_free p (Have kind.Token key v) ≡ 0
no_token p key v = refl

part_least : (keeps : Kind → Bool) (p : Piece) (e : Resource) → part_of keeps p e ≤ p e
part_least keeps p (Have k key v) = at (keeps k)
  where
    at : (b : Bool) → (if b then p (Have k key v) else 0) ≤ p (Have k key v)
    at true = omega arith
    at false = omega arith

-- the record beside the state once recovery shares: no call of before may act
abbrev pub shared_from : Ghost → Ghost
shared_from g = record g { gone = g.calls }

consistent_from : (o : Proof) (w : World) (g : Ghost) → IsConsistent o w g → IsConsistent o w (shared_from g)
consistent_from o w g c = record {
  fresh = λ object l. (let u = c.fresh object l in record { guards = u.guards; sliced = u.sliced; frozen = u.frozen });
  blocks = record { as_many = c.blocks.as_many; sized = c.blocks.sized; same = c.blocks.same; long = c.blocks.long; whole = c.blocks.whole };
  failures = c.failures;
  fields = c.fields;
  names = c.names;
  unguarded = c.unguarded;
  walked = record {
    entries = c.walked.entries;
    passes = c.walked.passes;
    later = c.walked.later;
    unacted = c.walked.unacted;
    acted = c.walked.acted;
    since = c.walked.since;
    gone = omega arith;
  };
}

module _ (o : Outline) (s : Run) (w : World) (role : Role) (f : Frame) (below : List Frame) (start : Env) (lower rest : Piece) (old : Mode) where
  -- the first move: all tokens are dropped, and nobody else has one
  pub held_sharing : (h k : Path) → BeginsSharing o.proof h k → Held o s w role f below h start lower rest old → Held o s w role f below k start lower rest old
  held_sharing h _ (begins_sharing left not_booted owned recovers closed drops free) x =
      let g = x.g in
      let k : Path = record h { atoms = left; mode = Sharing } in
      let a = (sharing_law o.proof h k).begin (begins_sharing left not_booted owned recovers closed drops free) w g start f rest x.seat in
      let is : k ≡ a.path = only_one k a.path a.place a.among in
      let seat : Seat o.proof w a.after start f k rest = subst (λ p. Seat o.proof w a.after start f p rest) (sym is) a.seat in
      let d = seat.described in
      let mine = part_of is_token_free seat.piece in
      let now = shared_from a.after in
      let was_owned : g.mode ≡ Owned = x.seat.base.mode ∙ owned in
      let whole : Piece = λ e. mine e + (0 + (of_locks w (λ n e. 0) e + rest e)) in
      let less : (e : Resource) → whole e ≤ seat.piece e + (seat.pool e + (of_locks w seat.locks e + rest e)) = (λ e. let l = part_least is_token_free seat.piece e in let z = no_locks w e in omega arith) in
      let none : (key v : List Value) → whole (Have kind.Token key v) ≡ 0 = (λ key v. let q = x.quiet recovers was_owned key v in let z = no_locks w (Have kind.Token key v) in omega arith) in
      record {
        g = now;
        tells = turned a.after a.changed seat.base.mode was_owned x.tells;
        seat = record {
          env = seat.env;
          piece = mine;
          pool = λ e. 0;
          locks = λ n e. 0;
          described = record {
            todo = d.todo;
            as_many = d.as_many;
            locals = d.locals;
            valuation = d.valuation;
            started = d.started;
            facts = d.facts;
            stands = parts_law is_token_free o.proof.preds seat.env left seat.piece free d.stands;
          };
          base = record {
            fits = record {
              says = λ key_kind key v l. told_from a.after key_kind key v whole none l (seat.base.fits.says key_kind key v (let m = less (Have key_kind key v) in omega arith));
              few = λ key_kind key v n e. (let m = less (Have key_kind key v) in let b = seat.base.fits.few key_kind key v n e in omega arith);
            };
            mode = seat.base.mode;
            crash = λ shared. absurd (unshared shared);
            free = λ object guard is_guarded. absurd (nothing (seat.base.consistent.unguarded (λ e. unshared (sym seat.base.mode ∙ e)) object) is_guarded);
            consistent = consistent_from o.proof w a.after seat.base.consistent;
          };
          still = seat.still;
        };
        waiting = subst (λ m. Below o m role below h.procedure start f.results lower) (sym seat.base.mode)
            (below_turned o s w role f below start lower rest old g.mode Sharing h.procedure recovers (λ e. cc) x.waiting);
        shared = λ e. absurd (owned_only (sym was_owned ∙ x.shared e));
        quiet = λ again owned_now. absurd (mode_differs seat.base.mode owned_now);
      }
    where
      unshared : Sharing ≡ Shared → ⊥
      unshared e = cc

      owned_only : Owned ≡ Shared → ⊥
      owned_only e = cc

      nothing : {A : Type 0} {x : Option A} {y : A} → x ≡ None → x ≡ Some y → ⊥
      nothing a b = cc

      no_locks : (w : World) (e : Resource) → of_locks w (λ n e. 0) e ≡ 0
      no_locks w e = sum_zero (suc (length w.objects))

      told_from : (g : Ghost) (k : Kind) (key v : List Value) (whole : Piece) → ((key v : List Value) → whole (Have kind.Token key v) ≡ 0) → 0 < whole (Have k key v)
          → told (shape_of o.proof) w g k key ≡ Some v → told (shape_of o.proof) w (shared_from g) k key ≡ Some v
      told_from g kind.Token key v whole none l e = absurd (let z = none key v in omega (arith, l, z))
      told_from g _ key v whole none l e = e

      turned : (after : Ghost) → Changed Shares x.g after → after.mode ≡ Sharing → x.g.mode ≡ Owned → Tells s x.g → Tells s (shared_from after)
      turned after changed sharing owned t = record {
        history = changed.history ∙ t.history;
        calls = changed.calls ∙ t.calls;
        booted = changed.booted ∙ t.booted;
        since = λ e. changed.since ∙ t.since (sym changed.booted ∙ e) ∙ sym changed.calls;
        gone = λ e ne. refl;
        shared = λ e. absurd (owned_only (sym owned ∙ t.shared (sym changed.booted ∙ e)));
      }

  -- the second: what recovery gives up is the crash invariant's
  pub held_shared : (h k : Path) → h.procedure.role ≡ Recovers → EndsSharing o.proof h k → Held o s w role f below h start lower rest old → Held o s w role f below k start lower rest old
  held_shared h _ recovers (ends_sharing left sharing closed takes) x =
      let g = x.g in
      let k : Path = record h { atoms = left; mode = Shared } in
      let a = (sharing_law o.proof h k).end (ends_sharing left sharing closed takes) w g start f rest x.seat in
      let is : k ≡ a.path = only_one k a.path a.place a.among in
      let seat : Seat o.proof w a.after start f k rest = subst (λ p. Seat o.proof w a.after start f p rest) (sym is) a.seat in
      record {
        g = a.after;
        tells = tells_on s g a.after Shares a.changed (λ e. absurd (mode_differs (x.seat.base.mode ∙ sharing) e)) (λ e. seat.base.mode) x.tells;
        seat = seat;
        waiting = subst (λ m. Below o m role below h.procedure start f.results lower) (sym seat.base.mode)
            (below_turned o s w role f below start lower rest old g.mode Shared h.procedure recovers not_owned x.waiting);
        shared = λ e. seat.base.mode;
        quiet = λ recovers owned. absurd (not_owned (sym seat.base.mode ∙ owned));
      }
    where
      not_owned : Shared ≡ Owned → ⊥
      not_owned e = cc
