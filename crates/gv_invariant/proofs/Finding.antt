-- What a crash finds: a piece that stands for the crash invariant, in either mode, also between the two steps of a write.
use Rattle.std.proofs.Common.{◌≡◌, ◌≢◌, ◌⊎◌, ℕ, zero, suc, ◌+◌, ◌<◌, ◌≤◌, Bool, true, false, List, [], ◌∷◌, length, Option, Some, None, refl, sym, ap, subst, ◌∙◌, inl, inr, arith}
use Rattle.std.specs.Prelude.{slice_get}
use Rattle.gv_terms.specs.declared.tree.TermTree.{TermTree}
use Rattle.gv_terms.specs.declared.value.Env.{Env}
use Rattle.gv_terms.specs.declared.value.Value.{Value}
use Rattle.gv_world.specs.Store.{Store as World}
use Rattle.gv_lang.specs.Threads.{Frame, Thread}
use Rattle.gv_spec.specs.Runs as runs
use Rattle.gv_spec.specs.Runs.{Role, living}
use Rattle.gv_resources.specs.Ghost.{Ghost, Mode, Owned, Sharing, Shared}
use Rattle.gv_resources.specs.Pieces.{Resource, Have, Piece, Fits, sum_below}
use Rattle.gv_resources.specs.Told.{told, locked_in, object_at}
use Rattle.gv_resources.proofs.Fitting.{fits_less, fits_same}
use Rattle.gv_resources.proofs.Sums.{sum_zero}
use Rattle.gv_assertions.specs.Atoms.{Atom, Instance}
use Rattle.gv_assertions.specs.Standing.{AreParts, StandsFor, StandForAll, both, none, valued}
use Rattle.gv_assertions.proofs.Lists.{parted}
use Rattle.gv_instances.specs.Instances.{Given, given_under, put_in_atom}
use Rattle.gv_instances.specs.Agreeing.{AgreeOnVars, IsClosedAtom}
use Rattle.gv_instances.proofs.Agreeing.{closed_law}
use Rattle.gv_instances.proofs.Assertions.{all_into}
use Rattle.gv_seats.specs.Paths as paths
use Rattle.gv_seats.specs.Paths.{Path, Procedure, Closed}
use Rattle.gv_seats.specs.Seats.{Proof, shape_of, Base, Seat, IsConsistent, IsInstance, Described, Target, IsMarked, AreOwned, of_locks}
use Rattle.gv_seats.specs.Changes.{changes_nothing}
use Rattle.gv_seats.proofs.Bases.{consistent_objects}
use Rattle.gv_seats.proofs.Instances.{at_values}
use Rattle.gv_giving.specs.Rows.{TakesAll}
use Rattle.gv_giving.proofs.Givens.{all_parted}
use Rattle.gv_acting.specs.Rows.{BeginsSharing, begins_sharing, EndsSharing, ends_sharing}
use Rattle.gv_invariant.specs.Outlines.{Outline, Leads, by_move, by_cut, by_step, by_write, by_call, by_spawn, by_return, by_sharing, by_shared, by_boot, AllLead, no_path, a_path, LeavesCondition}
use Rattle.gv_invariant.specs.Stacks.{Begins, Below, first, waits, Stack, IsReady, at_rest, in_write}
use Rattle.gv_invariant.specs.Invariant.{Run, badge_of, of_threads, Tells, Invariant}
use Rattle.gv_invariant.proofs.Sums.{of_others}
use Rattle.gv_invariant.specs.Justified.{IsJustified}
use Rattle.gv_invariant.proofs.Frames.{thread}
use Rattle.gv_invariant.proofs.Rebuild.{mode_cases}
use Rattle.gv_invariant.proofs.Held.{Held, tells_on, held_sharing, held_shared}
use Rattle.gv_invariant.proofs.Reaching.{moved, cut_move, only_first}
use Rattle.gv_invariant.proofs.Stepping.{rest, lowered, base_at, quiet_rest}
use Rattle.gv_invariant.proofs.Unmarking.{unmarked, as_many, told_unmarked, locked_same, none_marked}

sharing_mode : {o : Proof} (h k : Path) → BeginsSharing o h k → k.mode ≢ Shared
sharing_mode h _ (begins_sharing left not_booted owned recovers closed drops free) e = cc

-- what a crash finds
pub record Crashable (o : Outline) (s : Run) (w : World) : Type 0 where
  pub g : Ghost
  pub pool : Piece
  pub fits : Fits pool (told (shape_of o.proof) w g)
  pub stands : IsInstance o.proof.preds o.proof.crash [] pool
  pub consistent : IsConsistent o.proof w g
  pub tells : Tells s g

-- the crash condition of a procedure stands beside the rest
record Safe (o : Outline) (s : Run) (w : World) (values : Env) (condition : Atom) (rest : Piece) : Type 0 where
  g : Ghost
  out : Piece
  fits : Fits (λ e. out e + rest e) (told (shape_of o.proof) w g)
  stands : StandsFor o.proof.preds values condition out
  consistent : IsConsistent o.proof w g
  tells : Tells s g
  mode : g.mode ≡ Owned

first_stands : (o : Outline) (env : Env) (a : Atom) (p : Piece) → StandForAll o.proof.preds env (a ∷ []) p → (q : Piece) × ((e : Resource) → q e ≤ p e) × StandsFor o.proof.preds env a q
first_stands o env a p s = let (q, r, split, stands, others) = parted s in (q, (λ e. let l = split e in omega arith), stands)

-- a condition that speaks of the start's variables stands under the start's values
at_start : (o : Outline) (env start : Env) (h : Path) (a : Atom) (p : Piece) → AgreeOnVars env start h.procedure.start → IsClosedAtom h.procedure.start a → StandsFor o.proof.preds env a p
    → (q : Piece) × ((e : Resource) → q e ≤ p e) × StandsFor o.proof.preds start a q
at_start o env start h a p same closed stands =
    first_stands o start a p ((closed_law h.procedure.start env start).stands same o.proof.preds (a ∷ []) p (closed, tt) (both p (λ e. 0) (λ e. omega arith) stands none))

module _ (o : Outline) (s : Run) (w : World) where
  -- the standing block of a path leaves its condition
  left_safe : (g : Ghost) (start : Env) (f : Frame) (h : Path) (rest : Piece) (c : LeavesCondition o h) → Tells s g → g.mode ≡ Owned → Seat o.proof w g start f h rest → Safe o s w start c.condition rest
  left_safe g start f h rest c tells owned seat =
      let a = c.leaves.move w g start f rest seat in
      let (left, takes) = c.leaves.there a.place a.path a.among in
      let (q, r, split, stands, others) = all_parted takes a.seat.described.stands in
      let (one, within, condition) = first_stands o a.seat.env c.condition q stands in
      let same : AgreeOnVars a.seat.env start h.procedure.start = subst (λ (p : Procedure). AgreeOnVars a.seat.env start p.start) a.procedure a.seat.described.started in
      let (out, less, there) = at_start o a.seat.env start h c.condition one same c.closed condition in
      let mode : a.after.mode ≡ g.mode = a.changed.mode (λ e. cc) in
      record {
        g = a.after;
        out = out;
        fits = fits_less (λ e. let x = split e in let y = within e in let z = less e in omega arith) a.seat.base.fits;
        stands = there;
        consistent = a.seat.base.consistent;
        tells = tells_on s g a.after _ a.changed (λ e. mode ∙ e) (λ e. mode ∙ e) tells;
        mode = mode ∙ owned;
      }

  crash_same : (a b : Option Atom) (x y : Atom) → a ≡ b → a ≡ Some x → b ≡ Some y → x ≡ y
  crash_same a b x y e p q = let both : Some x ≡ Some y = sym p ∙ e ∙ q in cc

  -- from the callee's condition to that of the first frame, through each frame that waits
  lead : (mode : Mode) (role : Role) (below : List Frame) (p : Procedure) (values : Env) (targets : List ℕ) (lower outer : Piece) → mode ≡ Owned → ((t : Target) → IsMarked w t → ⊥)
      → (condition : Atom) → p.crash ≡ Some condition → Below o mode role below p values targets lower → Safe o s w values condition (λ e. lower e + outer e) → Crashable o s w
  lead mode role _ p values targets lower outer owned unmarked condition is (first b) safe = at role b
    where
      not_shared : Shared ≡ Owned → ⊥
      not_shared e = cc

      at : (role : Role) → Begins o mode role p values → Crashable o s w
      at runs.Recovers b =
          let same : condition ≡ Instance o.proof.crash [] = crash_same p.crash p.crash condition (Instance o.proof.crash []) refl is (b.1 owned) in
          let here : StandsFor o.proof.preds values (Instance o.proof.crash []) safe.out = subst (λ (a : Atom). StandsFor o.proof.preds values a safe.out) same safe.stands in
          record {
            g = safe.g;
            pool = safe.out;
            fits = fits_less (λ e. omega arith) safe.fits;
            stands = λ env args valued_none. at_values o.proof.preds values env o.proof.crash [] args safe.out valued_none here;
            consistent = safe.consistent;
            tells = safe.tells;
          }
      at (runs.Answers call) b = absurd (not_shared (sym b.1 ∙ owned))
      at runs.Spawned b = absurd (not_shared (sym b.1 ∙ owned))
  lead mode role _ p values targets lower outer owned unmarked condition is (waits {f = f} {below = below} start mine under parts serves wa more) safe =
      let m = wa.meanwhile owned in
      let same : condition ≡ m.condition = crash_same p.crash p.crash condition m.condition refl is m.is in
      let there : StandsFor o.proof.preds values m.condition safe.out = subst (λ (a : Atom). StandsFor o.proof.preds values a safe.out) same safe.stands in
      let given_there = (closed_law p.start values (given_under wa.given wa.env)).stands wa.linked o.proof.preds (m.condition ∷ []) safe.out (m.closed, tt) (both safe.out (λ e. 0) (λ e. omega arith) there none) in
      let put = all_into o.proof.preds wa.given m.sorted (m.condition ∷ []) wa.env safe.out (m.apart, tt) given_there in
      let (q, within, stands) = first_stands o wa.env (put_in_atom wa.given m.condition) safe.out put in
      let at : Path = record wa.waiting { atoms = put_in_atom wa.given m.condition ∷ wa.waiting.atoms } in
      let d = wa.described in
      let rest : Piece = λ e. under e + outer e in
      let seat : Seat o.proof w safe.g start f at rest = record {
        env = wa.env;
        piece = λ e. q e + mine e;
        pool = λ e. 0;
        locks = λ n e. 0;
        described = record {
          todo = d.todo;
          as_many = d.as_many;
          locals = d.locals;
          valuation = d.valuation;
          started = d.started;
          facts = d.facts;
          stands = both q mine (λ e. omega arith) stands d.stands;
        };
        base = record {
          fits = fits_less (λ e. let x = parts e in let y = within e in let z = no_locks e in omega arith) safe.fits;
          mode = safe.mode ∙ sym owned ∙ sym wa.in_mode;
          crash = λ shared. absurd (not_shared (sym shared ∙ wa.in_mode ∙ owned));
          free = λ object guard guarded. absurd (nothing (safe.consistent.unguarded (λ e. not_shared (sym e ∙ safe.mode)) object) guarded);
          consistent = safe.consistent;
        };
        still = λ t marked. absurd (unmarked t marked);
      } in
      let next = left_safe safe.g start f at rest m.leaves safe.tells safe.mode seat in
      lead mode role below wa.waiting.procedure start f.results under outer owned unmarked m.leaves.condition m.leaves.is more next
    where
      not_shared : Shared ≡ Owned → ⊥
      not_shared e = cc

      nothing : {A : Type 0} {x : Option A} {y : A} → x ≡ None → x ≡ Some y → ⊥
      nothing a b = cc

      no_locks : (e : Resource) → of_locks w (λ n e. 0) e ≡ 0
      no_locks e = sum_zero (suc (length w.objects))

  -- ---- from a path in own mode

  module _ (role : Role) (f : Frame) (below : List Frame) (start : Env) (lower outer : Piece) (old : Mode) (j : IsJustified o) (unmarked : (t : Target) → IsMarked w t → ⊥) where
    abbrev At : Path → Type 0
    At h = Held o s w role f below h start lower (λ e. lower e + outer e) old

    safe_here : (h : Path) → h.mode ≡ Owned → LeavesCondition o h → At h → Crashable o s w
    safe_here h owned c x =
        let mode = x.seat.base.mode ∙ owned in
        lead x.g.mode role below h.procedure start f.results lower outer mode unmarked c.condition c.is x.waiting (left_safe x.g start f h (λ e. lower e + outer e) c x.tells mode x.seat)

    owned_here : (h : Path) → h.mode ≢ Shared → h.mode ≢ Sharing → h.mode ≡ Owned
    owned_here h a b = elim (mode_cases h.mode) [ inl e ↦ e | inr (inl e) ↦ absurd (b e) | inr (inr e) ↦ absurd (a e) ]

    at_end : (h k : Path) → h.procedure.role ≡ paths.Recovers → EndsSharing o.proof h k → At h → Crashable o s w
    at_end h _ recovers (ends_sharing left sharing closed takes) x =
        let k : Path = record h { atoms = left; mode = Shared } in
        let y = held_shared o s w role f below start lower (λ e. lower e + outer e) old h k recovers (ends_sharing left sharing closed takes) x in
        record {
          g = y.g;
          pool = y.seat.pool;
          fits = fits_less (λ e. omega arith) y.seat.base.fits;
          stands = y.seat.base.crash refl closed;
          consistent = y.seat.base.consistent;
          tells = y.tells;
        }

    unshared : Sharing ≡ Shared → ⊥
    unshared e = cc

    mutual
      find_first : (h : Path) → h.mode ≢ Shared → Leads o false h → At h → Crashable o s w
      find_first h ne (by_move c ks sound all) x = let (place, k, among, held) = moved o s w role f below start lower (λ e. lower e + outer e) old h ks c sound x in find_all h ne ks all place k among held
      find_first h ne (by_step c ks may sound follow) x = let owned = owned_here h ne may.mode in safe_here h owned (may.safe owned) x
      find_first h ne (by_write ks may sound follow) x = let owned = owned_here h ne may.mode in safe_here h owned (may.safe owned) x
      find_first h ne (by_call waiting callee behind given xs n may call block leads) x = let owned = owned_here h ne may.mode in safe_here h owned (may.safe owned) x
      find_first h ne (by_spawn k callee given n may shared sound beside serves mode bracket block leads) x = absurd (ne shared)
      find_first h ne (by_return may not_recovers sound) x = let owned = owned_here h ne may.mode in safe_here h owned (may.safe owned) x
      find_first h ne (by_sharing k begins leads) x = find_first k (sharing_mode h k begins) leads (held_sharing o s w role f below start lower (λ e. lower e + outer e) old h k begins x)
      find_first h ne (by_shared k recovers ends leads) x = at_end h k recovers ends x
      find_first h ne (by_boot e place next choices k todo shared opened recovers sound hands) x = absurd (ne shared)

      find_all : (h : Path) → h.mode ≢ Shared → (ks : List Path) → AllLead o false h ks → (place : ℕ) (k : Path) → slice_get ks place ≡ Some k → (k.mode ≡ h.mode → At k) → Crashable o s w
      find_all h ne [] no_path place k among held = absurd cc
      find_all h ne (k ∷ ks) (a_path mode used leads more) zero p among held =
          let is : k ≡ p = only_first k p ks among in find_first k (λ e. ne (sym mode ∙ e)) leads (subst (λ q. At q) (sym is) (held (subst (λ q. q.mode ≡ h.mode) is mode)))
      find_all h ne (k ∷ ks) (a_path mode used leads more) (suc place) p among held = find_all h ne ks more place p among held

    mutual
      find : (h : Path) → h.mode ≢ Shared → Leads o true h → At h → Crashable o s w
      find h ne (by_move c ks sound all) x = let (place, k, among, held) = moved o s w role f below start lower (λ e. lower e + outer e) old h ks c sound x in find_each h ne ks all place k among held
      find h ne (by_cut n k block sound closed beside) x =
          find_first k (λ e. ne (sym beside.mode ∙ e)) (j.blocks n k block) (cut_move o s w role f below start lower (λ e. lower e + outer e) old h k sound beside.mode x)
      find h ne (by_step c ks may sound follow) x = let owned = owned_here h ne may.mode in safe_here h owned (may.safe owned) x
      find h ne (by_write ks may sound follow) x = let owned = owned_here h ne may.mode in safe_here h owned (may.safe owned) x
      find h ne (by_call waiting callee behind given xs n may call block leads) x = let owned = owned_here h ne may.mode in safe_here h owned (may.safe owned) x
      find h ne (by_spawn k callee given n may shared sound beside serves mode bracket block leads) x = absurd (ne shared)
      find h ne (by_return may not_recovers sound) x = let owned = owned_here h ne may.mode in safe_here h owned (may.safe owned) x
      find h ne (by_sharing k begins leads) x = find k (sharing_mode h k begins) leads (held_sharing o s w role f below start lower (λ e. lower e + outer e) old h k begins x)
      find h ne (by_shared k recovers ends leads) x = at_end h k recovers ends x
      find h ne (by_boot e place next choices k todo shared opened recovers sound hands) x = absurd (ne shared)

      find_each : (h : Path) → h.mode ≢ Shared → (ks : List Path) → AllLead o true h ks → (place : ℕ) (k : Path) → slice_get ks place ≡ Some k → (k.mode ≡ h.mode → At k) → Crashable o s w
      find_each h ne [] no_path place k among held = absurd cc
      find_each h ne (k ∷ ks) (a_path mode used leads more) zero p among held =
          let is : k ≡ p = only_first k p ks among in find k (λ e. ne (sym mode ∙ e)) leads (subst (λ q. At q) (sym is) (held (subst (λ q. q.mode ≡ h.mode) is mode)))
      find_each h ne (k ∷ ks) (a_path mode used leads more) (suc place) p among held = find_each h ne ks more place p among held

    pub find_from : (b : Bool) (h : Path) → h.mode ≢ Shared → Leads o b h → At h → Crashable o s w
    find_from true h ne leads x = find h ne leads x
    find_from false h ne leads x = find_first h ne leads x

-- ---- from the invariant

-- a seat in the heap without its marks
unmarked_base : (o : Proof) (w : World) (g : Ghost) (m : Mode) (b : paths.Bracket) (p pool : Piece) (locks : ℕ → Piece) (rest : Piece) → Base o w g m b p pool locks rest
    → Base o (unmarked w) g m b p pool locks rest
unmarked_base o w g m b p pool locks rest base = record {
  fits = fits_same (told_unmarked (shape_of o) w g) (fits_less (λ e. let l = same_locks e in omega arith) base.fits);
  mode = base.mode;
  crash = base.crash;
  free = λ object guard guarded free. base.free object guard guarded (sym (locked_same w object) ∙ free);
  consistent = consistent_objects o w g (unmarked w).objects (as_many w.objects) base.consistent;
}
  where
    same_locks : (e : Resource) → of_locks (unmarked w) locks e ≡ of_locks w locks e
    same_locks e = ap (λ k. sum_below (suc k) (λ j. locks j e)) (as_many w.objects)

module _ (o : Outline) (s : Run) (i : Invariant o s) (j : IsJustified o) where
  -- recovery's thread, at a path of own mode
  of_stack : (n : ℕ) (f : Frame) (below : List Frame) (begun : Bool) (is : living s.threads (suc n) ≡ Some (runs.Recovers, thread f below begun)) (b : Bool) (h : Path)
      → i.ghost.mode ≡ Owned → (st : Stack o i.ghost.mode runs.Recovers f below h (i.owns n))
      → (lower : Piece) × Held o s (unmarked s.world) runs.Recovers f below h st.start lower (λ e. lower e + (i.handle e + (badge_of runs.Recovers e + of_others s.threads i.owns n e))) i.ghost.mode
  of_stack n f below begun is b h owned st =
      let l = lowered o i.ghost.mode runs.Recovers below h.procedure st.start f.results st.lower st.rest in
      let base = base_at o s i n runs.Recovers f below begun is h st l.lower l.less in
      let base_here = unmarked_base o.proof s.world i.ghost h.mode h.bracket st.mine i.pool i.locks (rest o s i n runs.Recovers f below begun is l.lower) base in (
        l.lower,
        record {
          g = i.ghost;
          tells = i.tells;
          seat = record {
            env = st.env;
            piece = st.mine;
            pool = i.pool;
            locks = i.locks;
            described = st.described;
            base = record {
              fits = fits_less (λ e. omega arith) base_here.fits;
              mode = base_here.mode;
              crash = base_here.crash;
              free = base_here.free;
              consistent = base_here.consistent;
            };
            still = λ t m. absurd (none_marked s.world t m);
          };
          waiting = l.waiting;
          shared = λ e. e;
          quiet = λ recovers owned_now key v. (let q = quiet_rest o s i n runs.Recovers f below begun is l.lower (l.none recovers) owned key v in omega arith);
        },
      )

  owned_path : (n : ℕ) (f : Frame) (below : List Frame) (h : Path) (st : Stack o i.ghost.mode runs.Recovers f below h (i.owns n)) → i.ghost.mode ≡ Owned → h.mode ≢ Shared
  owned_path n f below h st owned e = let both : Owned ≡ Shared = sym owned ∙ sym st.in_mode ∙ e in cc

  of_thread : (n : ℕ) (th : Thread) → living s.threads (suc n) ≡ Some (runs.Recovers, th) → i.ghost.mode ≡ Owned → IsReady o s.world i.ghost.mode runs.Recovers (i.owns n) th → Crashable o s (unmarked s.world)
  of_thread n _ is owned (at_rest {f = f} {below = below} b h st leads) =
      let (lower, x) = of_stack n f below false is b h owned st in
      find_from o s (unmarked s.world) runs.Recovers f below st.start lower (λ e. i.handle e + (badge_of runs.Recovers e + of_others s.threads i.owns n e)) i.ghost.mode j (none_marked s.world) b h
      (owned_path n f below h st owned) leads x
  of_thread n _ is owned (in_write {f = f} {below = below} h ks st may sound follow mine room) =
      let (lower, x) = of_stack n f below true is true h owned st in
      find_from o s (unmarked s.world) runs.Recovers f below st.start lower (λ e. i.handle e + (badge_of runs.Recovers e + of_others s.threads i.owns n e)) i.ghost.mode j (none_marked s.world) true h
      (owned_path n f below h st owned) (by_write ks may sound follow) x

  pub found_at_crash : Crashable o s (unmarked s.world)
  found_at_crash = elim (mode_cases i.ghost.mode) [
    | inl owned ↦ (let alone = i.alone owned in of_thread alone.place alone.thread alone.is owned (i.ready alone.place (runs.Recovers, alone.thread) alone.is))
    | inr (inl sharing) ↦ absurd (i.settled sharing)
    | inr (inr shared) ↦ (
        let base = unmarked_base o.proof s.world i.ghost i.ghost.mode Closed (λ e. 0) i.pool i.locks (λ e. i.handle e + of_threads s.threads i.owns e) i.base in
        record {
          g = i.ghost;
          pool = i.pool;
          fits = fits_less (λ e. omega arith) base.fits;
          stands = base.crash shared refl;
          consistent = base.consistent;
          tells = i.tells;
        })
  ]
