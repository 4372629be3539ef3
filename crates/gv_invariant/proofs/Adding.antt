-- One thread more, which has what nobody had.
use Rattle.std.proofs.Common.{◌≡◌, ◌≢◌, ℕ, zero, suc, ◌+◌, ◌<◌, ◌≤◌, Bool, true, false, List, [], ◌∷◌, ◌++◌, length, Option, Some, None, refl, sym, ap, subst, ◌∙◌, inl, inr, arith}
use Rattle.gv_terms.specs.declared.value.Value.{Value}
use Rattle.gv_lang.specs.Threads.{Thread}
use Rattle.gv_spec.specs.Runs.{Role, living}
use Rattle.gv_resources.specs.Ghost.{Ghost, Owned, Shared}
use Rattle.gv_resources.specs.Pieces.{Resource, Have, Piece, Fits}
use Rattle.gv_resources.specs.Told.{told}
use Rattle.gv_resources.proofs.Fitting.{fits_less}
use Rattle.gv_resources.proofs.Sums.{number_test, with_piece, piece_there, piece_elsewhere}
use Rattle.gv_seats.specs.Seats.{shape_of, Target, IsMarked}
use Rattle.gv_invariant.specs.Outlines.{Outline}
use Rattle.gv_invariant.specs.Stacks.{IsReady}
use Rattle.gv_invariant.specs.Invariant.{Run, badge_of, IsWritten, InvariantBeside, Invariant}
use Rattle.gv_invariant.proofs.Threads.{living_within, added_there, added_elsewhere}
use Rattle.gv_invariant.proofs.Sums.{of_others, threads_split, threads_added}
use Rattle.gv_invariant.proofs.Rebuild.{ready_again}

module _ (o : Outline) (s : Run) (role : Role) (p : Piece) (i : InvariantBeside o s (λ e. p e + badge_of role e)) (shared : i.ghost.mode ≡ Shared) (th : Thread)
    (ready : IsReady o s.world i.ghost.mode role p th) where
  abbrev pub later : Run
  later = record s { threads = s.threads ++ Some (role, th) ∷ [] }

  before : (m : ℕ) (z : Role × Thread) → living s.threads (suc m) ≡ Some z → m ≢ length s.threads
  before m z lives e = let l = living_within s.threads m z lives in omega (arith, e, l)

  old_fits : (m : ℕ) (z : Role × Thread) → living s.threads (suc m) ≡ Some z → Fits (i.owns m) (told (shape_of o.proof) s.world i.ghost)
  old_fits m z lives = fits_less (λ e. let a = threads_split s.threads i.owns m z e lives in omega arith) i.base.fits

  new_fits : Fits p (told (shape_of o.proof) s.world i.ghost)
  new_fits = fits_less (λ e. omega arith) i.base.fits

  all_ready : (m : ℕ) (z : Role × Thread) → living later.threads (suc m) ≡ Some z → IsReady o s.world i.ghost.mode z.0 (with_piece i.owns (length s.threads) p m) z.1
  all_ready m z lives = elim (number_test m (length s.threads)) [
    | inl (e, t) ↦
        let is : (role, th) ≡ z = some_is (sym (added_there s.threads (Some (role, th))) ∙ ap (λ k. living later.threads (suc k)) (sym e) ∙ lives) in
        subst (λ (y : Role × Thread). IsReady o s.world i.ghost.mode y.0 (with_piece i.owns (length s.threads) p m) y.1) is
        (ready_again o s.world s.world i.ghost i.ghost i.ghost.mode role p (with_piece i.owns (length s.threads) p m) th
        (λ r. let k : with_piece i.owns (length s.threads) p m r ≡ p r = ap (λ j. with_piece i.owns (length s.threads) p j r) e ∙ piece_there i.owns (length s.threads) p r in omega arith)
        new_fits new_fits ready)
    | inr (ne, t) ↦
        let then = sym (added_elsewhere s.threads (Some (role, th)) m ne) ∙ lives in
        let fits = old_fits m z then in
        ready_again o s.world s.world i.ghost i.ghost i.ghost.mode z.0 (i.owns m) (with_piece i.owns (length s.threads) p m) z.1
        (λ r. let k = piece_elsewhere i.owns (length s.threads) m p r ne in omega arith) fits fits (i.ready m z then)
  ]
    where
      some_is : {A : Type 0} {a b : A} → Some a ≡ Some b → a ≡ b
      some_is e = cc

  pub added : Invariant o later
  added = record {
    ghost = i.ghost;
    pool = i.pool;
    locks = i.locks;
    handle = i.handle;
    owns = with_piece i.owns (length s.threads) p;
    base = record {
      fits = fits_less (λ e. let a = threads_added s.threads i.owns (Some (role, th)) p e in omega arith) i.base.fits;
      mode = i.base.mode;
      crash = i.base.crash;
      free = i.base.free;
      consistent = i.base.consistent;
    };
    ready = all_ready;
    written = λ t m. (let w = i.written t m in record {
      place = w.place;
      thread = w.thread;
      is = added_elsewhere s.threads (Some (role, th)) w.place (before w.place w.thread w.is) ∙ w.is;
      begun = w.begun;
      writes = w.writes;
    });
    settled = i.settled;
    alone = λ owned. absurd (not_owned (sym shared ∙ owned));
    tells = record { history = i.tells.history; calls = i.tells.calls; booted = i.tells.booted; since = i.tells.since; gone = i.tells.gone; shared = i.tells.shared };
    root = i.root;
    copied = i.copied;
    fault = i.fault;
  }
    where
      not_owned : Shared ≡ Owned → ⊥
      not_owned e = cc
