-- The invariant, with one thread given anew.
use Rattle.std.proofs.Common.{◌≡◌, ◌≢◌, ◌⊎◌, ℕ, zero, suc, ◌+◌, ◌<◌, ◌≤◌, Bool, true, false, List, [], ◌∷◌, length, Option, Some, None, refl, sym, ap, subst, ◌∙◌, inl, inr, arith}
use Rattle.std.specs.Prelude.{is_some}
use Rattle.gv_base.specs.declared.val.Val.{Val}
use Rattle.gv_terms.specs.declared.value.Env.{Env}
use Rattle.gv_terms.specs.declared.value.Value.{Value}
use Rattle.gv_world.specs.Store.{Store as World}
use Rattle.gv_lang.specs.Threads.{Frame, Thread}
use Rattle.gv_spec.specs.Runs.{Role, Recovers, Answers, Spawned, living, replaced}
use Rattle.gv_resources.specs.Kinds.{Kind, is_persistent}
use Rattle.gv_resources.specs.Ghost.{Ghost, Mode, Owned, Sharing, Shared}
use Rattle.gv_resources.specs.Pieces.{Resource, Have, Piece, Fits}
use Rattle.gv_resources.specs.Told.{told}
use Rattle.gv_resources.proofs.Fitting.{fits_less}
use Rattle.gv_resources.proofs.Sums.{number_test, with_piece, piece_there, piece_elsewhere}
use Rattle.gv_assertions.specs.Standing.{AreParts}
use Rattle.gv_seats.specs.Paths.{Path, Closed}
use Rattle.gv_seats.specs.Seats.{Proof, shape_of, Base, Seat, Target, IsMarked, Writes, OwnsTarget, AreOwned, of_locks}
use Rattle.gv_seats.proofs.Owning.{owned_more}
use Rattle.gv_invariant.specs.Outlines.{Outline, Leads}
use Rattle.gv_invariant.specs.Stacks.{Stack, Below, IsReady, at_rest, in_write}
use Rattle.gv_invariant.specs.Invariant.{Run, badge, badge_of, of_threads, IsWritten, IsAlone, Tells, IsHandle, InvariantBeside, Invariant}
use Rattle.gv_invariant.proofs.Threads.{living_within, replaced_there, replaced_elsewhere}
use Rattle.gv_invariant.proofs.Sums.{of_others, threads_split, threads_replaced, other_within}
use Rattle.gv_invariant.proofs.Rooms.{room_kept}

pub some_same : {A : Type 0} (x y : A) → Some x ≡ Some y → x ≡ y
some_same x y e = cc

pub mode_cases : (m : Mode) → (m ≡ Owned) ⊎ (m ≡ Sharing) ⊎ (m ≡ Shared)
mode_cases Owned = inl refl
mode_cases Sharing = inr (inl refl)
mode_cases Shared = inr (inr refl)

-- ---- threads that are ready, with more, in another world

unfoldable pub stack_more : (o : Outline) (mode : Mode) (role : Role) (f : Frame) (below : List Frame) (h : Path) (p q : Piece) → ((e : Resource) → p e ≤ q e) → Stack o mode role f below h p
    → Stack o mode role f below h q
stack_more o mode role f below h p q le s = record {
  start = s.start;
  env = s.env;
  mine = s.mine;
  lower = s.lower;
  parts = λ e. (let l = le e in let a = s.parts e in omega arith);
  bracket = s.bracket;
  in_mode = s.in_mode;
  described = s.described;
  rest = s.rest;
}

pub ready_again : (o : Outline) (w after : World) (g now : Ghost) (mode : Mode) (role : Role) (p q : Piece) (th : Thread) → ((e : Resource) → p e ≤ q e) → Fits p (told (shape_of o.proof) w g)
    → Fits p (told (shape_of o.proof) after now) → IsReady o w mode role p th → IsReady o after mode role q th
unfolding stack_more
ready_again o w after g now mode role p q _ le before fits (at_rest b h s leads) = at_rest b h (stack_more o mode role _ _ h p q le s) leads
ready_again o w after g now mode role p q _ le before fits (in_write {f = f} {below = below} h ks s may sound follow mine room) =
    in_write h ks (stack_more o mode role f below h p q le s) may sound follow mine
    (room_kept (shape_of o.proof) w after g now f s.mine (fits_less (λ e. let a = s.parts e in omega arith) before) (fits_less (λ e. let a = s.parts e in omega arith) fits) mine room)

-- ---- one thread given anew

-- what a thread's step leaves beside its own piece
abbrev pub beside : Piece → Piece → Role → Piece → Piece
beside handle lower role others e = handle e + (lower e + (badge_of role e + others e))

module _ (o : Outline) (s : Run) (i : Invariant o s) (n : ℕ) (x : Role × Thread) (is : living s.threads (suc n) ≡ Some x) where
  abbrev pub others : Piece
  others = of_others s.threads i.owns n

  -- the write is another thread's
  pub record Elsewhere (t : Target) : Type 0 where
    pub place : ℕ
    pub thread : Role × Thread
    pub other : place ≢ n
    pub there : living s.threads (suc place) ≡ Some thread
    pub begun : thread.1.begun ≡ true
    pub writes : Writes thread.1.top t

  -- or this one's
  pub record Here (y : Option (Role × Thread)) (t : Target) : Type 0 where
    pub thread : Role × Thread
    pub there : y ≡ Some thread
    pub begun : thread.1.begun ≡ true
    pub writes : Writes thread.1.top t

  -- what is known behind a step of the thread
  pub record After (later : Run) (y : Option (Role × Thread)) (extra : Piece) : Type 0 where
    pub threads : later.threads ≡ replaced s.threads (suc n) y
    pub g : Ghost
    pub piece : Piece
    pub pool : Piece
    pub locks : ℕ → Piece
    pub handle : Piece
    pub base : Base o.proof later.world g g.mode Closed extra pool locks (λ e. handle e + ((piece e + badge y e) + others e))
    pub ready : (z : Role × Thread) → y ≡ Some z → IsReady o later.world g.mode z.0 piece z.1
    pub mode : i.ghost.mode ≡ Shared → g.mode ≡ Shared
    pub settled : g.mode ≢ Sharing
    pub recovers : g.mode ≡ Owned → (th : Thread) × (y ≡ Some (Recovers, th))
    pub marks : (t : Target) → IsMarked later.world t → Elsewhere t ⊎ Here y t
    pub tells : Tells later g
    pub root : (receiver : List Val) → later.receiver ≡ Some receiver → IsHandle o receiver handle
    pub copied : (k : Kind) (key v : List Value) → is_persistent k ≡ false → handle (Have k key v) ≡ 0
    pub fault : later.fault ≡ None

  pub was_owned : (g : Ghost) → (i.ghost.mode ≡ Shared → g.mode ≡ Shared) → g.mode ≡ Owned → i.ghost.mode ≡ Owned
  was_owned g mode owned = elim (mode_cases i.ghost.mode) [
    | inl e ↦ e
    | inr (inl e) ↦ absurd (i.settled e)
    | inr (inr e) ↦ absurd (differ (sym (mode e) ∙ owned))
  ]
    where
      differ : Shared ≡ Owned → ⊥
      differ e = cc

  within : n < length s.threads
  within = living_within s.threads n x is

  other_fits : (m : ℕ) (z : Role × Thread) → living s.threads (suc m) ≡ Some z → m ≢ n → Fits (i.owns m) (told (shape_of o.proof) s.world i.ghost)
  other_fits m z there ne = fits_less (λ e. let a = threads_split s.threads i.owns n x e is in let b = other_within s.threads i.owns n m z e ne there in omega arith) i.base.fits

  module _ (later : Run) (y : Option (Role × Thread)) (extra : Piece) (a : After later y extra) where
    owns : ℕ → Piece
    owns = with_piece i.owns n a.piece

    living_here : living later.threads (suc n) ≡ y
    living_here = ap (λ ts. living ts (suc n)) a.threads ∙ replaced_there s.threads n y within

    living_elsewhere : (m : ℕ) → m ≢ n → living later.threads (suc m) ≡ living s.threads (suc m)
    living_elsewhere m ne = ap (λ ts. living ts (suc m)) a.threads ∙ replaced_elsewhere s.threads n m y ne

    sum_is : (e : Resource) → of_threads later.threads owns e ≡ (a.piece e + badge y e) + others e
    unfolding owns
    sum_is e = ap (λ ts. of_threads ts (with_piece i.owns n a.piece) e) a.threads ∙ threads_replaced s.threads i.owns n y a.piece e within

    ready : (m : ℕ) (z : Role × Thread) → living later.threads (suc m) ≡ Some z → IsReady o later.world a.g.mode z.0 (owns m) z.1
    unfolding owns
    ready m z there = elim (number_test m n) [
      | inl (same, t) ↦
          let here : y ≡ Some z = sym living_here ∙ ap (λ k. living later.threads (suc k)) (sym same) ∙ there in
          let fits : Fits a.piece (told (shape_of o.proof) later.world a.g) = fits_less (λ e. omega arith) a.base.fits in
          ready_again o later.world later.world a.g a.g a.g.mode z.0 a.piece (with_piece i.owns n a.piece m) z.1
          (λ e. let k : with_piece i.owns n a.piece m e ≡ a.piece e = ap (λ j. with_piece i.owns n a.piece j e) same ∙ piece_there i.owns n a.piece e in omega arith) fits fits (a.ready z here)
      | inr (ne, t) ↦
          let before = sym (living_elsewhere m ne) ∙ there in
          let shared : i.ghost.mode ≡ Shared = is_shared m z ne before in
          let ready_then = i.ready m z before in
          let same_mode : i.ghost.mode ≡ a.g.mode = shared ∙ sym (a.mode shared) in
          ready_again o s.world later.world i.ghost a.g a.g.mode z.0 (i.owns m) (with_piece i.owns n a.piece m) z.1
          (λ e. let k = piece_elsewhere i.owns n m a.piece e ne in omega arith) (other_fits m z before ne)
          (fits_less (λ e. let b = other_within s.threads i.owns n m z e ne before in omega arith) a.base.fits)
          (subst (λ k. IsReady o s.world k z.0 (i.owns m) z.1) same_mode ready_then)
    ]
      where
        is_shared : (m : ℕ) (z : Role × Thread) → m ≢ n → living s.threads (suc m) ≡ Some z → i.ghost.mode ≡ Shared
        is_shared m z ne there = elim (mode_cases i.ghost.mode) [
          | inl e ↦ (let alone = i.alone e in absurd (ne (alone.only m z there ∙ sym (alone.only n x is))))
          | inr (inl e) ↦ absurd (i.settled e)
          | inr (inr e) ↦ e
        ]

    written : (t : Target) → IsMarked later.world t → IsWritten later.threads t
    written t m = elim (a.marks t m) [
      | inl there ↦ record { place = there.place; thread = there.thread; is = living_elsewhere there.place there.other ∙ there.there; begun = there.begun; writes = there.writes }
      | inr here ↦ record { place = n; thread = here.thread; is = living_here ∙ here.there; begun = here.begun; writes = here.writes }
    ]

    alone : a.g.mode ≡ Owned → IsAlone later.threads owns
    unfolding owns
    alone owned =
        let before = i.alone (was_owned a.g a.mode owned) in
        let place_is : n ≡ before.place = before.only n x is in
        let (th, there) = a.recovers owned in
        record {
          place = n;
          thread = th;
          is = living_here ∙ there;
          only = λ m z lives. elim (number_test m n) [
            | inl (same, t) ↦ same
            | inr (ne, t) ↦ before.only m z (sym (living_elsewhere m ne) ∙ lives) ∙ sym place_is
          ];
          none = λ m e ne. piece_elsewhere i.owns n m a.piece e ne ∙ before.none m e (λ q. ne (q ∙ sym place_is));
        }

    pub rebuilt : InvariantBeside o later extra
    unfolding owns
    rebuilt = record {
      ghost = a.g;
      pool = a.pool;
      locks = a.locks;
      handle = a.handle;
      owns = with_piece i.owns n a.piece;
      base = record {
        fits = fits_less (λ e. let k = sum_is e in omega arith) a.base.fits;
        mode = refl;
        crash = a.base.crash;
        free = a.base.free;
        consistent = a.base.consistent;
      };
      ready = ready;
      written = written;
      settled = a.settled;
      alone = alone;
      tells = a.tells;
      root = a.root;
      copied = a.copied;
      fault = a.fault;
    }

    pub rebuilt_ghost : rebuilt.ghost ≡ a.g
    unfolding rebuilt owns
    rebuilt_ghost = refl
