-- A disk fails: what is told of it is new, and nobody knew it.
use Rattle.std.proofs.Common.{◌≡◌, ◌≢◌, ◌⊎◌, ℕ, zero, suc, ◌+◌, ◌<◌, Bool, true, false, not, ◌&&◌, ◌||◌, List, [], ◌∷◌, length, Option, Some, None, refl, sym, ap, subst, ◌∙◌, inl, inr, arith}
use Rattle.std.specs.Prelude.{slice_get, slice_set, nat_eq, nat_lt, map, if◌then◌else◌}
use Rattle.std.specs.List.{list_any}
use Rattle.gv_base.specs.declared.answer.Answer.{Answer}
use Rattle.gv_base.specs.declared.answer.Answer.TheVariants.{Next, Blocked, Undefined}
use Rattle.gv_terms.specs.declared.value.Value.{Value}
use Rattle.gv_terms.specs.declared.value.Value.TheVariants as val
use Rattle.gv_world.specs.Store.{Disk, Store as World}
use Rattle.gv_world.specs.Disks.{fail_disk, may_fail, failed_at}
use Rattle.gv_spec.specs.Event as event
use Rattle.gv_spec.specs.Runs.{Role, living, unless_undefined, disk_failed}
use Rattle.gv_lang.specs.Threads.{Thread}
use Rattle.gv_runs.specs.Machine.{possible}
use Rattle.gv_resources.specs.Kinds as kind
use Rattle.gv_resources.specs.Kinds.{Kind}
use Rattle.gv_resources.specs.Ghost.{Ghost}
use Rattle.gv_resources.specs.Pieces.{Resource, Have, Piece, Fits}
use Rattle.gv_resources.specs.Told.{Shape, told, under, number_of, failed_in, only_if}
use Rattle.gv_resources.proofs.Fitting.{fits_less, fits_keeps}
use Rattle.gv_resources.proofs.Sums.{number_test}
use Rattle.gv_seats.specs.Seats.{Proof, shape_of, IsConsistent, AreShadows, FailAlone, Base, Target, IsMarked}
use Rattle.gv_seats.specs.Seats as seats
use Rattle.gv_seats.proofs.Locals.{set_there, set_elsewhere, set_length}
use Rattle.gv_invariant.specs.Outlines.{Outline}
use Rattle.gv_invariant.specs.Invariant.{Run, of_threads, Invariant}
use Rattle.gv_invariant.specs.Laws.{Keeps, waits, goes_on, FailLaw}
use Rattle.gv_invariant.proofs.Rebuild.{ready_again}
use Rattle.gv_invariant.proofs.Sums.{threads_split}
use Rattle.gv_marks.proofs.Commands.{same_disks}

some_same : {A : Type 0} (x y : A) → Some x ≡ Some y → x ≡ y
some_same x y e = cc

none_of : (disks : List Disk) → list_any (λ disk. disk.failed) disks ≡ false → (e : ℕ) (disk : Disk) → slice_get disks e ≡ Some disk → disk.failed ≡ false
none_of [] none e disk is = absurd cc
none_of (x ∷ disks) none zero disk is = let same : x ≡ disk = some_same x disk is in ap (λ (y : Disk). y.failed) (sym same) ∙ first x.failed none
  where
    first : (b : Bool) → (b || list_any (λ disk. disk.failed) disks) ≡ false → b ≡ false
    first true e = absurd cc
    first false e = refl
none_of (x ∷ disks) none (suc e) disk is = none_of disks (behind x.failed none) e disk is
  where
    behind : (b : Bool) → (b || list_any (λ disk. disk.failed) disks) ≡ false → list_any (λ disk. disk.failed) disks ≡ false
    behind true e = absurd cc
    behind false e = e

module _ (o : Proof) (w : World) (g : Ghost) (d : ℕ) (disk : Disk) (there : slice_get w.disks d ≡ Some disk) (two : length w.disks ≡ 2) (none : list_any (λ disk. disk.failed) w.disks ≡ false) where
  abbrev failed : Disk
  failed = record disk { failed = true }

  abbrev now : World
  now = record w { disks = slice_set w.disks d failed }

  within : d < length w.disks
  within = at w.disks d there
    where
      at : (disks : List Disk) (d : ℕ) → slice_get disks d ≡ Some disk → d < length disks
      at [] d e = absurd cc
      at (x ∷ disks) zero e = omega arith
      at (x ∷ disks) (suc d) e = let l = at disks d e in omega arith

  disk_at : (e : ℕ) (x : Disk) → slice_get now.disks e ≡ Some x → ((e ≡ d) × (failed ≡ x)) ⊎ ((e ≢ d) × (slice_get w.disks e ≡ Some x))
  disk_at e x is = elim (number_test e d) [
    | inl (same, t) ↦ inl (same, some_same failed x (sym (set_there w.disks d failed within) ∙ ap (λ k. slice_get now.disks k) (sym same) ∙ is))
    | inr (ne, t) ↦ inr (ne, sym (set_elsewhere w.disks d e failed ne) ∙ is)
  ]

  told_now : (k : Kind) (key v : List Value) → told (shape_of o) w g k key ≡ Some v → told (shape_of o) now g k key ≡ Some v
  told_now kind.Down key v e = at (number_of key) e
    where
      at : (found : Option ℕ) → under found (λ m. failed_in (slice_get w.disks m)) ≡ Some v → under found (λ m. failed_in (slice_get now.disks m)) ≡ Some v
      at None e = absurd cc
      at (Some m) e = elim (number_test m d) [
        | inl (same, t) ↦ absurd (alive (sym (ap failed_in (ap (λ k. slice_get w.disks k) same ∙ there)) ∙ e))
        | inr (ne, t) ↦ ap failed_in (set_elsewhere w.disks d m failed ne) ∙ e
      ]
        where
          not_failed : (b : Bool) → b ≡ false → only_if b (Some []) ≡ Some v → ⊥
          not_failed true a e = cc
          not_failed false a e = cc

          alive : failed_in (Some disk) ≡ Some v → ⊥
          alive e = not_failed disk.failed (none_of w.disks none d disk there) e
  told_now _ key v e = e

  consistent_now : IsConsistent o w g → IsConsistent o now g
  consistent_now c = record {
    fresh = c.fresh;
    blocks = record {
      as_many = set_length w.disks d failed ∙ c.blocks.as_many;
      sized = λ e x is. elim (disk_at e x is) [
        | inl (same, is_failed) ↦ ap (λ (y : Disk). length y.blocks) (sym is_failed) ∙ c.blocks.sized d disk there
        | inr (ne, before) ↦ c.blocks.sized e x before
      ];
      same = λ e x is alive. elim (disk_at e x is) [
        | inl (same, is_failed) ↦ absurd (differ (ap (λ (y : Disk). y.failed) is_failed ∙ alive))
        | inr (ne, before) ↦ c.blocks.same e x before alive
      ];
      long = c.blocks.long;
      whole = c.blocks.whole;
    };
    failures = record {
      one = λ e f x y e_is f_is a b. only e x e_is a ∙ sym (only f y f_is b);
      of_two = λ e x is a. set_length w.disks d failed ∙ two;
    };
    fields = c.fields;
    names = c.names;
    unguarded = c.unguarded;
    walked = c.walked;
  }
    where
      differ : true ≡ false → ⊥
      differ e = cc

      only : (e : ℕ) (x : Disk) → slice_get now.disks e ≡ Some x → x.failed ≡ true → e ≡ d
      only e x is a = elim (disk_at e x is) [
        | inl (same, is_failed) ↦ same
        | inr (ne, before) ↦ absurd (differ (sym a ∙ none_of w.disks none e x before))
      ]

-- the invariant with that disk failed
failed_inv : (o : Outline) (s : Run) (i : Invariant o s) (d : ℕ) (disk : Disk) → slice_get s.world.disks d ≡ Some disk → length s.world.disks ≡ 2
    → list_any (λ disk. disk.failed) s.world.disks ≡ false → Invariant o (record s { world = record s.world { disks = slice_set s.world.disks d (record disk { failed = true }) } })
failed_inv o s i d disk there two none =
    let g = i.ghost in
    let w = s.world in
    let later : World = record w { disks = slice_set w.disks d (record disk { failed = true }) } in
    let fits = fits_keeps (λ k key v l e. told_now o.proof w g d disk there two none k key v e) i.base.fits in
    record {
      ghost = g;
      pool = i.pool;
      locks = i.locks;
      handle = i.handle;
      owns = i.owns;
      base = record {
        fits = fits;
        mode = refl;
        crash = i.base.crash;
        free = i.base.free;
        consistent = consistent_now o.proof w g d disk there two none i.base.consistent;
      };
      ready = λ n x lives. ready_again o w later g g g.mode x.0 (i.owns n) (i.owns n) x.1 (λ e. omega arith)
          (fits_less (λ e. let a = threads_split s.threads i.owns n x e lives in omega arith) i.base.fits)
          (fits_less (λ e. let a = threads_split s.threads i.owns n x e lives in omega arith) fits) (i.ready n x lives);
      written = λ t m. i.written t (same_disks w later.disks t m);
      settled = i.settled;
      alone = i.alone;
      tells = record { history = i.tells.history; calls = i.tells.calls; booted = i.tells.booted; since = i.tells.since; gone = i.tells.gone; shared = i.tells.shared };
      root = i.root;
      copied = i.copied;
      fault = i.fault;
    }

both_true : (a b : Bool) → (a && b) ≡ true → (a ≡ true) × (b ≡ true)
both_true true b e = (refl, e)
both_true false b e = absurd cc

pub fail_law : FailLaw
fail_law o s i disk =
    subst (λ f. Keeps o (unless_undefined f (disk_failed s (possible (fail_disk s.world disk))))) (sym i.fault) (at (may_fail s.world disk) refl (slice_get s.world.disks disk) refl)
  where
    at : (may : Bool) → may_fail s.world disk ≡ may → (found : Option Disk) → slice_get s.world.disks disk ≡ found
        → Keeps o (disk_failed s (possible (if may then Next (failed_at s.world disk found) else Blocked)))
    at false may found is = waits
    at true may (Some d) is =
        let a = both_true _ _ may in
        let b = both_true _ _ a.0 in
        goes_on (failed_inv o s i disk d is (is_two (length s.world.disks) b.0) (not_any (list_any (λ disk. disk.failed) s.world.disks) a.1))
      where
        is_two : (n : ℕ) → nat_eq n 2 ≡ true → n ≡ 2
        is_two n e = grind arith

        not_any : (b : Bool) → not b ≡ true → b ≡ false
        not_any true e = absurd cc
        not_any false e = refl
    at true may None is =
        let a = both_true _ _ may in
        let b = both_true _ _ a.0 in
        absurd (missing s.world.disks disk is (below (length s.world.disks) disk b.0 b.1))
      where
        below : (n m : ℕ) → nat_eq n 2 ≡ true → nat_lt m 2 ≡ true → m < n
        below n m a b = grind arith

        missing : (disks : List Disk) (d : ℕ) → slice_get disks d ≡ None → d < length disks → ⊥
        missing [] d e l = omega (arith, l)
        missing (x ∷ disks) zero e l = cc
        missing (x ∷ disks) (suc d) e l = missing disks d e (omega (arith, l))
