-- Moves: what is persistent is copied.
use Rattle.std.proofs.Common.{◌≡◌, ℕ, ◌+◌, ◌<◌, ◌≤◌, Bool, true, false, if◌then◌else◌, List, [], ◌∷◌, ◌++◌, Some, refl, arith}
use Rattle.gv_terms.specs.declared.value.Env.{Env}
use Rattle.gv_terms.specs.declared.value.Value.{Value}
use Rattle.gv_lang.specs.Threads.{Frame}
use Rattle.gv_resources.specs.Kinds.{Kind, FrozenCell, FrozenItem, Lock, Down, most, is_persistent}
use Rattle.gv_resources.specs.Pieces.{Resource, Have, Piece, Telling, Fits, part_of}
use Rattle.gv_resources.proofs.Fitting.{fits_less}
use Rattle.gv_assertions.specs.Atoms.{Atom, Instance, Predicate}
use Rattle.gv_assertions.specs.Standing.{StandsFor, StandForAll, both, none}
use Rattle.gv_assertions.proofs.Lists.{front, parted, joined}
use Rattle.gv_assertions.proofs.Kept.{part_for}
use Rattle.gv_seats.specs.Paths.{Path, Bracket, Closed, Opened}
use Rattle.gv_seats.specs.Seats.{Described}
use Rattle.gv_seats.proofs.Bases.{arrived, base_with}
use Rattle.gv_seats.proofs.Instances.{at_values}
use Rattle.gv_rules.specs.Rows.{copies, opens, closes}
use Rattle.gv_rules.specs.Laws.{CopiesLaw, OpensLaw, ClosesLaw}

-- what may be owned so many times only isn't persistent
few_is_owned : (k : Kind) (n : ℕ) → most k ≡ Some n → is_persistent k ≡ false
few_is_owned FrozenCell n e = absurd cc
few_is_owned FrozenItem n e = absurd cc
few_is_owned Lock n e = absurd cc
few_is_owned Down n e = absurd cc
few_is_owned _ n e = refl

part_least : (b : Bool) (n : ℕ) → (if b then n else 0) ≤ n
part_least true n = omega arith
part_least false n = omega arith

no_part : (b : Bool) (n : ℕ) → b ≡ false → (if b then n else 0) ≡ 0
no_part true n e = absurd cc
no_part false n e = refl

-- the persistent part of what is there may be there once more
pub fits_copies : {whole more : Piece} {tells : Telling} (p : Piece) → Fits whole tells → ((e : Resource) → p e ≤ whole e)
    → ((e : Resource) → more e ≤ whole e + part_of is_persistent p e) → Fits more tells
fits_copies {whole} {more} {tells} p f within le = record { says = says; few = few }
  where
    says : (k : Kind) (key v : List Value) → 0 < more (Have k key v) → tells k key ≡ Some v
    says k key v l =
        let m = le (Have k key v) in
        let n = within (Have k key v) in
        let q = part_least (is_persistent k) (p (Have k key v)) in
        f.says k key v (omega arith)

    few : (k : Kind) (key v : List Value) (n : ℕ) → most k ≡ Some n → more (Have k key v) ≤ n
    few k key v n e =
        let m = le (Have k key v) in
        let b = f.few k key v n e in
        let z = no_part (is_persistent k) (p (Have k key v)) (few_is_owned k n e) in
        omega arith

-- ---- a frame that stays where it is, with other assertions

-- what is described but for assertions and the bracket
pub with_atoms : (preds : List Predicate) (start env : Env) (h : Path) (f : Frame) (p q : Piece) (atoms : List Atom) (b : Bracket) → Described preds start env h f p
    → StandForAll preds env atoms q → Described preds start env (record h { atoms = atoms; bracket = b }) f q
with_atoms preds start env h f p q atoms b d s = record {
  todo = d.todo;
  as_many = d.as_many;
  locals = d.locals;
  valuation = d.valuation;
  started = d.started;
  facts = d.facts;
  stands = s;
}

-- an assertion more, which comes last
pub and_last : {preds : List Predicate} {env : Env} {all : List Atom} {p whole : Piece} (a : Atom) (q : Piece) → ((e : Resource) → p e + q e ≤ whole e)
    → StandForAll preds env all p → StandsFor preds env a q → StandForAll preds env (all ++ a ∷ []) whole
and_last a q within s h = joined within s (both q (λ e. 0) (λ e. omega arith) h none)

pub copies_law : CopiesLaw
copies_law o h k (copies a left takes persistent) w g start f rest s =
    let (q, r, split, stands, others) = parted (front takes s.described.stands) in
    let later : Piece = λ e. part_of is_persistent q e + s.piece e in
    arrived o w g start f h _ rest refl (record {
      env = s.env;
      piece = later;
      pool = s.pool;
      locks = s.locks;
      described = with_atoms o.preds start s.env h f s.piece later (h.atoms ++ a ∷ []) h.bracket s.described
          (and_last a (part_of is_persistent q) (λ e. omega arith) s.described.stands (part_for persistent stands));
      base = base_with o w g h.mode h.bracket s.piece later s.pool s.locks rest s.base
          (fits_copies q s.base.fits (λ e. let l = split e in omega arith) (λ e. omega arith));
      still = s.still;
    })

-- ---- the crash invariant

pub opens_law : OpensLaw
opens_law o h k (opens not_booted shared closed) w g start f rest s =
    let later : Piece = λ e. s.pool e + s.piece e in
    arrived o w g start f h _ rest refl (record {
      env = s.env;
      piece = later;
      pool = λ e. 0;
      locks = s.locks;
      described = with_atoms o.preds start s.env h f s.piece later (h.atoms ++ Instance o.crash [] ∷ []) Opened s.described
          (and_last (Instance o.crash []) s.pool (λ e. omega arith) s.described.stands (s.base.crash shared closed s.env [] refl));
      base = record {
        fits = fits_less (λ e. omega arith) s.base.fits;
        mode = s.base.mode;
        crash = λ m b. absurd (is_opened b);
        free = s.base.free;
        consistent = s.base.consistent;
      };
      still = s.still;
    })
  where
    is_opened : Opened ≡ Closed → ⊥
    is_opened e = cc

pub closes_law : ClosesLaw
closes_law o h k (closes left not_booted not_closed takes) w g start f rest s =
    let (q, r, split, stands, others) = parted (front takes s.described.stands) in
    arrived o w g start f h _ rest refl (record {
      env = s.env;
      piece = r;
      pool = q;
      locks = s.locks;
      described = with_atoms o.preds start s.env h f s.piece r left Closed s.described others;
      base = record {
        fits = fits_less (λ e. let l = split e in omega arith) s.base.fits;
        mode = s.base.mode;
        crash = λ m b env args values. at_values o.preds s.env env o.crash [] args q values stands;
        free = s.base.free;
        consistent = s.base.consistent;
      };
      still = s.still;
    })
