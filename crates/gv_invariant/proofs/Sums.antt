-- What all threads own together, when one of them is given anew.
use Rattle.std.proofs.Common.{◌≡◌, ◌≢◌, ℕ, zero, suc, ◌+◌, ◌<◌, ◌≤◌, List, [], ◌∷◌, ◌++◌, length, Option, Some, None, refl, sym, ap, ◌∙◌, inl, inr, arith}
use Rattle.gv_lang.specs.Threads.{Thread}
use Rattle.gv_spec.specs.Runs.{Role, living, replaced}
use Rattle.gv_resources.specs.Pieces.{Resource, Piece, sum_below}
use Rattle.gv_resources.proofs.Sums.{number_test, sum_agree, changed, changed_there, changed_elsewhere, sum_split, sum_one, with_piece, piece_there, piece_elsewhere}
use Rattle.gv_invariant.specs.Invariant.{Threads, badge, of_threads}
use Rattle.gv_invariant.proofs.Threads.{living_within, replaced_there, replaced_elsewhere, replaced_length, added_there, added_elsewhere, added_length}

abbrev pub share : Threads → (ℕ → Piece) → Resource → ℕ → ℕ
share ts owns e k = owns k e + badge (living ts (suc k)) e

-- what the threads but for one own
abbrev pub of_others : Threads → (ℕ → Piece) → ℕ → Piece
of_others ts owns n e = sum_below (length ts) (changed (share ts owns e) n 0)

pub threads_split : (ts : Threads) (owns : ℕ → Piece) (n : ℕ) (x : Role × Thread) (e : Resource) → living ts (suc n) ≡ Some x
    → of_threads ts owns e ≡ (owns n e + badge (Some x) e) + of_others ts owns n e
threads_split ts owns n x e is =
    let k = sum_split (length ts) (share ts owns e) n (living_within ts n x is) in
    let b : badge (living ts (suc n)) e ≡ badge (Some x) e = ap (λ y. badge y e) is in
    omega arith

pub threads_replaced : (ts : Threads) (owns : ℕ → Piece) (n : ℕ) (y : Option (Role × Thread)) (p : Piece) (e : Resource) → n < length ts
    → of_threads (replaced ts (suc n) y) (with_piece owns n p) e ≡ (p e + badge y e) + of_others ts owns n e
threads_replaced ts owns n y p e l =
    let now = share (replaced ts (suc n) y) (with_piece owns n p) e in
    let a : of_threads (replaced ts (suc n) y) (with_piece owns n p) e ≡ sum_below (length ts) now = ap (λ k. sum_below k now) (replaced_length ts n y) in
    let b = sum_split (length ts) now n l in
    let c = piece_there owns n p e in
    let d : badge (living (replaced ts (suc n) y) (suc n)) e ≡ badge y e = ap (λ z. badge z e) (replaced_there ts n y l) in
    let g = sum_agree (length ts) (changed now n 0) (changed (share ts owns e) n 0) (λ j lj. elim (number_test j n) [
      | inl (q, t) ↦ (let u : changed now n 0 j ≡ 0 = grind arith in let v : changed (share ts owns e) n 0 j ≡ 0 = grind arith in u ∙ sym v)
      | inr (q, t) ↦ changed_elsewhere now n j 0 q ∙ same j q ∙ sym (changed_elsewhere (share ts owns e) n j 0 q)
    ]) in
    omega arith
  where
    same : (j : ℕ) → j ≢ n → share (replaced ts (suc n) y) (with_piece owns n p) e j ≡ share ts owns e j
    same j ne =
        let m = piece_elsewhere owns n j p e ne in
        let k : badge (living (replaced ts (suc n) y) (suc j)) e ≡ badge (living ts (suc j)) e = ap (λ z. badge z e) (replaced_elsewhere ts n j y ne) in
        omega arith

-- one more
pub threads_added : (ts : Threads) (owns : ℕ → Piece) (y : Option (Role × Thread)) (p : Piece) (e : Resource)
    → of_threads (ts ++ y ∷ []) (with_piece owns (length ts) p) e ≡ (p e + badge y e) + of_threads ts owns e
threads_added ts owns y p e =
    let now = share (ts ++ y ∷ []) (with_piece owns (length ts) p) e in
    let a : of_threads (ts ++ y ∷ []) (with_piece owns (length ts) p) e ≡ now (length ts) + sum_below (length ts) now = ap (λ k. sum_below k now) (added_length ts y) in
    let b = piece_there owns (length ts) p e in
    let c : badge (living (ts ++ y ∷ []) (suc (length ts))) e ≡ badge y e = ap (λ z. badge z e) (added_there ts y) in
    let d = sum_agree (length ts) now (share ts owns e) (λ j l. same j (omega arith)) in
    omega arith
  where
    same : (j : ℕ) → j ≢ length ts → share (ts ++ y ∷ []) (with_piece owns (length ts) p) e j ≡ share ts owns e j
    same j ne =
        let m = piece_elsewhere owns (length ts) j p e ne in
        let k : badge (living (ts ++ y ∷ []) (suc j)) e ≡ badge (living ts (suc j)) e = ap (λ z. badge z e) (added_elsewhere ts y j ne) in
        omega arith

-- another thread's is within the others'
pub other_within : (ts : Threads) (owns : ℕ → Piece) (n m : ℕ) (x : Role × Thread) (e : Resource) → m ≢ n → living ts (suc m) ≡ Some x → owns m e ≤ of_others ts owns n e
other_within ts owns n m x e ne is =
    let a = sum_one (length ts) (changed (share ts owns e) n 0) m (living_within ts m x is) in
    let b = changed_elsewhere (share ts owns e) n m 0 ne in
    omega arith
