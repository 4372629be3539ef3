-- Sums over the numbers below one, and one of several pieces given anew.
use Rattle.std.proofs.Common.{◌≡◌, ◌≢◌, ℕ, zero, suc, ◌+◌, ◌<◌, ◌≤◌, ◌⊎◌, inl, inr, true, false, nat_eq, nat_lt, min, if◌then◌else◌, refl, sym, ap, arith}
use Rattle.gv_resources.specs.Pieces.{Resource, Piece, sum_below}

pub number_test : (m n : ℕ) → ((m ≡ n) × (nat_eq m n ≡ true)) ⊎ ((m ≢ n) × (nat_eq m n ≡ false))
number_test m n = grind arith

pub below_test : (m n : ℕ) → ((m < n) × (nat_lt m n ≡ true)) ⊎ ((n ≤ m) × (nat_lt m n ≡ false))
below_test m n = grind arith

pub sum_agree : (n : ℕ) (f g : ℕ → ℕ) → ((k : ℕ) → k < n → f k ≡ g k) → sum_below n f ≡ sum_below n g
sum_agree zero f g h = refl
sum_agree (suc n) f g h =
    let rest = sum_agree n f g (λ k l. h k (omega arith)) in
    let top = h n (omega arith) in
    omega arith

-- ---- one summand given anew

abbrev pub changed : {A : Type 0} → (ℕ → A) → ℕ → A → ℕ → A
changed f k v n = if nat_eq n k then v else f n

pub changed_there : {A : Type 0} (f : ℕ → A) (k : ℕ) (v : A) → changed f k v k ≡ v
changed_there f k v = grind arith

pub changed_elsewhere : {A : Type 0} (f : ℕ → A) (k n : ℕ) (v : A) → n ≢ k → changed f k v n ≡ f n
changed_elsewhere f k n v ne = grind arith

pub sum_split : (n : ℕ) (f : ℕ → ℕ) (k : ℕ) → k < n → sum_below n f ≡ f k + sum_below n (changed f k 0)
sum_split zero f k h = absurd (omega arith)
sum_split (suc n) f k h =
    elim (number_test k n) [
      | inl (e, t) ↦
          let below = sum_agree n f (changed f k 0) (λ j l. sym (changed_elsewhere f k j 0 (omega arith))) in
          let top : changed f k 0 n ≡ 0 = grind arith in
          let same : f k ≡ f n = ap f e in
          omega arith
      | inr (ne, t) ↦
          let below = sum_split n f k (omega arith) in
          let top = changed_elsewhere f k n 0 (λ e. ne (sym e)) in
          omega arith
    ]

pub sum_changed : (n : ℕ) (f : ℕ → ℕ) (k v : ℕ) → k < n → sum_below n (changed f k v) ≡ v + sum_below n (changed f k 0)
sum_changed n f k v h =
    let parts = sum_split n (changed f k v) k h in
    let top = changed_there f k v in
    let rest = sum_agree n (changed (changed f k v) k 0) (changed f k 0) (λ j l. grind arith) in
    omega arith

pub sum_one : (n : ℕ) (f : ℕ → ℕ) (k : ℕ) → k < n → f k ≤ sum_below n f
sum_one n f k h = let parts = sum_split n f k h in omega arith

-- ---- one of several pieces given anew

abbrev pub with_piece : (ℕ → Piece) → ℕ → Piece → ℕ → Piece
with_piece parts k p n e = changed (λ j. parts j e) k (p e) n

pub piece_there : (parts : ℕ → Piece) (k : ℕ) (p : Piece) (e : Resource) → with_piece parts k p k e ≡ p e
piece_there parts k p e = changed_there (λ j. parts j e) k (p e)

pub piece_elsewhere : (parts : ℕ → Piece) (k n : ℕ) (p : Piece) (e : Resource) → n ≢ k → with_piece parts k p n e ≡ parts n e
piece_elsewhere parts k n p e ne = changed_elsewhere (λ j. parts j e) k n (p e) ne

-- ---- ranges cut at a number

pub sum_zero : (n : ℕ) → sum_below n (λ _. 0) ≡ 0
sum_zero zero = refl
sum_zero (suc n) = let z = sum_zero n in omega arith

pub sum_cut : (n m : ℕ) (f : ℕ → ℕ) → m ≤ n → sum_below n f ≡ sum_below m f + sum_below n (λ k. if nat_lt k m then 0 else f k)
sum_cut zero m f l = let z : m ≡ 0 = omega arith in rw z refl
sum_cut (suc n) m f l = elim (below_test n m) [
  | inl (l', b) ↦
      let z : m ≡ suc n = omega arith in
      let none_left = sum_agree n (λ k. if nat_lt k m then 0 else f k) (λ _. 0) (λ k lk. grind arith) in
      let zeros = sum_zero n in
      let top : (if nat_lt n m then 0 else f n) ≡ 0 = rw b refl in
      let whole : sum_below m f ≡ f n + sum_below n f = rw z refl in
      omega arith
  | inr (l', b) ↦
      let below = sum_cut n m f l' in
      let top : (if nat_lt n m then 0 else f n) ≡ f n = rw b refl in
      omega arith
]

pub sum_fewer : (n m : ℕ) (f : ℕ → ℕ) → m ≤ n → sum_below m f ≤ sum_below n f
sum_fewer n m f l = let c = sum_cut n m f l in omega arith

-- the first m of one, then those of another
pub sum_mixed : (n m : ℕ) (f g : ℕ → ℕ) → sum_below n (λ k. if nat_lt k m then f k else g k) ≤ sum_below (min n m) f + sum_below n g
sum_mixed zero m f g = omega arith
sum_mixed (suc n) m f g = elim (below_test n m) [
  | inl (l, b) ↦
      let ih = sum_mixed n m f g in
      let top : (if nat_lt n m then f n else g n) ≡ f n = rw b refl in
      let e1 : min n m ≡ n = omega arith in
      let e2 : min (suc n) m ≡ suc n = omega arith in
      let s1 = ap (λ x. sum_below x f) e1 in
      let s2 : sum_below (min (suc n) m) f ≡ f n + sum_below n f = ap (λ x. sum_below x f) e2 in
      omega arith
  | inr (l, b) ↦
      let ih = sum_mixed n m f g in
      let top : (if nat_lt n m then f n else g n) ≡ g n = rw b refl in
      let e1 : min n m ≡ min (suc n) m = omega arith in
      let s1 = ap (λ x. sum_below x f) e1 in
      omega arith
]
