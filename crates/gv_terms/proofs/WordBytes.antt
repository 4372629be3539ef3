-- How large the number of some bytes is.
use Rattle.std.proofs.Common.{ℕ, zero, suc, ◌-◌, ◌^◌, ◌<◌, ◌≤◌, List, [], ◌∷◌, length, take, drop, get_or, subst, sym, arith, lit<}
use Rattle.std.proofs.Math.Nat.{pow-suc}
use Rattle.std.proofs.lemmas.List.{take_rest}
use Rattle.gv_words.specs.Words.{number_of}

positive : (n : ℕ) → 0 < 256 ^ n
positive zero = lit< tt
positive (suc n) = omega (arith, positive n, pow-suc 256 n)

pub number_below : (n : ℕ) (bs : List ℕ) → length bs ≤ n → ((k : ℕ) → get_or bs k 0 < 256) → number_of bs < 256 ^ n
number_below n [] le h = positive n
number_below zero (b ∷ bs) le h = absurd (omega arith)
number_below (suc n) (b ∷ bs) le h = omega (arith, h 0, number_below n bs (omega arith) (λ k. h (suc k)), pow-suc 256 n)

after_first : (bs : List ℕ) → length bs ≤ 8 → ((k : ℕ) → get_or bs k 0 < 256) → number_of (drop 1 bs) < 256 ^ 7
after_first [] le h = positive 7
after_first (b ∷ bs) le h = number_below 7 bs (omega arith) (λ k. h (suc k))

-- the number of all bytes but the first
pub rest_below : (bs : List ℕ) → length bs ≤ 8 → ((k : ℕ) → get_or bs k 0 < 256) → number_of (take (length bs - 1) (drop 1 bs)) < 256 ^ 7
rest_below bs le h = subst (λ l. number_of l < 256 ^ 7) (sym (take_rest bs 1)) (after_first bs le h)
