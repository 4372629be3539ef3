-- The longest sign of a text shows in a prefix that holds it.
use Rattle.std.proofs.Common.{◌≡◌, ◌≤◌, ℕ, zero, suc, Bool, true, false, cond, [], ◌∷◌, refl, arith}
use Rattle.gv_text.proofs.Prefixes.{KeepsPrefixes}
use Rattle.gv_tokens.specs.Signs.{is_sign, sign_length}

abbrev picked : Bool → Bool → Bool → ℕ → ℕ → ℕ → ℕ
picked s t u m n k = cond s m (cond t n (cond u k 0))

empty_sign : (s t u : Bool) (n : ℕ) → n ≤ 0 → picked s t u 0 0 0 ≡ n
empty_sign true t u n h = omega arith
empty_sign false true u n h = omega arith
empty_sign false false true n h = omega arith
empty_sign false false false n h = omega arith

one_sign : (s t u : Bool) (m n : ℕ) → 2 ≤ m → 2 ≤ n → picked s t u m n 1 ≤ 1 → picked u u u 1 1 1 ≡ picked s t u m n 1
one_sign true t u m n a b h = absurd (omega arith)
one_sign false true u m n a b h = absurd (omega arith)
one_sign false false true m n a b h = refl
one_sign false false false m n a b h = refl

two_signs : (s t u : Bool) → picked s t u 3 2 1 ≤ 2 → picked t t u 2 2 1 ≡ picked s t u 3 2 1
two_signs true t u h = absurd (omega arith)
two_signs false true u h = refl
two_signs false false true h = refl
two_signs false false false h = refl

pub sign_keeps : KeepsPrefixes sign_length
unfolding sign_length
sign_keeps [] zero h = refl
sign_keeps [] (suc k) h = refl
sign_keeps (a ∷ bs) zero h = empty_sign (is_sign []) (is_sign []) (is_sign []) _ h
sign_keeps (a ∷ []) (suc zero) h = refl
sign_keeps (a ∷ []) (suc (suc k)) h = refl
sign_keeps (a ∷ b ∷ []) (suc zero) h = one_sign (is_sign (a ∷ b ∷ [])) (is_sign (a ∷ b ∷ [])) (is_sign (a ∷ [])) 2 2 (omega arith) (omega arith) h
sign_keeps (a ∷ b ∷ []) (suc (suc zero)) h = refl
sign_keeps (a ∷ b ∷ []) (suc (suc (suc k))) h = refl
sign_keeps (a ∷ b ∷ c ∷ bs) (suc zero) h = one_sign (is_sign (a ∷ b ∷ c ∷ [])) (is_sign (a ∷ b ∷ [])) (is_sign (a ∷ [])) 3 2 (omega arith) (omega arith) h
sign_keeps (a ∷ b ∷ c ∷ bs) (suc (suc zero)) h = two_signs (is_sign (a ∷ b ∷ c ∷ [])) (is_sign (a ∷ b ∷ [])) (is_sign (a ∷ [])) h
sign_keeps (a ∷ b ∷ c ∷ bs) (suc (suc (suc k))) h = refl
