use Rattle.std.proofs.Common.{arith, ◌≡◌, ◌<◌, ◌≤◌, ◌++◌, append_assoc, append-nil, ◌+◌, ◌-◌, ◌*◌, ℕ, List, [], ◌∷◌, length, take, drop, slice_index_or, sym, ap, ◌∙◌, subst}
use Rattle.std.specs.Char.{digit_value}
use Rattle.std.proofs.Math.Seq.{take-length}
use Rattle.case_table.specs.Escapes.{Begins, Names, Writes, named, numbered, nothing, plain, escape}

-- what a pattern calls the rest is what stands behind the first byte, or behind the first two

pub behind_one : (x : ℕ) (xs : List ℕ) → take (length (x ∷ xs) - 1) xs ≡ xs
behind_one x xs = let size : length (x ∷ xs) - 1 ≡ length xs = omega arith in ap (λ n. take n xs) size ∙ take-length xs

pub behind_two : (x y : ℕ) (xs : List ℕ) → take (length (x ∷ y ∷ xs) - 2) xs ≡ xs
behind_two x y xs = let size : length (x ∷ y ∷ xs) - 2 ≡ length xs = omega arith in ap (λ n. take n xs) size ∙ take-length xs

pub named_first : (xs : List ℕ) (byte : ℕ) → 1 ≤ length xs → Names (slice_index_or xs 0 0) byte → Begins xs byte (take (length xs - 1) (drop 1 xs))
named_first [] byte long is = absurd (omega (arith, long))
named_first (x ∷ xs) byte long is = subst (λ rest. Begins (x ∷ xs) byte rest) (sym (behind_one x xs)) (named xs is)

pub numbered_first : (xs : List ℕ) → 2 ≤ length xs → digit_value (slice_index_or xs 0 0) < 16 → digit_value (slice_index_or xs 1 0) < 16
    → Begins (120 ∷ xs) (16 * digit_value (slice_index_or xs 0 0) + digit_value (slice_index_or xs 1 0)) (take (length xs - 2) (drop 2 xs))
numbered_first [] long high low = absurd (omega (arith, long))
numbered_first (x ∷ []) long high low = absurd (omega (arith, long))
numbered_first (x ∷ y ∷ xs) long high low =
    subst (λ rest. Begins (120 ∷ x ∷ y ∷ xs) (16 * digit_value x + digit_value y) rest) (sym (behind_two x y xs)) (numbered x y xs high low)

-- ---- what is read, while the rest of a text is left

-- whatever the rest stands for, the text stands for the bytes that are there with it behind them
abbrev pub IsReadUpTo : List ℕ → List ℕ → List ℕ → Type 0
IsReadUpTo text left done = (bytes : List ℕ) → Writes left bytes → Writes text (done ++ bytes)

pub read_whole : (text left done : List ℕ) → IsReadUpTo text left done → length left < 1 → Writes text done
read_whole text [] done is short = subst (λ bytes. Writes text bytes) (append-nil done) (is [] nothing)
read_whole text (x ∷ xs) done is short = absurd (omega (arith, short))

pub plain_more : (text left done : List ℕ) → IsReadUpTo text left done → 1 ≤ length left → (slice_index_or left 0 0 ≡ 92 → ⊥)
    → IsReadUpTo text (take (length left - 1) (drop 1 left)) (done ++ slice_index_or left 0 0 ∷ [])
plain_more text [] done is long other bytes w = absurd (omega (arith, long))
plain_more text (x ∷ xs) done is long other bytes w =
    subst (λ bs. Writes text bs) (sym (append_assoc done (x ∷ []) bytes)) (is (x ∷ bytes) (plain x other (subst (λ rest. Writes rest bytes) (behind_one x xs) w)))

pub escape_more : (text left behind done : List ℕ) (byte : ℕ) → IsReadUpTo text left done → 1 ≤ length left → slice_index_or left 0 0 ≡ 92
    → Begins (take (length left - 1) (drop 1 left)) byte behind → IsReadUpTo text behind (done ++ byte ∷ [])
escape_more text [] behind done byte is long first begins bytes w = absurd (omega (arith, long))
escape_more text (x ∷ xs) behind done byte is long first begins bytes w =
    let begun : Begins xs byte behind = subst (λ rest. Begins rest byte behind) (behind_one x xs) begins in
    let written : Writes (x ∷ xs) (byte ∷ bytes) = subst (λ b. Writes (b ∷ xs) (byte ∷ bytes)) (sym first) (escape begun w) in
    subst (λ bs. Writes text bs) (sym (append_assoc done (byte ∷ []) bytes)) (is (byte ∷ bytes) written)
