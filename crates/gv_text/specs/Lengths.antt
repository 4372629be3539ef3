-- How many bytes a part of a piece takes at the start of a text, always as many as it can.
use Rattle.std.specs.Prelude.{ℕ, ◌+◌, Bool, ◌&&◌, ◌==◌, if◌then◌else◌, List, [], ◌∷◌, drop}

abbrev pub nothing : List ℕ → ℕ
nothing text = 0

-- a byte that passes a test, and more after it; or nothing
abbrev pub optional : (ℕ → Bool) → (List ℕ → ℕ) → List ℕ → ℕ
optional test more [] = 0
optional test more (b ∷ bs) = if test b then 1 + more bs else 0

-- two bytes, and more after them; or nothing
abbrev pub after_two : ℕ → ℕ → (List ℕ → ℕ) → List ℕ → ℕ
after_two x y more [] = 0
after_two x y more (b ∷ []) = 0
after_two x y more (b ∷ c ∷ bs) = if b == x && c == y then 2 + more bs else 0

-- one part, and another after it
abbrev pub in_turn : (List ℕ → ℕ) → (List ℕ → ℕ) → List ℕ → ℕ
in_turn first second text = first text + second (drop (first text) text)
