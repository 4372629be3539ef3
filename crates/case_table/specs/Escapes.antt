-- How a table writes bytes.
use Rattle.std.specs.Prelude.{◌≡◌, ◌<◌, ◌+◌, ◌*◌, ℕ, List, [], ◌∷◌}
use Rattle.std.specs.Char.{digit_value}

-- the sign behind a backslash that stands for a byte by itself
pub data Names : ℕ → ℕ → Type 0 where
  newline : Names 110 10
  return : Names 114 13
  tab : Names 116 9
  backslash : Names 92 92

-- what stands behind a backslash begins with the escape of a byte, and has the rest behind it
pub data Begins : List ℕ → ℕ → List ℕ → Type 0 where
  named : {sign byte : ℕ} (rest : List ℕ) → Names sign byte → Begins (sign ∷ rest) byte rest
  numbered : (high low : ℕ) (rest : List ℕ) → digit_value high < 16 → digit_value low < 16
      → Begins (120 ∷ high ∷ low ∷ rest) (16 * digit_value high + digit_value low) rest

-- a text stands for bytes
pub data Writes : List ℕ → List ℕ → Type 0 where
  nothing : Writes [] []
  plain : {text bytes : List ℕ} (byte : ℕ) → (byte ≡ 92 → ⊥) → Writes text bytes → Writes (byte ∷ text) (byte ∷ bytes)
  escape : {behind text bytes : List ℕ} {byte : ℕ} → Begins behind byte text → Writes text bytes → Writes (92 ∷ behind) (byte ∷ bytes)
