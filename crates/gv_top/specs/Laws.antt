-- Laws of the texts that a promise speaks of.
use Rattle.std.specs.Prelude.{◌≡◌, ℕ, List}

-- a text spells at most one value
abbrev pub SpellsOne : {A : Type 0} → (List ℕ → A → Type 0) → Type 0
SpellsOne {A} Spells = (text : List ℕ) (x y : A) → Spells text x → Spells text y → x ≡ y
