-- What becomes of a list of classes that is read from a name on.
use Rattle.std.specs.Prelude.{◌≡◌, ℕ, ◌+◌, ◌<◌, ◌≤◌, length, take, List}
use Rattle.gv_grammar.specs.declared.steps.Step.{Step}
use Rattle.gv_grammar.specs.Derivation.{Tables, Spells, IsViable, IsStuck}

-- the one derivation of the classes
pub record IsDerivation (g : Tables) (root : ℕ) (steps : List Step) (classes : List ℕ) : Type 0 where
  pub derives : Spells g root steps classes
  pub only : (others : List Step) → Spells g root others classes → others ≡ steps

-- the first class that no derived list has there
pub record IsRefusedAt (g : Tables) (root : ℕ) (classes : List ℕ) (at : ℕ) : Type 0 where
  pub within : at < length classes
  pub viable : IsViable g root (take at classes)
  pub stuck : IsStuck g root (take (at + 1) classes)

-- the classes begin a derived list, and are none
pub record EndsEarly (g : Tables) (root : ℕ) (classes : List ℕ) : Type 0 where
  pub viable : IsViable g root classes
  pub not_whole : (steps : List Step) → Spells g root steps classes → ⊥

-- the front of this length is the longest that a derived list begins with
pub record IsLongest (g : Tables) (root : ℕ) (classes : List ℕ) (len : ℕ) : Type 0 where
  pub within : len ≤ length classes
  pub viable : IsViable g root (take len classes)
  pub stuck : len < length classes → IsStuck g root (take (len + 1) classes)
