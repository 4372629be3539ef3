-- Grammars that contain a smaller one.
use Rattle.std.specs.Prelude.{◌≡◌, ℕ, ◌+◌, List, [], ◌∷◌, ◌++◌}
use Rattle.gv_grammar.specs.declared.symbols.Symbol.{Symbol}
use Rattle.gv_grammar.specs.Derivation.{Tables, symbols_of, members}
use Rattle.gv_grammar.specs.Building.{Reduction}

-- Rules, each as its name and its row, sets and acts, which have the same numbers in every grammar that contains them.
pub record Fragment (P : Type 0) : Type 0 where
  pub rules : List (ℕ × List Symbol)
  pub sets : List (List ℕ)
  pub acts : List (Reduction P)

module _ (g : Tables) where
  -- from this number on, the tables have these rules, where these are the names of theirs
  abbrev pub HasRules : List ℕ → ℕ → List (ℕ × List Symbol) → Type 0
  HasRules names at [] = Unit {0}
  HasRules [] at (rule ∷ rules) = ⊥
  HasRules (name ∷ names) at (rule ∷ rules) = (name ≡ rule.0) × (symbols_of g at ≡ rule.1) × HasRules names (at + 1) rules

  -- from this number on, the tables have these sets
  abbrev pub HasSets : ℕ → List (List ℕ) → Type 0
  HasSets at [] = Unit {0}
  HasSets at (set ∷ sets) = (members g at ≡ set) × HasSets (at + 1) sets

-- Tables and acts begin with those of a fragment.
pub record Contains {P : Type 0} (g : Tables) (acts : List (Reduction P)) (f : Fragment P) : Type 0 where
  pub rules : HasRules g g.names 0 f.rules
  pub sets : HasSets g 0 f.sets
  pub more : List (Reduction P)
  pub same : acts ≡ f.acts ++ more
