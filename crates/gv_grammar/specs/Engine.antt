-- What the engine keeps of its stack of symbols.
use Rattle.std.specs.Prelude.{◌≡◌, ℕ, true, List, [], ◌∷◌, ◌++◌, ◌⊎◌}
use Rattle.std.specs.List.{list_all}
use Rattle.gv_grammar.specs.declared.symbols.Symbol.{Symbol}
use Rattle.gv_grammar.specs.declared.symbols.Symbol.TheVariants.{Token, Name, Act}
use Rattle.gv_grammar.specs.declared.steps.Step.{Step}
use Rattle.gv_grammar.specs.declared.derivation.Advance.{Advance}
use Rattle.gv_grammar.specs.declared.derivation.Advance.TheVariants.{Taken, Refused, Finished}
use Rattle.gv_grammar.specs.Derivation.{Tables, Derives, Spells, is_among, members}
use Rattle.gv_grammar.specs.Predictive.{Certificate, row, is_empty, is_known, certificate_of}

-- the class at the front, or 0 at the end
abbrev pub look : List ℕ → ℕ
look [] = 0
look (class ∷ classes) = class

module _ (g : Tables) (c : Certificate) where
  -- a class, or 0 for the end, that may stand where these symbols begin
  abbrev pub Begins : List Symbol → ℕ → Type 0
  Begins [] k = k ≡ 0
  Begins (Token set ∷ more) k = is_among k (members g set) ≡ true
  Begins (Act number ∷ more) k = Begins more k
  Begins (Name name ∷ more) k = (is_among k (row c.first name) ≡ true) ⊎ ((is_empty c name ≡ true) × Begins more k)

  -- what may stand behind each name is foreseen
  abbrev pub Fits : List Symbol → Type 0
  Fits [] = Unit {0}
  Fits (Token set ∷ more) = Fits more
  Fits (Act number ∷ more) = Fits more
  Fits (Name name ∷ more) = ((k : ℕ) → Begins more k → is_among k (row c.follow name) ≡ true) × Fits more

  pub record IsSound (stack : List Symbol) : Type 0 where
    pub fits : Fits stack
    pub known : list_all (is_known g c) stack ≡ true

-- New symbols stand for old ones after these steps, before this class.
pub record Narrows (g : Tables) (class : ℕ) (old new : List Symbol) (added : List Step) : Type 0 where
  pub up : (steps : List Step) (classes : List ℕ) → Derives g new steps classes → Derives g old (added ++ steps) classes
  pub down : (steps : List Step) (classes : List ℕ) → look classes ≡ class → Derives g old steps classes
      → (rest : List Step) × (steps ≡ added ++ rest) × Derives g new rest classes

-- The same after the class was taken.
pub record Takes (g : Tables) (class : ℕ) (old new : List Symbol) (added : List Step) : Type 0 where
  pub up : (steps : List Step) (classes : List ℕ) → Derives g new steps classes → Derives g old (added ++ steps) (class ∷ classes)
  pub down : (steps : List Step) (classes : List ℕ) → look classes ≡ class → Derives g old steps classes
      → (rest : List Step) × (more : List ℕ) × (classes ≡ class ∷ more) × (steps ≡ added ++ rest) × Derives g new rest more

-- no list that goes on with the class is derived
abbrev pub Refuses : Tables → ℕ → List Symbol → Type 0
Refuses g class stack = (steps : List Step) (classes : List ℕ) → look classes ≡ class → Derives g stack steps classes → ⊥

-- what an advance did to the stack, whose top comes first here, and to the steps
abbrev pub Advances : Tables → ℕ → List Symbol → List Symbol → List Step → List Step → Advance → Type 0
Advances g class old new steps steps' Taken = (added : List Step) × (steps' ≡ steps ++ added) × Takes g class old new added × IsSound g (certificate_of g) new
Advances g class old new steps steps' Refused = (added : List Step) × (steps' ≡ steps ++ added) × Refuses g class old
Advances g class old new steps steps' Finished = (added : List Step) × (steps' ≡ steps ++ added) × Narrows g class old [] added

-- The stack derives what may follow the classes seen, and no more.
pub record IsReading (g : Tables) (root : ℕ) (seen : List ℕ) (stack : List Symbol) (steps : List Step) : Type 0 where
  pub up : (ps : List Step) (us : List ℕ) → Derives g stack ps us → Spells g root (steps ++ ps) (seen ++ us)
  pub down : (ps : List Step) (us : List ℕ) → Spells g root ps (seen ++ us) → (rest : List Step) × (ps ≡ steps ++ rest) × Derives g stack rest us
  pub sound : IsSound g (certificate_of g) stack
