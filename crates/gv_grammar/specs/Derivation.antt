-- Grammars as lists, and what they derive.
use Rattle.std.specs.Prelude.{◌≡◌, ℕ, ◌+◌, Bool, true, ◌==◌, List, [], ◌∷◌, ◌++◌, Some, slice_get, slice_index, slice_range}
use Rattle.std.specs.List.{list_any}
use Rattle.gv_grammar.specs.declared.symbols.Symbol.{Symbol}
use Rattle.gv_grammar.specs.declared.symbols.Symbol.TheVariants.{Token, Name, Act}
use Rattle.gv_grammar.specs.declared.steps.Step.{Step}
use Rattle.gv_grammar.specs.declared.steps.Step.TheVariants.{Take, Do}
use Rattle.gv_grammar.specs.declared.grammars.Grammar.{Grammar}

-- a grammar as lists; the roots are the names that a whole list may be derived from
pub record Tables : Type 0 where
  pub roots : List ℕ
  pub names : List ℕ
  pub symbols : List Symbol
  pub starts : List ℕ
  pub classes : List ℕ
  pub set_starts : List ℕ
  pub table : List ℕ
  pub width : ℕ

abbrev pub tables_of : Grammar → Tables
tables_of g = record {
  roots = g.roots.now;
  names = g.names.now;
  symbols = g.symbols.now;
  starts = g.starts.now;
  classes = g.classes.now;
  set_starts = g.set_starts.now;
  table = g.table.now;
  width = g.width;
}

-- whether a number is among those of a list
abbrev pub is_among : ℕ → List ℕ → Bool
is_among n ns = list_any (λ m. m == n) ns

-- the items of a row, where rows lie one after another and each ends before the next one's start
abbrev pub row_of : {X : Type 0} → List X → List ℕ → ℕ → List X
row_of items starts row = slice_range items (slice_index starts row) (slice_index starts (row + 1))

-- what a rule is made of
abbrev pub symbols_of : Tables → ℕ → List Symbol
symbols_of g rule = row_of g.symbols g.starts rule

-- the classes of a set
abbrev pub members : Tables → ℕ → List ℕ
members g set = row_of g.classes g.set_starts set

-- whether a set has a class
abbrev pub takes : Tables → ℕ → ℕ → Bool
takes g set class = is_among class (members g set)

-- These symbols derive these classes by these steps.
pub data Derives (g : Tables) : List Symbol → List Step → List ℕ → Type 0 where
  done : Derives g [] [] []
  token : {set class : ℕ} {more : List Symbol} {steps : List Step} {classes : List ℕ} → takes g set class ≡ true → Derives g more steps classes
      → Derives g (Token set ∷ more) (Take ∷ steps) (class ∷ classes)
  act : {number : ℕ} {more : List Symbol} {steps : List Step} {classes : List ℕ} → Derives g more steps classes
      → Derives g (Act number ∷ more) (Do number ∷ steps) classes
  named : {name : ℕ} (rule : ℕ) {more : List Symbol} {steps : List Step} {classes : List ℕ} → slice_get g.names rule ≡ Some name
      → Derives g (symbols_of g rule ++ more) steps classes → Derives g (Name name ∷ more) steps classes

-- what a name by itself derives
abbrev pub Spells : Tables → ℕ → List Step → List ℕ → Type 0
Spells g root steps classes = Derives g (Name root ∷ []) steps classes

-- some list that begins so is derived from the name
abbrev pub IsViable : Tables → ℕ → List ℕ → Type 0
IsViable g root front = (steps : List Step) × (more : List ℕ) × Spells g root steps (front ++ more)

-- no list that begins so is derived
abbrev pub IsStuck : Tables → ℕ → List ℕ → Type 0
IsStuck g root front = (steps : List Step) (more : List ℕ) → Spells g root steps (front ++ more) → ⊥
