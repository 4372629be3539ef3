-- Assertions that are alike: the same trees, but for the names of the numbers that are bound in them.
use Rattle.std.specs.Prelude.{◌≡◌, ℕ, false, List, [], ◌∷◌}
use Rattle.gv_terms.specs.declared.sort.Sort.TheVariants as sort
use Rattle.gv_terms.specs.declared.tree.TermTree.{TermTree}
use Rattle.gv_terms.specs.declared.tree.TermTree.TheVariants as tree
use Rattle.gv_assertions.specs.Atoms.{Atom, Owns, Slice, Spare, Instance, Each}
use Rattle.gv_instances.specs.Instances.{Given, put_in_atom, stands_in, AreApart}
use Rattle.gv_instances.specs.Agreeing.{number_var}

-- a number under one name stands for the number under another
abbrev pub renaming : (index other : List ℕ) → List Given
renaming index other = record { var = number_var index; term = tree.Variable other sort.Word } ∷ []

-- no number under this name stands in these terms, in this assertion
abbrev pub AreFree : List ℕ → List TermTree → Type 0
AreFree n [] = Unit {0}
AreFree n (t ∷ ts) = (stands_in n sort.Word t ≡ false) × AreFree n ts

abbrev pub IsFreeOf : List ℕ → Atom → Type 0
IsFreeOf n (Owns k key value) = AreFree n key × AreFree n value
IsFreeOf n (Slice frozen s items) = (stands_in n sort.Word s ≡ false) × (stands_in n sort.Word items ≡ false)
IsFreeOf n (Spare s) = stands_in n sort.Word s ≡ false
IsFreeOf n (Instance number args) = AreFree n args
IsFreeOf n (Each index low high except a) = (stands_in n sort.Word low ≡ false) × (stands_in n sort.Word high ≡ false) × AreFree n except × IsFreeOf n a

-- the same; or ranges whose bodies are the same once the one's number has the other's name, which stands nowhere in its body
pub data AreAlike : Atom → Atom → Type 0 where
  itself : {a : Atom} → AreAlike a a
  renamed : {index other : List ℕ} {low high : TermTree} {except : List TermTree} {a : Atom} → IsFreeOf other a → AreApart (renaming index other) a
      → AreAlike (Each index low high except a) (Each other low high except (put_in_atom (renaming index other) a))
