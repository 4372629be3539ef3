-- Valuations that agree on what stands in assertions, and assertions over some variables alone.
use Rattle.std.specs.Prelude.{◌≡◌, ℕ, true, List, [], ◌∷◌}
use Rattle.gv_terms.specs.declared.sort.Sort.{Sort}
use Rattle.gv_terms.specs.declared.sort.Sort.TheVariants as sort
use Rattle.gv_terms.specs.declared.tree.TermTree.{TermTree}
use Rattle.gv_terms.specs.declared.value.Env.{Env}
use Rattle.gv_terms.specs.declared.var.Var.{Var}
use Rattle.gv_terms.specs.Scopes.{is_among, is_closed}
use Rattle.gv_terms.specs.Trees.{looked_up}
use Rattle.gv_assertions.specs.Atoms.{Atom, Owns, Slice, Spare, Instance, Each}
use Rattle.gv_assertions.specs.Standing.{indexed}
use Rattle.gv_instances.specs.Instances.{stands_in}

-- two valuations agree on the variables of a term
abbrev pub AgreeOn : Env → Env → TermTree → Type 0
AgreeOn env other t = (n : List ℕ) (s : Sort) → stands_in n s t ≡ true → looked_up env n s ≡ looked_up other n s

abbrev pub AgreeOnAll : Env → Env → List TermTree → Type 0
AgreeOnAll env other [] = Unit {0}
AgreeOnAll env other (t ∷ ts) = AgreeOn env other t × AgreeOnAll env other ts

-- on the variables of an assertion, whatever number is bound in it
abbrev pub AgreeOnAtom : Env → Env → Atom → Type 0
AgreeOnAtom env other (Owns k key value) = AgreeOnAll env other key × AgreeOnAll env other value
AgreeOnAtom env other (Slice frozen s items) = AgreeOn env other s × AgreeOn env other items
AgreeOnAtom env other (Spare s) = AgreeOn env other s
AgreeOnAtom env other (Instance number args) = AgreeOnAll env other args
AgreeOnAtom env other (Each index low high except a) =
    AgreeOn env other low × AgreeOn env other high × AgreeOnAll env other except × ((n : ℕ) → AgreeOnAtom (indexed env index n) (indexed other index n) a)

abbrev pub AgreeOnAtoms : Env → Env → List Atom → Type 0
AgreeOnAtoms env other [] = Unit {0}
AgreeOnAtoms env other (a ∷ all) = AgreeOnAtom env other a × AgreeOnAtoms env other all

-- ---- over some variables alone

-- two valuations agree on these variables
abbrev pub AgreeOnVars : Env → Env → List Var → Type 0
AgreeOnVars env other vars = (n : List ℕ) (s : Sort) → is_among vars n s ≡ true → looked_up env n s ≡ looked_up other n s

abbrev pub AreClosed : List Var → List TermTree → Type 0
AreClosed vars [] = Unit {0}
AreClosed vars (t ∷ ts) = (is_closed vars t ≡ true) × AreClosed vars ts

abbrev pub number_var : List ℕ → Var
number_var index = record { name = index; sort = sort.Word }

-- the variables of an assertion are among these, and those of a range's body besides the number that is bound
abbrev pub IsClosedAtom : List Var → Atom → Type 0
IsClosedAtom vars (Owns k key value) = AreClosed vars key × AreClosed vars value
IsClosedAtom vars (Slice frozen s items) = (is_closed vars s ≡ true) × (is_closed vars items ≡ true)
IsClosedAtom vars (Spare s) = is_closed vars s ≡ true
IsClosedAtom vars (Instance number args) = AreClosed vars args
IsClosedAtom vars (Each index low high except a) =
    (is_closed vars low ≡ true) × (is_closed vars high ≡ true) × AreClosed vars except × IsClosedAtom (number_var index ∷ vars) a

abbrev pub AreClosedAtoms : List Var → List Atom → Type 0
AreClosedAtoms vars [] = Unit {0}
AreClosedAtoms vars (a ∷ all) = IsClosedAtom vars a × AreClosedAtoms vars all
