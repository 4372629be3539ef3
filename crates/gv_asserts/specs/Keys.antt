-- Keys of atoms, and the atom that a key finds.
use Rattle.std.specs.Prelude.{◌≡◌, ℕ, ◌<◌, Bool, true, false, ◌&&◌, List, [], ◌∷◌, Option, Some, None, length, slice_get}
use Rattle.gv_terms.specs.declared.term.Term.{Term}
use Rattle.gv_terms.specs.declared.tree.TermTree.{TermTree}
use Rattle.gv_terms.specs.Store.{trees_at, AreIn}
use Rattle.gv_certs.specs.Trees.{tree_eq}
use Rattle.gv_commands.specs.declared.atom.Simple.{Simple}
use Rattle.gv_commands.specs.declared.atom.Simple.TheVariants as simple
use Rattle.gv_commands.specs.declared.atom.Atom.{Atom}
use Rattle.gv_commands.specs.declared.atom.Atom.TheVariants as atom
use Rattle.gv_asserts.specs.declared.key.Kind.{Kind}
use Rattle.gv_asserts.specs.declared.key.Kind.TheVariants as kind
use Rattle.gv_asserts.specs.declared.key.Key.{Key}
use Rattle.gv_asserts.specs.declared.key.Key.TheVariants as key
use Rattle.gv_asserts.specs.declared.stamped.Stamped.{Stamped}

abbrev pub kind_of : {A : Type 0} → Simple A → Kind
kind_of (simple.Cell object of field value) = kind.Cell of field
kind_of (simple.Ro object of field value) = kind.Ro of field
kind_of (simple.Slice slice items) = kind.Slice
kind_of (simple.Roslice slice items) = kind.Roslice
kind_of (simple.Spare slice) = kind.Spare
kind_of (simple.Map m entries) = kind.Map
kind_of (simple.Mutex mutex) = kind.Mutex
kind_of (simple.Held mutex) = kind.Held
kind_of (simple.Lock mutex guarded) = kind.Lock
kind_of (simple.Master disk address block) = kind.Master
kind_of (simple.Lease disk address block) = kind.Lease
kind_of (simple.Down disk) = kind.Down
kind_of (simple.Field field value) = kind.Field field
kind_of (simple.Flease field value) = kind.Flease field
kind_of (simple.Bmaster book place value) = kind.Bmaster book
kind_of (simple.Blease book place value) = kind.Blease book
kind_of (simple.Token call op args) = kind.Token
kind_of (simple.Done call reply) = kind.Done
kind_of (simple.Half name value) = kind.Half
kind_of (simple.Instance i) = kind.Instance i.pred

-- the terms of the key, in the order in which they are written
abbrev pub key_of : {A : Type 0} → Simple A → List A
key_of (simple.Cell object of field value) = object ∷ []
key_of (simple.Ro object of field value) = object ∷ []
key_of (simple.Slice slice items) = slice ∷ []
key_of (simple.Roslice slice items) = slice ∷ []
key_of (simple.Spare slice) = slice ∷ []
key_of (simple.Map m entries) = m ∷ []
key_of (simple.Mutex mutex) = mutex ∷ []
key_of (simple.Held mutex) = mutex ∷ []
key_of (simple.Lock mutex guarded) = mutex ∷ []
key_of (simple.Master disk address block) = disk ∷ address ∷ []
key_of (simple.Lease disk address block) = disk ∷ address ∷ []
key_of (simple.Down disk) = disk ∷ []
key_of (simple.Field field value) = []
key_of (simple.Flease field value) = []
key_of (simple.Bmaster book place value) = place ∷ []
key_of (simple.Blease book place value) = place ∷ []
key_of (simple.Token call op args) = call ∷ []
key_of (simple.Done call reply) = call ∷ []
key_of (simple.Half name value) = name ∷ []
key_of (simple.Instance i) = i.args

-- the trees are equal, one after another
abbrev pub trees_eq : List TermTree → List TermTree → Bool
trees_eq [] [] = true
trees_eq [] (u ∷ us) = false
trees_eq (t ∷ ts) [] = false
trees_eq (t ∷ ts) (u ∷ us) = tree_eq t u && trees_eq ts us

-- the atom has the key: the same kind, and the same trees
abbrev pub HasKey : List TermTree → Key → Atom Term → Type 0
HasKey st (key.Simple k terms) (atom.Simple a) = (kind_of a ≡ k) × (trees_at st (key_of a) ≡ trees_at st terms)
HasKey st (key.Each k) (atom.Each e) = kind_of e.body ≡ k
HasKey st _ _ = ⊥

-- no atom among the first ones, so many, has the key
abbrev pub NoneBefore : List TermTree → Key → List Stamped → ℕ → Type 0
NoneBefore st k items n = (place : ℕ) (s : Stamped) → place < n → slice_get items place ≡ Some s → HasKey st k s.atom → ⊥

-- the stamp is that of the first atom with the key; where there is none, no atom has it
abbrev pub IsFirst : List TermTree → Key → List Stamped → Option ℕ → Type 0
IsFirst st k items None = NoneBefore st k items (length items)
IsFirst st k items (Some stamp) =
    (place : ℕ) × (s : Stamped) × (slice_get items place ≡ Some s) × (s.stamp ≡ stamp) × HasKey st k s.atom × NoneBefore st k items place

-- the terms of a key are those of a store
abbrev pub IsKeyIn : List TermTree → Key → Type 0
IsKeyIn st (key.Simple k terms) = AreIn st terms
IsKeyIn st (key.Each k) = Unit {0}

-- the terms that an atom may be found by are
abbrev pub IsFoundIn : List TermTree → Atom Term → Type 0
IsFoundIn st (atom.Simple a) = AreIn st (key_of a)
IsFoundIn st (atom.Each e) = Unit {0}

abbrev pub AreFoundIn : List TermTree → List Stamped → Type 0
AreFoundIn st items = (place : ℕ) (s : Stamped) → slice_get items place ≡ Some s → IsFoundIn st s.atom
