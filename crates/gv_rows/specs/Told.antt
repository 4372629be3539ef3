-- What it tells that a row has been applied: its premises, read off the row.
use Rattle.std.specs.Prelude.{◌≡◌, ◌⊎◌, ℕ, true, false, List, [], ◌∷◌, ◌++◌, Some, slice_get, slice_set}
use Rattle.gv_terms.specs.declared.tree.TermTree.{TermTree}
use Rattle.gv_certs.specs.Known.{is_known}
use Rattle.gv_assertions.specs.Atoms.{Atom}
use Rattle.gv_assertions.specs.Atoms as atoms
use Rattle.gv_seats.specs.Paths.{Opened, Closed}
use Rattle.gv_rows.specs.Rows.{Head, Step, Reads, Takes, Becomes, Adds, Knows, Fact, Sets, NotUsed, IsClosed, NotClosed, InShared, Opens, Closes, Fails, State, Spot, atom_of, term, terms, with_atoms, with_slots, with_place, with_bracket, place_of, is_closed, is_used, is_shared}

-- an assertion of one of two roots with this key is there, at this place, and these are the others
pub record IsSpot (h g : Head) (key : List TermTree) (all : List Atom) (x : Spot) : Type 0 where
  pub root : (x.head ≡ h) ⊎ (x.head ≡ g)
  pub taken : atoms.Takes all (atom_of x.head key x.value) x.others
  pub at : slice_get all x.place ≡ Some (atom_of x.head key x.value)

abbrev pub Told : List ℕ → List Step → State → State → Type 0
Told locals [] s t = s ≡ t
Told locals (Reads h g key ∷ row) s t =
    (x : Spot) × IsSpot h g (terms s.slots key) s.path.atoms x × Told locals row (with_slots (with_place s x.place) x.value) t
Told locals (Takes h key ∷ row) s t =
    (x : Spot) × IsSpot h h (terms s.slots key) s.path.atoms x × Told locals row (with_atoms (with_slots s x.value) x.others) t
Told locals (Becomes n h key value ∷ row) s t =
    Told locals row (with_atoms s (slice_set s.path.atoms (place_of (slice_get s.places n)) (atom_of h (terms s.slots key) (terms s.slots value)))) t
Told locals (Adds h key value ∷ row) s t = Told locals row (with_atoms s (s.path.atoms ++ atom_of h (terms s.slots key) (terms s.slots value) ∷ [])) t
Told locals (Knows f ∷ row) s t = (is_known s.path.facts (term s.slots f) ≡ true) × Told locals row s t
Told locals (Fact f ∷ row) s t = Told locals row (record s { path = record (s.path) { facts = s.path.facts ++ term s.slots f ∷ [] } }) t
Told locals (Sets x u ∷ row) s t =
    Told locals row (record s { path = record (s.path) { locals = slice_set s.path.locals (place_of (slice_get locals x)) (Some (term s.slots u)) } }) t
Told locals (NotUsed ∷ row) s t = (is_used s.path.bracket ≡ false) × Told locals row s t
Told locals (IsClosed ∷ row) s t = (is_closed s.path.bracket ≡ true) × Told locals row s t
Told locals (NotClosed ∷ row) s t = (is_closed s.path.bracket ≡ false) × Told locals row s t
Told locals (InShared ∷ row) s t = (is_shared s.path.mode ≡ true) × Told locals row s t
Told locals (Opens ∷ row) s t = Told locals row (with_bracket s Opened) t
Told locals (Closes ∷ row) s t = Told locals row (with_bracket s Closed) t
Told locals (Fails c ∷ row) s t = ⊥
