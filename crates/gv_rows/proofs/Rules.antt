-- Where rows are applied, rules are sound.
use Rattle.std.proofs.Common.{◌≡◌, inl, inr, ℕ, zero, suc, Bool, true, false, List, [], ◌∷◌, ◌++◌, length, Option, Some, refl, sym, ap, subst, ◌∙◌}
use Rattle.std.specs.Prelude.{slice_get, slice_set}
use Rattle.gv_terms.specs.declared.tree.TermTree.{TermTree}
use Rattle.gv_resources.specs.Kinds as kind
use Rattle.gv_resources.specs.Kinds.{Kind, cell_kind}
use Rattle.gv_assertions.specs.Atoms.{Atom, Owns, Takes, here, there}
use Rattle.gv_seats.specs.Paths.{Path, number, goes_on}
use Rattle.gv_seats.specs.Changes.{changes_nothing}
use Rattle.gv_seats.specs.Soundness.{IsSoundStep, IsSoundWrite}
use Rattle.gv_rules.specs.Rows.{Replaces, loads, stores}
use Rattle.gv_rules.specs.Rows as rule
use Rattle.gv_rules.proofs.Loads.{loads_law}
use Rattle.gv_rules.proofs.Stores.{stores_law}
use Rattle.gv_rows.specs.Formed.{IsFormed, AreFormed}
use Rattle.gv_rows.specs.Rows.{Head, Owned, State, Spot, atom_of, slot_of, started}
use Rattle.gv_rows.specs.Table.{load_row, store_row}
use Rattle.gv_rows.specs.Told.{IsSpot}
use Rattle.gv_rows.specs.Laws.{LoadRowLaw, StoreRowLaw}
use Rattle.gv_rows.proofs.Inversion.{told_law}

pub taken_formed : {all left : List Atom} {a : Atom} → Takes all a left → AreFormed all → IsFormed a
taken_formed here f = f.0
taken_formed (there t) f = taken_formed t f.1

pub one_value : (xs : List TermTree) → length xs ≡ 1 → (v : TermTree) × (xs ≡ v ∷ [])
one_value [] e = absurd cc
one_value (v ∷ []) e = (v, refl)
one_value (v ∷ u ∷ xs) e = absurd cc

-- a cell that was found, owned or read-only
record CellFound (h : Path) (key : List TermTree) (x : Spot) : Type 0 where
  frozen : Bool
  v : TermTree
  value : x.value ≡ v ∷ []
  taken : Takes h.atoms (Owns (cell_kind frozen) key (v ∷ [])) x.others

cell_found : (h : Path) (key : List TermTree) (x : Spot) → AreFormed h.atoms → IsSpot (Owned kind.Cell) (Owned kind.FrozenCell) key h.atoms x → CellFound h key x
cell_found h key x formed spot = elim spot.root [
  | inl e ↦ (let t : Takes h.atoms (Owns kind.Cell key x.value) x.others = subst (λ (r : Head). Takes h.atoms (atom_of r key x.value) x.others) e spot.taken in
      let (v, is) = one_value x.value (taken_formed t formed 1 refl) in
      record { frozen = false; v = v; value = is; taken = subst (λ (xs : List TermTree). Takes h.atoms (Owns kind.Cell key xs) x.others) is t })
  | inr e ↦ (let t : Takes h.atoms (Owns kind.FrozenCell key x.value) x.others = subst (λ (r : Head). Takes h.atoms (atom_of r key x.value) x.others) e spot.taken in
      let (v, is) = one_value x.value (taken_formed t formed 1 refl) in
      record { frozen = true; v = v; value = is; taken = subst (λ (xs : List TermTree). Takes h.atoms (Owns kind.FrozenCell key xs) x.others) is t })
]

pub load_row_law : LoadRowLaw
load_row_law o h t x p object of field place rest may todo l term object_sort formed sorts applied =
    let (spot, is, came) = told_law (x ∷ []) load_row (started h (object ∷ number of ∷ number field ∷ [])) t applied in
    let key : List TermTree = object ∷ number of ∷ number field ∷ [] in
    let c = cell_found h key spot formed is in
    let (s, v_sort, local) = sorts c.frozen c.v spot.others c.taken in
    let gives = loads_law o h _ (loads x p object c.v of field c.frozen spot.others place rest may todo l term object_sort s v_sort local c.taken) in
    let value_is : slot_of (slice_get (key ++ spot.value) 3) ≡ c.v = ap (λ (xs : List TermTree). slot_of (slice_get (key ++ xs) 3)) c.value in
    let locals_are : slice_set h.locals x (Some c.v) ≡ t.path.locals = ap (λ (u : TermTree). slice_set h.locals x (Some u)) (sym value_is) ∙ ap (λ (u : State). u.path.locals) came in
    let atoms_are : h.atoms ≡ t.path.atoms = ap (λ (u : State). u.path.atoms) came in
    subst (λ (ls : List (Option TermTree)). IsSoundStep o changes_nothing h (goes_on h rest ls t.path.atoms ∷ [])) locals_are
    (subst (λ (as_now : List Atom). IsSoundStep o changes_nothing h (goes_on h rest (slice_set h.locals x (Some c.v)) as_now ∷ [])) atoms_are gives)

-- an item under a number becomes another
pub replaced : {A : Type 0} (all : List A) (n : ℕ) (a b : A) → slice_get all n ≡ Some a → Replaces all a b (slice_set all n b)
replaced [] n a b e = absurd cc
replaced (x ∷ all) zero a b e = let same : x ≡ a = cc in subst (λ y. Replaces (x ∷ all) y b (b ∷ all)) same rule.here
replaced (x ∷ all) (suc n) a b e = rule.there (replaced all n a b e)

pub store_row_law : StoreRowLaw
store_row_law o h t p e object u of field s place rest may todo term object_sort e_term u_sort local formed sorts applied =
    let (spot, is, came) = told_law [] store_row (started h (object ∷ number of ∷ number field ∷ u ∷ [])) t applied in
    let key : List TermTree = object ∷ number of ∷ number field ∷ [] in
    let root : spot.head ≡ Owned kind.Cell = elim is.root [ inl q ↦ q | inr q ↦ q ] in
    let taken : Takes h.atoms (Owns kind.Cell key spot.value) spot.others = subst (λ (r : Head). Takes h.atoms (atom_of r key spot.value) spot.others) root is.taken in
    let (v, one) = one_value spot.value (taken_formed taken formed 1 refl) in
    let there_now : slice_get h.atoms spot.place ≡ Some (Owns kind.Cell key (v ∷ [])) =
    is.at ∙ ap (λ (r : Head). Some (atom_of r key spot.value)) root ∙ ap (λ (xs : List TermTree). Some (Owns kind.Cell key xs)) one in
    let after = slice_set h.atoms spot.place (Owns kind.Cell key (u ∷ [])) in
    let gives = stores_law o h _ (stores p e object v u of field after place rest may todo term object_sort e_term s u_sort
    (sorts v spot.others (subst (λ (xs : List TermTree). Takes h.atoms (Owns kind.Cell key xs) spot.others) one taken)) local
    (replaced h.atoms spot.place (Owns kind.Cell key (v ∷ [])) (Owns kind.Cell key (u ∷ [])) there_now)) in
    let locals_are : h.locals ≡ t.path.locals = ap (λ (x : State). x.path.locals) came in
    let atoms_are : after ≡ t.path.atoms = ap (λ (x : State). x.path.atoms) came in
    subst (λ (ls : List (Option TermTree)). IsSoundWrite o h (goes_on h rest ls t.path.atoms ∷ [])) locals_are
    (subst (λ (as_now : List Atom). IsSoundWrite o h (goes_on h rest h.locals as_now ∷ [])) atoms_are gives)
