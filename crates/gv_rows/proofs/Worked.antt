-- Rows that are worked out.
use Rattle.std.proofs.Common.{◌≡◌, Bool, true, false, if◌then◌else◌, List, [], ◌∷◌, Some, refl, ap}
use Rattle.std.specs.Bool.{Decides}
use Rattle.std.proofs.lemmas.Slice.Eq.{slice_eq-Decides}
use Rattle.gv_terms.specs.declared.tree.TermTree.{TermTree}
use Rattle.gv_certs.proofs.Equality.{tree_eq_decides}
use Rattle.gv_resources.specs.Kinds as kind
use Rattle.gv_assertions.specs.Atoms.{Atom, Owns}
use Rattle.gv_rows.specs.Rows.{Owned, Sets, Slot, behind, same_terms, found, started, with_slots, with_place, at_spot, and_then, apply_row}
use Rattle.gv_rows.specs.Laws.{WorkedRowsLaw}

same_again : (ts : List TermTree) → same_terms ts ts ≡ true
same_again ts = by (same_terms ts ts) (slice_eq-Decides tree_eq_decides ts ts (same_terms ts ts) refl)
  where
    by : (b : Bool) → Decides b (ts ≡ ts) → b ≡ true
    by true d = refl
    by false d = d.1 refl

pub worked_rows : WorkedRowsLaw
worked_rows h x object of field v others = record {
  first =
      let key : List TermTree = object ∷ of ∷ field ∷ [] in
      let all : List Atom = Owns kind.Cell key (v ∷ []) ∷ others in
      let s = started (record h { atoms = all }) key in
      ap (λ (b : Bool). and_then (at_spot (if b then Some (record { place = 0; head = Owned kind.Cell; value = v ∷ []; others = others })
      else behind (Owns kind.Cell key (v ∷ [])) (found (Owned kind.Cell) (Owned kind.FrozenCell) key others)) (λ y. with_slots (with_place s y.place) y.value))
      (λ t. apply_row (x ∷ []) (Sets 0 (Slot 3) ∷ []) t)) (same_again key);
  absent = refl;
}
