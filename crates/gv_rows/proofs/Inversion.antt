-- What it tells that a row has been applied.
use Rattle.std.proofs.Common.{◌≡◌, ◌⊎◌, inl, inr, suc, Bool, true, false, not, ◌&&◌, ◌||◌, if◌then◌else◌, List, [], ◌∷◌, ◌++◌, Option, Some, None, Result, Ok, refl, sym, ap, subst, ◌∙◌}
use Rattle.std.specs.Prelude.{slice_get, slice_set}
use Rattle.std.specs.Bool.{Decides}
use Rattle.std.proofs.lemmas.Slice.Eq.{slice_eq-Decides}
use Rattle.gv_terms.specs.declared.tree.TermTree.{TermTree}
use Rattle.gv_terms.specs.Values.{bool_eq}
use Rattle.gv_certs.specs.declared.cause.Cause.{Cause}
use Rattle.gv_certs.specs.declared.cause.Cause.TheVariants as cause
use Rattle.gv_certs.specs.Known.{is_known}
use Rattle.gv_certs.proofs.Equality.{tree_eq_decides}
use Rattle.gv_resources.specs.Kinds.{Kind, kind_eq}
use Rattle.gv_resources.proofs.Equality.{kind_tells}
use Rattle.gv_assertions.specs.Atoms.{Atom, Owns, Slice, Spare, Instance, Each, here, there}
use Rattle.gv_assertions.specs.Atoms as atoms
use Rattle.gv_seats.specs.Paths.{Opened, Closed}
use Rattle.gv_rows.specs.Rows.{Head, Owned, Cells, Spares, same_head, Named, named, atom_of, Reads, Takes, Becomes, Adds, Knows, Fact, Sets, NotUsed, IsClosed, NotClosed, InShared, Opens, Closes, Fails, State, Spot, behind, fits_key, this_or, found, term, terms, same_terms, with_atoms, with_slots, with_place, with_bracket, place_of, is_closed, is_used, is_shared, need, at_spot, and_then, apply_row}
use Rattle.gv_rows.specs.Told.{IsSpot}
use Rattle.gv_rows.specs.Laws.{ToldLaw}

-- ---- tests

both_true : (a b : Bool) → (a && b) ≡ true → (a ≡ true) × (b ≡ true)
both_true true b e = (refl, e)
both_true false b e = absurd cc

either_true : (a b : Bool) → (a || b) ≡ true → (a ≡ true) ⊎ (b ≡ true)
either_true true b e = inl refl
either_true false b e = inr e

same_bools : (a b : Bool) → bool_eq a b ≡ true → a ≡ b
same_bools true b e = sym e
same_bools false true e = absurd cc
same_bools false false e = refl

kinds_same : (k l : Kind) → kind_eq k l ≡ true → k ≡ l
kinds_same k l e = elim (kind_tells k l) [ inl (same, t) ↦ same | inr (ne, t) ↦ (let never : true ≡ false = sym e ∙ t in absurd cc) ]

heads_same : (h g : Head) → same_head h g ≡ true → h ≡ g
heads_same (Owned k) (Owned l) e = ap Owned (kinds_same k l e)
heads_same (Cells a) (Cells b) e = ap Cells (same_bools a b e)
heads_same Spares Spares e = refl
heads_same (Owned k) (Cells b) e = absurd cc
heads_same (Owned k) Spares e = absurd cc
heads_same (Cells a) (Owned l) e = absurd cc
heads_same (Cells a) Spares e = absurd cc
heads_same Spares (Owned l) e = absurd cc
heads_same Spares (Cells b) e = absurd cc

terms_same : (ts us : List TermTree) → same_terms ts us ≡ true → ts ≡ us
terms_same ts us e = by (same_terms ts us) (slice_eq-Decides tree_eq_decides ts us (same_terms ts us) refl) e
  where
    by : (b : Bool) → Decides b (ts ≡ us) → b ≡ true → ts ≡ us
    by b d e = d.0 e

-- ---- what is found

-- an assertion is what stands at its root and below it
named_is : (a : Atom) (n : Named) → named a ≡ Some n → a ≡ atom_of n.head n.key n.value
named_is (Owns k key value) n e = let same : record { head = Owned k; key = key; value = value } ≡ n = cc in ap (λ (x : Named). atom_of x.head x.key x.value) same
named_is (Slice frozen s items) n e = let same : record { head = Cells frozen; key = s ∷ []; value = items ∷ [] } ≡ n = cc in ap (λ (x : Named). atom_of x.head x.key x.value) same
named_is (Spare s) n e = let same : record { head = Spares; key = s ∷ []; value = [] } ≡ n = cc in ap (λ (x : Named). atom_of x.head x.key x.value) same
named_is (Instance place args) n e = absurd cc
named_is (Each index low high except a) n e = absurd cc

module _ (h g : Head) (key : List TermTree) where
  later_spot : (a : Atom) (all : List Atom) (x : Spot) (o : Option Spot) → ((y : Spot) → o ≡ Some y → IsSpot h g key all y) → behind a o ≡ Some x → IsSpot h g key (a ∷ all) x
  later_spot a all x None rest e = absurd cc
  later_spot a all x (Some y) rest e =
      let spot = rest y refl in
      let same : record { place = suc y.place; head = y.head; value = y.value; others = a ∷ y.others } ≡ x = cc in
      subst (λ (z : Spot). IsSpot h g key (a ∷ all) z) same (record { root = spot.root; taken = there spot.taken; at = spot.at })

  here_or : (a : Atom) (all : List Atom) (x : Spot) (o : Option Named) (later : Option Spot) → named a ≡ o → ((y : Spot) → later ≡ Some y → IsSpot h g key all y)
      → this_or h g key a all o later ≡ Some x → IsSpot h g key (a ∷ all) x
  here_or a all x None later is rest e = later_spot a all x later rest e
  here_or a all x (Some n) later is rest e = tested (fits_key h g key n) refl e
    where
      tested : (b : Bool) → fits_key h g key n ≡ b → (if b then Some (record { place = 0; head = n.head; value = n.value; others = all }) else behind a later) ≡ Some x
          → IsSpot h g key (a ∷ all) x
      tested false t e = later_spot a all x later rest e
      tested true t e =
          let fits = both_true (same_head n.head h || same_head n.head g) (same_terms n.key key) t in
          let key_is = terms_same n.key key fits.1 in
          let atom_is : a ≡ atom_of n.head key n.value = named_is a n is ∙ ap (λ (k : List TermTree). atom_of n.head k n.value) key_is in
          let same : record { place = 0; head = n.head; value = n.value; others = all } ≡ x = cc in
          subst (λ (z : Spot). IsSpot h g key (a ∷ all) z) same (record {
            root = elim (either_true (same_head n.head h) (same_head n.head g) fits.0) [ inl p ↦ inl (heads_same n.head h p) | inr p ↦ inr (heads_same n.head g p) ];
            taken = subst (λ (b : Atom). atoms.Takes (a ∷ all) b all) atom_is here;
            at = ap Some atom_is;
          })

  pub found_spot : (all : List Atom) (x : Spot) → found h g key all ≡ Some x → IsSpot h g key all x
  found_spot [] x e = absurd cc
  found_spot (a ∷ all) x e = here_or a all x (named a) (found h g key all) refl (λ y q. found_spot all y q) e

-- ---- rows

tested : (b : Bool) (c : Cause) (s t : State) (next : State → Result State Cause) → and_then (need b c s) next ≡ Ok t → (b ≡ true) × (next s ≡ Ok t)
tested true c s t next e = (refl, e)
tested false c s t next e = absurd cc

was_found : (o : Option Spot) (to : Spot → State) (t : State) (next : State → Result State Cause) → and_then (at_spot o to) next ≡ Ok t → (x : Spot) × (o ≡ Some x) × (next (to x) ≡ Ok t)
was_found None to t next e = absurd cc
was_found (Some x) to t next e = (x, refl, e)

not_true : (b : Bool) → not b ≡ true → b ≡ false
not_true true e = absurd cc
not_true false e = refl

ok_same : (s t : State) → ◌≡◌ {A = Result State Cause} (Ok s) (Ok t) → s ≡ t
ok_same s t e = cc

pub told_law : ToldLaw
told_law locals [] s t e = ok_same s t e
told_law locals (Reads h g key ∷ row) s t e =
    let (x, is, rest) = was_found (found h g (terms s.slots key) s.path.atoms) (λ x. with_slots (with_place s x.place) x.value) t (λ u. apply_row locals row u) e in
    (x, found_spot h g (terms s.slots key) s.path.atoms x is, told_law locals row (with_slots (with_place s x.place) x.value) t rest)
told_law locals (Takes h key ∷ row) s t e =
    let (x, is, rest) = was_found (found h h (terms s.slots key) s.path.atoms) (λ x. with_atoms (with_slots s x.value) x.others) t (λ u. apply_row locals row u) e in
    (x, found_spot h h (terms s.slots key) s.path.atoms x is, told_law locals row (with_atoms (with_slots s x.value) x.others) t rest)
told_law locals (Becomes n h key value ∷ row) s t e =
    told_law locals row (with_atoms s (slice_set s.path.atoms (place_of (slice_get s.places n)) (atom_of h (terms s.slots key) (terms s.slots value)))) t e
told_law locals (Adds h key value ∷ row) s t e = told_law locals row (with_atoms s (s.path.atoms ++ atom_of h (terms s.slots key) (terms s.slots value) ∷ [])) t e
told_law locals (Knows f ∷ row) s t e =
    let m = tested (is_known s.path.facts (term s.slots f)) cause.NotKnown s t (λ u. apply_row locals row u) e in
    (m.0, told_law locals row s t m.1)
told_law locals (Fact f ∷ row) s t e = told_law locals row (record s { path = record (s.path) { facts = s.path.facts ++ term s.slots f ∷ [] } }) t e
told_law locals (Sets x u ∷ row) s t e =
    told_law locals row (record s { path = record (s.path) { locals = slice_set s.path.locals (place_of (slice_get locals x)) (Some (term s.slots u)) } }) t e
told_law locals (NotUsed ∷ row) s t e =
    let m = tested (not (is_used s.path.bracket)) cause.Bracket s t (λ u. apply_row locals row u) e in
    (not_true (is_used s.path.bracket) m.0, told_law locals row s t m.1)
told_law locals (IsClosed ∷ row) s t e =
    let m = tested (is_closed s.path.bracket) cause.Bracket s t (λ u. apply_row locals row u) e in
    (m.0, told_law locals row s t m.1)
told_law locals (NotClosed ∷ row) s t e =
    let m = tested (not (is_closed s.path.bracket)) cause.Bracket s t (λ u. apply_row locals row u) e in
    (not_true (is_closed s.path.bracket) m.0, told_law locals row s t m.1)
told_law locals (InShared ∷ row) s t e =
    let m = tested (is_shared s.path.mode) cause.Mode s t (λ u. apply_row locals row u) e in
    (m.0, told_law locals row s t m.1)
told_law locals (Opens ∷ row) s t e = told_law locals row (with_bracket s Opened) t e
told_law locals (Closes ∷ row) s t e = told_law locals row (with_bracket s Closed) t e
told_law locals (Fails c ∷ row) s t e = absurd cc
