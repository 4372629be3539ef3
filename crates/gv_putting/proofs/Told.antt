-- What is told after a cell of a slice gets another value.
use Rattle.std.proofs.Common.{◌≡◌, ◌≢◌, ℕ, Bool, true, false, ◌&&◌, List, [], ◌∷◌, Option, Some, None, refl, sym, ap, ◌∙◌, inl, inr}
use Rattle.gv_terms.specs.declared.value.Value.{Value}
use Rattle.gv_terms.specs.declared.value.Value.TheVariants as val
use Rattle.gv_terms.specs.Values.{bool_eq}
use Rattle.gv_world.specs.declared.cell.Cell.{Cell}
use Rattle.gv_world.specs.Store.{Store as World}
use Rattle.gv_resources.specs.Kinds as kind
use Rattle.gv_resources.specs.Kinds.{Kind}
use Rattle.gv_resources.specs.Ghost.{Ghost}
use Rattle.gv_resources.specs.Told.{Shape, told, under, only_if, value_of, in_cell, cell_at, free_mutex, held_mutex, guarded_by, cell_of, object_of}
use Rattle.gv_resources.proofs.Fitting.{retold, retold_test}
use Rattle.gv_resources.proofs.Sums.{number_test}
use Rattle.gv_seats.proofs.Objects.{HasCell, with_cell, cell_there, cell_elsewhere}
use Rattle.gv_seats.proofs.Telling.{under_same, maps_same, locks_same}

some_same : {A : Type 0} (x y : A) → Some x ≡ Some y → x ≡ y
some_same x y e = cc

some_pair : (k : ℕ × ℕ) (o i : ℕ) → k.0 ≡ o → k.1 ≡ i → ◌≡◌ {A = Option (ℕ × ℕ)} (Some k) (Some (o, i))
some_pair k o i a b =
    let found : ℕ × ℕ = (k.0, k.1) in
    let wanted : ℕ × ℕ = (o, i) in
    let same : found ≡ wanted = cc in
    ap Some same

key_is : (key : List Value) (object place : ℕ) → cell_of key ≡ Some (object, place) → key ≡ val.Ref object ∷ val.Word place ∷ []
key_is (val.Ref o ∷ val.Word i ∷ []) object place e =
    let found : ℕ × ℕ = (o, i) in
    let wanted : ℕ × ℕ = (object, place) in
    let same : found ≡ wanted = some_same found wanted e in
    let a : o ≡ object = ap (λ (x : ℕ × ℕ). x.0) same in
    let b : i ≡ place = ap (λ (x : ℕ × ℕ). x.1) same in
    rw (a, b) refl
key_is _ object place e = absurd cc

test_of : {A : Type 0} (test : Bool) (x : Option A) (v : A) → only_if test x ≡ Some v → test ≡ true
test_of true x v e = refl
test_of false x v e = absurd cc

-- a test that asks for another kind of cell fails
frozen_fails : {A : Type 0} (a b sliced : Bool) (x : Option A) → (bool_eq a false && bool_eq b true) ≡ true → only_if (bool_eq a true && bool_eq b sliced) x ≡ None
frozen_fails true b sliced x e = absurd cc
frozen_fails false b sliced x e = refl

plain_fails : {A : Type 0} (a b frozen : Bool) (x : Option A) → (bool_eq a false && bool_eq b true) ≡ true → only_if (bool_eq a frozen && bool_eq b false) x ≡ None
plain_fails true b frozen x e = absurd cc
plain_fails false false frozen x e = absurd cc
plain_fails false true true x e = refl
plain_fails false true false x e = refl

only_true : {A : Type 0} (test : Bool) (x : Option A) → test ≡ true → only_if test x ≡ x
only_true true x e = refl
only_true false x e = absurd cc

module _ (z : Shape) (g : Ghost) (w : World) (object place : ℕ) (c d : Cell) (h : HasCell w object place c) (old : List Value)
    (was : told z w g kind.Item (val.Ref object ∷ val.Word place ∷ []) ≡ Some old) where
  abbrev now : World
  now = with_cell w object place h.cells d

  abbrev here : List Value
  here = val.Ref object ∷ val.Word place ∷ []

  sliced_cell : (bool_eq (g.frozen object place) false && bool_eq (g.sliced object) true) ≡ true
  sliced_cell = test_of _ _ old was

  -- elsewhere nothing changes, and here nothing is told of another kind of cell
  elsewhere : (frozen sliced : Bool) (o i : ℕ) → (o ≡ object → i ≢ place) → cell_at w g frozen sliced o i ≡ cell_at now g frozen sliced o i
  elsewhere frozen sliced o i ne = ap (λ x. only_if (bool_eq (g.frozen o i) frozen && bool_eq (g.sliced o) sliced) (in_cell x)) (sym (cell_elsewhere w object place c d h o i ne))

  others_same : (frozen sliced : Bool) → ((x : Option (List Value)) → only_if (bool_eq (g.frozen object place) frozen && bool_eq (g.sliced object) sliced) x ≡ None) → (o i : ℕ)
      → cell_at w g frozen sliced o i ≡ cell_at now g frozen sliced o i
  others_same frozen sliced fails o i = elim (number_test o object) [
    | inl (e, b) ↦ elim (number_test i place) [
      | inl (f, t) ↦ (let same : cell_at w g frozen sliced object place ≡ cell_at now g frozen sliced object place = fails _ ∙ sym (fails _) in rw (e, f) same)
      | inr (ne, t) ↦ elsewhere frozen sliced o i (λ q. ne)
    ]
    | inr (ne, b) ↦ elsewhere frozen sliced o i (λ q. absurd (ne q))
  ]

  told_here : told z now g kind.Item here ≡ Some (value_of d.value ∷ [])
  told_here = only_true _ _ sliced_cell ∙ ap in_cell (cell_there w object place c d h)

  item_after : (key : List Value) → (key ≢ here) → told z w g kind.Item key ≡ told z now g kind.Item key
  item_after key ne = at (cell_of key) refl
    where
      at : (found : Option (ℕ × ℕ)) → found ≡ cell_of key → under found (λ k. cell_at w g false true k.0 k.1) ≡ under found (λ k. cell_at now g false true k.0 k.1)
      at None e = refl
      at (Some k) e = elsewhere false true k.0 k.1
          (λ same_object same_place. ne (key_is key object place (sym e ∙ some_pair k object place same_object same_place)))

  pub told_item : (k : Kind) (key : List Value) → retold (told z w g) kind.Item here (Some (value_of d.value ∷ [])) k key ≡ told z now g k key
  told_item k key = elim (retold_test (told z w g) kind.Item here (Some (value_of d.value ∷ [])) k key) [
    | inl (a, b, t) ↦ (let same : told z now g k key ≡ Some (value_of d.value ∷ []) = rw (a, b) told_here in t ∙ sym same)
    | inr (ne, t) ↦ t ∙ rest k key ne
  ]
    where
      rest : (k : Kind) (key : List Value) → (k ≡ kind.Item → key ≢ here) → told z w g k key ≡ told z now g k key
      rest kind.Item key ne = item_after key (ne refl)
      rest kind.FrozenItem key ne = under_same (cell_of key) _ _ (λ k. others_same true true (λ x. frozen_fails (g.frozen object place) (g.sliced object) true x sliced_cell) k.0 k.1)
      rest kind.Cell key ne = under_same (cell_of key) _ _ (λ k. others_same false false (λ x. plain_fails (g.frozen object place) (g.sliced object) false x sliced_cell) k.0 k.1)
      rest kind.FrozenCell key ne = under_same (cell_of key) _ _ (λ k. others_same true false (λ x. frozen_fails (g.frozen object place) (g.sliced object) false x sliced_cell) k.0 k.1)
      rest kind.Map key ne = under_same (object_of key) _ _ (λ o. sym (maps_same z g w object place c d h o))
      rest kind.Mutex key ne = under_same (object_of key) _ _ (λ o. ap (λ x. free_mutex x (g.guards o)) (sym (locks_same z g w object place c d h o)))
      rest kind.Held key ne = under_same (object_of key) _ _ (λ o. ap (λ x. held_mutex x (g.guards o)) (sym (locks_same z g w object place c d h o)))
      rest kind.Lock key ne = under_same (object_of key) _ _ (λ o. ap (λ x. guarded_by x (g.guards o)) (sym (locks_same z g w object place c d h o)))
      rest _ key ne = refl
