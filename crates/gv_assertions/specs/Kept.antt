-- Assertions all of whose resources are of certain kinds, through every case of every predicate: those that a crash keeps, those that may be copied,
-- those without a token.
use Rattle.std.specs.Prelude.{◌≡◌, ℕ, Bool, true, List, [], ◌∷◌, Some, slice_get}
use Rattle.gv_terms.specs.declared.tree.TermTree.{TermTree}
use Rattle.gv_resources.specs.Kinds as kind
use Rattle.gv_resources.specs.Kinds.{Kind, item_kind, is_durable, is_persistent, is_token_free}
use Rattle.gv_assertions.specs.Atoms.{Atom, Owns, Slice, Spare, Instance, Each, Case, Predicate, atoms_of}

mutual
  pub data IsOfKinds (keeps : Kind → Bool) (preds : List Predicate) : Atom → Type 0 where
    of_owns : {k : Kind} {key value : List TermTree} → keeps k ≡ true → IsOfKinds keeps preds (Owns k key value)
    of_slice : {frozen : Bool} {s items : TermTree} → keeps (item_kind frozen) ≡ true → IsOfKinds keeps preds (Slice frozen s items)
    of_spare : {s : TermTree} → keeps kind.Item ≡ true → IsOfKinds keeps preds (Spare s)
    of_instance : {number : ℕ} {args : List TermTree}
        → ((pred : Predicate) (place : ℕ) (case : Case) → slice_get preds number ≡ Some pred → slice_get pred.cases place ≡ Some case
        → AreOfKinds keeps preds (atoms_of case.items))
        → IsOfKinds keeps preds (Instance number args)
    of_each : {index : List ℕ} {low high : TermTree} {except : List TermTree} {a : Atom} → IsOfKinds keeps preds a
        → IsOfKinds keeps preds (Each index low high except a)

  pub data AreOfKinds (keeps : Kind → Bool) (preds : List Predicate) : List Atom → Type 0 where
    of_none : AreOfKinds keeps preds []
    of_both : {a : Atom} {all : List Atom} → IsOfKinds keeps preds a → AreOfKinds keeps preds all → AreOfKinds keeps preds (a ∷ all)

abbrev pub IsDurable : List Predicate → Atom → Type 0
IsDurable preds a = IsOfKinds is_durable preds a

abbrev pub IsPersistent : List Predicate → Atom → Type 0
IsPersistent preds a = IsOfKinds is_persistent preds a

abbrev pub IsTokenFree : List Predicate → Atom → Type 0
IsTokenFree preds a = IsOfKinds is_token_free preds a
